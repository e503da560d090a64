-- The step without the limit: its accepted events are the moves, and it reaches what `step` reaches.
use Rattle.std.specs.Prelude.{ℕ, ◌+◌, ◌-◌, ◌≤◌, ◌≡◌, refl, true, not, leb, length, Option, Some, None}
use Rattle.std.proofs.Common.{sym, ap, subst, ◌∙◌, arith, leb-false, ltb-false, le-ltb}
use Rattle.std.proofs.lemmas.Bool.{not-false, lt-leb}
use Rattle.words.specs.Ranges.{within}
use Rattle.words.specs.Stamps.{newer}
use Rattle.replica.specs.Answer.{Answer}
use Rattle.replica.specs.declared.Ended.TheVariants.{Query as Queried, At as Ended}
use Rattle.replica.specs.declared.Phase.TheVariants.{Idle, Updating}
use Rattle.replica.specs.declared.Sends.TheVariants.{Nothing}
use Rattle.replica.specs.Handlers.{is_idle, read_rule, write_rule, crash_rule}
use Rattle.replica.specs.Numbers.{sent_by, pointed}
use Rattle.tables.specs.Tables.{seek, removed}
use Rattle.state.specs.declared.Event.{Event}
use Rattle.state.specs.declared.Event.TheVariants.{Read, Write, Deliver, Crash, Lose}
use Rattle.state.specs.State.{State, replica_of, row_of, fresh}
use Rattle.state.specs.Step.{Outcome, outcome, no_room, lose_at}
use Rattle.state.specs.Step.{moved, answered_rows}
use Rattle.state.specs.Step.{step}
use Rattle.state.specs.Accepted.{message_at, recipient_at, deliver_next}
use Rattle.state.proofs.AcceptedLaws.{passed}
use Rattle.state.specs.Reached.{Reached}
use Rattle.state.specs.Reached.Reached.{start, next as after}
use Rattle.state.proofs.PairLaws.{within-ok, ok-within}
use Rattle.moves.specs.Free.{free_invoke, free_receive, free_deliver, free_step, FreelyReached}
use Rattle.moves.specs.Free.FreelyReached.{start as freely, next as then}
use Rattle.moves.specs.Move.{Begins, Delivers, clock_then, repliers_then, ending, telling, arrived as taken, Move}
use Rattle.moves.specs.Move.Move.{reads, writes, responds, stores, discards, counts, chooses, gathers, completes, crashes, loses}
use Rattle.moves.proofs.AnswerLaws.{answer_at, query-answer, update-answer, discards-answer}
use Rattle.moves.proofs.AnswerLaws.{counts-answer, chooses-answer, gathers-answer, completes-answer}
use Rattle.moves.proofs.MoveLaws.{is-idle, delivery-moves, moves}

abbrev pub accepting : State → Outcome
accepting t = record { refusal = 0; state = t }

accepts : (s : State) (number : ℕ) (next : State) → number ≡ 0 → outcome s number next ≡ accepting next
accepts s number next e = subst (λ (k : ℕ). outcome s k next ≡ accepting next) (sym e) refl

moves-on : (s : State) (e : Event) (number : ℕ) (next : State) → number ≡ 0 → Move s e next → Move s e (outcome s number next).state
moves-on s e number next z move = subst (λ (o : Outcome). Move s e o.state) (sym (accepts s number next z)) move

-- ---- the checks, read and passed

pub free-begins : (s : State) (p x : ℕ) → free_invoke s p x ≡ 0 → Begins s p x
free-begins s p x e =
    let e₁ = passed (not (within p s.n)) 8 _ refl e in
    let e₂ = passed (not (within x s.m)) 9 _ refl e₁.1 in
    let e₃ = passed (replica_of s p).crashed 10 _ refl e₂.1 in
    let e₄ = passed (not (is_idle (replica_of s p).phase)) 11 _ refl e₃.1 in
    let e₅ = passed (leb 1024 (length s.rows)) 16 _ refl e₄.1 in
    let e₆ = passed (no_room (length s.flight + s.n)) 15 _ refl e₅.1 in
    record {
      actor = within-ok p s.n (not-false _ e₁.0);
      register = within-ok x s.m (not-false _ e₂.0);
      up = e₃.0;
      idle = is-idle (replica_of s p).phase (not-false _ e₄.0);
      rows = leb-false 1024 (length s.rows) e₅.0;
      room = ltb-false 512 (length s.flight + s.n) e₆.0;
    }

begins-free : (s : State) (p x : ℕ) → Begins s p x → free_invoke s p x ≡ 0
begins-free s p x b =
    rw (ok-within b.actor, ok-within b.register, b.up, b.idle, lt-leb 1024 _ b.rows, le-ltb 512 _ b.room) refl

-- ---- its accepted events are the moves

pub free-moves : (s : State) (e : Event) → (free_step s e).refusal ≡ 0 → Move s e (free_step s e).state
unfolding free_step read_rule write_rule crash_rule
free-moves s (Read p x) z = moves-on s (Read p x) _ _ z (reads p x (free-begins s p.0 x z))
free-moves s (Write p x value) z = moves-on s (Write p x value) _ _ z (writes p x value (free-begins s p.0 x z))
free-moves s (Deliver k) z = by (seek k 0 s.flight) refl z
  where
    by : (found : Option ℕ) → seek k 0 s.flight ≡ found → (free_deliver s found).refusal ≡ 0 → Move s (Deliver k) (free_deliver s found).state
    by None f z = absurd (omega arith)
    by (Some i) f z =
        let e₁ = passed (recipient_at s i).crashed 13 _ refl z in
        let e₂ = passed (no_room (length s.flight - 1 + sent_by s.n (answer_at s i).sends)) 15 _ refl e₁.1 in
        moves-on s (Deliver k) _ _ z (delivery-moves s k i f e₁.0 (ltb-false 512 _ e₂.0))
free-moves s (Crash p) z =
    let e₁ = passed (not (within p.0 s.n)) 8 _ refl z in
    let e₂ = passed (replica_of s p.0).crashed 10 _ refl e₁.1 in
    moves-on s (Crash p) _ _ z (crashes p (within-ok p.0 s.n (not-false _ e₁.0)) e₂.0)
free-moves s (Lose k) z = by (seek k 0 s.flight) refl z
  where
    by : (found : Option ℕ) → seek k 0 s.flight ≡ found → (lose_at s found).refusal ≡ 0 → Move s (Lose k) (lose_at s found).state
    by None f z = absurd (omega arith)
    by (Some i) f z = moves-on s (Lose k) _ _ z (loses k i f (not-false _ (passed _ 14 0 refl z).0))

-- the message at place i was delivered with this answer
abbrev pub taken_by : State → ℕ → Answer → State
taken_by s i answer =
    moved s (message_at s i).to.0 answer (removed i s.flight) (s.delivered + 1)
    (answered_rows s.rows (pointed (recipient_at s i).phase) answer.ended)

delivered-free : (s : State) (k i count : ℕ) → Delivers s k i count → (answer : Answer) → answer_at s i ≡ answer → sent_by s.n answer.sends ≡ count
    → free_step s (Deliver k) ≡ accepting (taken_by s i answer)
unfolding free_step
delivered-free s k i count d answer e f =
    ap (free_deliver s) d.found ∙ accepts s (free_receive s i) (deliver_next s i) passes ∙ ap (λ a. accepting (taken_by s i a)) e
  where
    room : length s.flight - 1 + sent_by s.n (answer_at s i).sends ≤ 512
    room = omega (arith, d.room, ap (λ (a : Answer). sent_by s.n a.sends) e)

    passes : free_receive s i ≡ 0
    passes = rw (d.up, le-ltb 512 _ room) refl

-- and a move is what it accepts
pub moves-free : {s : State} {e : Event} {t : State} → Move s e t → free_step s e ≡ accepting t
unfolding free_step read_rule write_rule crash_rule
moves-free {s} (reads p x b) = accepts s _ _ (begins-free s p.0 x b)
moves-free {s} (writes p x value b) = accepts s _ _ (begins-free s p.0 x b)
moves-free {s} (responds k i x d e) = delivered-free s k i 1 d _ (query-answer s i x e) refl
moves-free {s} (stores k i x pair d e) = delivered-free s k i 1 d _ (update-answer s i x pair e) refl
moves-free {s} (discards k i d e) = delivered-free s k i 0 d _ (discards-answer s i e) refl
moves-free {s} (counts k i row gathered pair d c l) = delivered-free s k i 0 d _ (counts-answer s i row gathered pair c l) refl
moves-free {s} (chooses k i row gathered pair d c l) =
    delivered-free s k i s.n d _ (chooses-answer s i row gathered pair c l) refl
    ∙ ap (λ number. accepting (taken s i (ending s i (Updating row (newer gathered.best pair)))
    (telling s i (row_of s row).register (newer gathered.best pair)) (answered_rows s.rows number (Queried (repliers_then s i)))))
    (ap pointed c.phase)
moves-free {s} (gathers k i row sent d c l) = delivered-free s k i 0 d _ (gathers-answer s i row sent c l) refl
moves-free {s} (completes k i row sent d c l) =
    delivered-free s k i 0 d _ (completes-answer s i row sent c l) refl
    ∙ ap (λ number. accepting (taken s i (ending s i Idle) Nothing (answered_rows s.rows number (Ended (record { 0 = clock_then s i }) sent (repliers_then s i)))))
    (ap pointed c.phase)
moves-free {s} (crashes p a up) = accepts s _ _ (rw (ok-within a, up) refl)
moves-free {s} (loses k i f down) = ap (lose_at s) f ∙ accepts s _ _ (rw down refl)

-- ---- the states reached

-- what `step` accepts the step without the limit accepts too, with the same next state
pub accepted-free : (s : State) (e : Event) → (step s e).refusal ≡ 0 → free_step s e ≡ accepting (step s e).state
accepted-free s e z = moves-free (moves s e z)

pub reached-freely : {s : State} → Reached s → FreelyReached s
reached-freely (start n m f g) = freely n m f g
reached-freely (after s e r z) =
    let same = accepted-free s e z in
    subst (λ (o : Outcome). FreelyReached o.state) same (then s e (reached-freely r) (ap (λ (o : Outcome). o.refusal) same))

-- what holds of a fresh start and is kept by every move holds of them all
pub freely-kept : (P : State → Type 0) → ((n m : ℕ) → within n 7 ≡ true → within m 16 ≡ true → P (fresh n m))
    → ((s : State) (e : Event) (t : State) → FreelyReached s → P s → Move s e t → P t) → {s : State} → FreelyReached s → P s
freely-kept P begin keep (freely n m f g) = begin n m f g
freely-kept P begin keep (then s e r z) = keep s e (free_step s e).state r (freely-kept P begin keep r) (free-moves s e z)
