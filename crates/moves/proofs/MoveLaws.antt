-- Every accepted event is a move.
use Rattle.std.specs.Prelude.{ℕ, ◌+◌, ◌-◌, ◌≤◌, ◌<◌, ◌≡◌, refl, true, false, length, Some}
use Rattle.std.proofs.Common.{sym, ap, subst, ◌∙◌, arith}
use Rattle.std.proofs.lemmas.Bool.{false≢true}
use Rattle.std.proofs.Math.Decide.{ℕ_discrete, dec_le}
use Rattle.words.specs.declared.Body.{Body}
use Rattle.words.specs.declared.Body.TheVariants.{Query, Response, Update, Ack}
use Rattle.words.specs.declared.Pair.{Pair}
use Rattle.words.specs.Quorum.{counted}
use Rattle.words.specs.Stamps.{newer}
use Rattle.replica.specs.Answer.{Answer}
use Rattle.replica.specs.declared.Ended.TheVariants.{Pending, Query as Queried, At as Ended}
use Rattle.replica.specs.declared.Gathered.{Gathered}
use Rattle.replica.specs.declared.Phase.{Phase}
use Rattle.replica.specs.declared.Phase.TheVariants.{Idle, Querying, Updating}
use Rattle.replica.specs.declared.Sends.TheVariants.{Nothing}
use Rattle.replica.specs.Handlers.{discarded, is_idle, read_rule, write_rule, crash_rule}
use Rattle.replica.specs.Answer.{accepted}
use Rattle.replica.specs.Numbers.{sent_by, pointed}
use Rattle.tables.specs.Tables.{seek, removed}
use Rattle.state.specs.declared.Event.{Event}
use Rattle.state.specs.declared.Event.TheVariants.{Read, Write, Deliver, Crash, Lose}
use Rattle.state.specs.State.{State, replica_of, row_of}
use Rattle.state.specs.Step.{moved, answered_rows, step}
use Rattle.state.specs.Accepted.{message_at, recipient_at, deliver_next}
use Rattle.state.proofs.AcceptedLaws.{Invoked}
use Rattle.state.proofs.AcceptedLaws.{read-accepted, write-accepted, deliver-accepted, crash-accepted, lose-accepted}
use Rattle.state.specs.Needed.{needed}
use Rattle.moves.specs.Stages.{is_reply, stage_of, stage_for}
use Rattle.moves.specs.Move.{Begins, Delivers, Responds, Acks, Discarded, clock_then, repliers_then, ending, telling, Move}
use Rattle.moves.specs.Move.Move.{reads, writes, responds, stores, discards, counts, chooses, gathers, completes, crashes, loses}
use Rattle.moves.proofs.AnswerLaws.{answer_at, query-answer, update-answer, discards-answer}
use Rattle.moves.proofs.AnswerLaws.{counts-answer, chooses-answer, gathers-answer, completes-answer}

-- ---- a delivery, by the message's body, the phase, the number and the count

module _ (s : State) (k i : ℕ) (found : seek k 0 s.flight ≡ Some i) (up : (recipient_at s i).crashed ≡ false) where
  abbrev Taken : Answer → Type 0
  Taken answer =
      length s.flight - 1 + sent_by s.n answer.sends ≤ 512
      → Move s (Deliver k)
      (moved s (message_at s i).to.0 answer (removed i s.flight) (s.delivered + 1)
      (answered_rows s.rows (pointed (recipient_at s i).phase) answer.ended))

  with-room : (count : ℕ) → length s.flight - 1 + count ≤ 512 → Delivers s k i count
  with-room count room = record { found = found; up = up; room = room }

  taken_as : (answer : Answer) → answer_at s i ≡ answer → Taken answer → Taken (answer_at s i)
  taken_as answer e h = subst Taken (sym e) h

  discarded-taken : Discarded s i → Taken (answer_at s i)
  discarded-taken d = taken_as (discarded (recipient_at s i)) (discards-answer s i d) (λ room. discards k i (with-room 0 room) d)

  other-phase : (body : Body) (phase : Phase) → (message_at s i).body ≡ body → (recipient_at s i).phase ≡ phase → is_reply body ≡ true
      → (stage_of phase ≡ stage_for body → ⊥) → Taken (answer_at s i)
  other-phase body phase e f reply n =
      discarded-taken (record { reply = ap is_reply e ∙ reply; another = λ g. absurd (n (ap stage_of (sym f) ∙ g ∙ ap stage_for e)) })

  other-number : is_reply (message_at s i).body ≡ true → ((message_at s i).rid.0 ≡ (recipient_at s i).rid.0 → ⊥) → Taken (answer_at s i)
  other-number reply n = discarded-taken (record { reply = reply; another = λ g. n })

  response-taken : (pair : Pair) → (message_at s i).body ≡ Response pair → Taken (answer_at s i)
  response-taken pair e = by (recipient_at s i).phase refl
    where
      -- the row whose query phase ends is the one that the phase points to
      chosen-taken : (row : ℕ) (gathered : Gathered) → Responds s i row gathered pair → needed s (Querying row gathered) ≤ counted (repliers_then s i)
          → Taken (accepted (ending s i (Updating row (newer gathered.best pair)))
          (telling s i (row_of s row).register (newer gathered.best pair)) (Queried (repliers_then s i)))
      chosen-taken row gathered c l room =
          subst
          (λ (number : ℕ).
          Move s (Deliver k)
          (moved s (message_at s i).to.0
          (accepted (ending s i (Updating row (newer gathered.best pair))) (telling s i (row_of s row).register (newer gathered.best pair)) Pending)
          (removed i s.flight) (s.delivered + 1) (answered_rows s.rows number (Queried (repliers_then s i)))))
          (sym (ap pointed c.phase))
          (chooses k i row gathered pair (with-room s.n room) c l)

      counted-taken : (row : ℕ) (gathered : Gathered) → Responds s i row gathered pair → Taken (answer_at s i)
      counted-taken row gathered c =
          elim (dec_le (needed s (Querying row gathered)) (counted (repliers_then s i))) [
            | yes l ↦ taken_as _ (chooses-answer s i row gathered pair c l) (chosen-taken row gathered c l)
            | no n ↦
                let l : counted (repliers_then s i) < needed s (Querying row gathered) = omega arith in
                taken_as _ (counts-answer s i row gathered pair c l) (λ room. counts k i row gathered pair (with-room 0 room) c l)
          ]

      by : (phase : Phase) → (recipient_at s i).phase ≡ phase → Taken (answer_at s i)
      by Idle f = other-phase (Response pair) Idle e f refl (λ g. let z : ◌≡◌ {A = ℕ} 0 1 = cc in omega arith)
      by (Updating row sent) f = other-phase (Response pair) (Updating row sent) e f refl (λ g. let z : ◌≡◌ {A = ℕ} 0 1 = cc in omega arith)
      by (Querying row gathered) f =
          elim (ℕ_discrete (message_at s i).rid.0 (recipient_at s i).rid.0) [
            | yes g ↦ counted-taken row gathered (record { body = e; phase = f; present = g })
            | no n ↦ other-number (ap is_reply e) n
          ]

  ack-taken : (message_at s i).body ≡ Ack → Taken (answer_at s i)
  ack-taken e = by (recipient_at s i).phase refl
    where
      -- the row that is completed is the one that the phase points to
      completed-taken : (row : ℕ) (sent : Pair) → Acks s i row sent → needed s (Updating row sent) ≤ counted (repliers_then s i)
          → Taken (accepted (ending s i Idle) Nothing (Ended (record { 0 = clock_then s i }) sent (repliers_then s i)))
      completed-taken row sent c l room =
          subst
          (λ (number : ℕ).
          Move s (Deliver k)
          (moved s (message_at s i).to.0 (accepted (ending s i Idle) Nothing Pending) (removed i s.flight) (s.delivered + 1)
          (answered_rows s.rows number (Ended (record { 0 = clock_then s i }) sent (repliers_then s i)))))
          (sym (ap pointed c.phase))
          (completes k i row sent (with-room 0 room) c l)

      counted-taken : (row : ℕ) (sent : Pair) → Acks s i row sent → Taken (answer_at s i)
      counted-taken row sent c =
          elim (dec_le (needed s (Updating row sent)) (counted (repliers_then s i))) [
            | yes l ↦ taken_as _ (completes-answer s i row sent c l) (completed-taken row sent c l)
            | no n ↦
                let l : counted (repliers_then s i) < needed s (Updating row sent) = omega arith in
                taken_as _ (gathers-answer s i row sent c l) (λ room. gathers k i row sent (with-room 0 room) c l)
          ]

      by : (phase : Phase) → (recipient_at s i).phase ≡ phase → Taken (answer_at s i)
      by Idle f = other-phase Ack Idle e f refl (λ g. let z : ◌≡◌ {A = ℕ} 0 1 = cc in omega arith)
      by (Querying row gathered) f = other-phase Ack (Querying row gathered) e f refl (λ g. let z : ◌≡◌ {A = ℕ} 0 1 = cc in omega arith)
      by (Updating row sent) f =
          elim (ℕ_discrete (message_at s i).rid.0 (recipient_at s i).rid.0) [
            | yes g ↦ counted-taken row sent (record { body = e; phase = f; present = g })
            | no n ↦ other-number (ap is_reply e) n
          ]

  pub delivery-moves : length s.flight - 1 + sent_by s.n (answer_at s i).sends ≤ 512 → Move s (Deliver k) (deliver_next s i)
  delivery-moves = by (message_at s i).body refl
    where
      by : (body : Body) → (message_at s i).body ≡ body → Taken (answer_at s i)
      by (Query x) e = taken_as _ (query-answer s i x e) (λ room. responds k i x (with-room 1 room) e)
      by (Response pair) e = response-taken pair e
      by (Update x pair) e = taken_as _ (update-answer s i x pair e) (λ room. stores k i x pair (with-room 1 room) e)
      by Ack e = ack-taken e

-- ---- every accepted event

pub is-idle : (phase : Phase) → is_idle phase ≡ true → phase ≡ Idle
is-idle Idle e = refl
is-idle (Querying row gathered) e = absurd (false≢true e)
is-idle (Updating row sent) e = absurd (false≢true e)

invoked-begins : {s : State} {p x : ℕ} → Invoked s p x → Begins s p x
invoked-begins {s} {p} c =
    record { actor = c.actor; register = c.register; up = c.up; idle = is-idle (replica_of s p).phase c.idle; rows = c.rows; room = c.flight }

pub moves : (s : State) (e : Event) → (step s e).refusal ≡ 0 → Move s e (step s e).state
unfolding step read_rule write_rule crash_rule
moves s (Read p x) z =
    let a = read-accepted s p.0 x z in
    subst (Move s (Read p x)) (sym a.1) (reads p x (invoked-begins a.0))
moves s (Write p x value) z =
    let a = write-accepted s p.0 x value z in
    subst (Move s (Write p x value)) (sym a.1) (writes p x value (invoked-begins a.0))
moves s (Deliver k) z =
    let a = deliver-accepted s k z in
    subst (Move s (Deliver k)) (sym a.2) (delivery-moves s k a.0 a.1.found.place a.1.up a.1.flight)
moves s (Crash p) z =
    let a = crash-accepted s p.0 z in
    subst (Move s (Crash p)) (sym a.1) (crashes p a.0.actor a.0.up)
moves s (Lose k) z =
    let a = lose-accepted s k z in
    subst (Move s (Lose k)) (sym a.2) (loses k a.0 a.1.found.place a.1.down)
