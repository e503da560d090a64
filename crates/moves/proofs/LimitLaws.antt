-- The limit of 12,000 events: of a well-formed state below it, `step` is the step without it. (The rows are to fit their table of 1,024.)
use Rattle.std.specs.Prelude.{ℕ, ◌+◌, ◌-◌, ◌≤◌, ◌<◌, ◌≡◌, Bool, true, false, not, [], ◌∷◌, ◌++◌, leb, ℤ, length, Option, Some, None}
use Rattle.std.proofs.Math.Path.{refl, ap}
use Rattle.std.proofs.Common.{sym, ◌∙◌, leb-false, ltb-false, ne_eqb}
use Rattle.std.proofs.Math.Decide.{ℕ_discrete}
use Rattle.std.proofs.Math.Seq.{take-length}
use Rattle.std.proofs.lemmas.Bool.{not-false, lt-leb}
use Rattle.words.specs.Ranges.{within}
use Rattle.replica.specs.Answer.{Answer}
use Rattle.replica.specs.Handlers.{is_idle, read_rule, write_rule, crash_rule}
use Rattle.replica.specs.Numbers.{sent_by}
use Rattle.tables.specs.Tables.{seek}
use Rattle.tables.specs.TableLaws.{seek-at}
use Rattle.state.specs.declared.Event.{Event}
use Rattle.state.specs.declared.Event.TheVariants.{Read, Write, Deliver, Crash, Lose}
use Rattle.state.specs.State.{State, replica_of}
use Rattle.state.specs.Step.{outcome, check, full, no_room, invoke_refusal, deliver_at}
use Rattle.state.specs.Step.{moved, heard, read_row, write_row}
use Rattle.state.specs.Step.{step, step_read, step_write, step_deliver, step_crash, step_lose}
use Rattle.state.specs.Accepted.{message_at, recipient_at, read_next, write_next, crash_next}
use Rattle.state.proofs.AcceptedLaws.{passed, Invoked}
use Rattle.state.proofs.Keeps.{reached-well-formed}
use Rattle.state.specs.Reached.{Reached}
use Rattle.state.proofs.Sized.{reached-sized}
use Rattle.state.proofs.Inside.{read_plain, write-plain, crash-plain, delivered-plain}
use Rattle.state.proofs.PairLaws.{within-ok}
use Rattle.state.proofs.WellLaws.{Well, well}
use Rattle.moves.specs.Free.{free_invoke, free_deliver, free_crash, free_step}
use Rattle.moves.specs.Move.{Begins, Move}
use Rattle.moves.proofs.AnswerLaws.{answer_at, plain-accepts}
use Rattle.moves.proofs.FreeLaws.{accepting, taken_by, free-begins, moves-free}

same_outcome : (s : State) (a b : ℕ) (x y : State) → a ≡ b → (b ≡ 0 → x ≡ y) → outcome s a x ≡ outcome s b y
same_outcome s a b x y e f =
    ap (λ k. outcome s k x) e ∙ elim (ℕ_discrete b 0) [
      | yes z ↦ ap (outcome s b) (f z)
      | no n ↦ rw (ne_eqb b 0 n) refl
    ]

unchecked : (holds : Bool) (number later : ℕ) → holds ≡ false → check holds number later ≡ later
unchecked holds number later e = rw e refl

-- what stands behind a check counts only where it did not hold
checked : (holds : Bool) (number a b : ℕ) → (holds ≡ false → a ≡ b) → check holds number a ≡ check holds number b
checked true number a b f = refl
checked false number a b f = f refl

module _ (s : State) (w : Well s) (short : length s.rows ≤ 1024) (below : s.accepted < 12000) where
  not_full : full s ≡ false
  not_full = lt-leb 12000 s.accepted below

  invoke-same : (p x later : ℕ) → (Invoked s p x → later ≡ 0) → invoke_refusal s p x later ≡ free_invoke s p x
  invoke-same p x later f =
      unchecked (full s) 17 _ not_full
      ∙ checked (not (within p s.n)) 8 _ _ λ actor.
      checked (not (within x s.m)) 9 _ _ λ register.
      checked (replica_of s p).crashed 10 _ _ λ up.
      checked (not (is_idle (replica_of s p).phase)) 11 _ _ λ idle.
      checked (leb 1024 (length s.rows)) 16 _ _ λ rows.
      checked (no_room (length s.flight + s.n)) 15 later 0 λ room.
      f (record {
        room = below;
        actor = within-ok p s.n (not-false _ actor);
        register = within-ok x s.m (not-false _ register);
        up = up;
        idle = not-false _ idle;
        rows = leb-false 1024 (length s.rows) rows;
        flight = ltb-false 512 (length s.flight + s.n) room;
      })

  begins-invoked : (p x : ℕ) → Begins s p x → Invoked s p x
  begins-invoked p x b =
      record { room = below; actor = b.actor; register = b.register; up = b.up; idle = ap is_idle b.idle; rows = b.rows; flight = b.room }

  read-agrees : (p x : ℕ) → step_read s p x ≡ outcome s (free_invoke s p x) (read_next s p x)
  unfolding step_read read_rule
  read-agrees p x =
      same_outcome s _ _ _ _ (invoke-same p x _ λ i. ap (λ (a : Answer). a.refusal) (read_plain s w p x i)) λ z.
      ap (λ (a : Answer). moved s p a s.flight s.delivered (s.rows ++ (read_row p x a.replica.clock.0 ∷ [])))
      (read_plain s w p x (begins-invoked p x (free-begins s p x z)))

  write-agrees : (p x : ℕ) (value : ℤ) → step_write s p x value ≡ outcome s (free_invoke s p x) (write_next s p x value)
  unfolding step_write write_rule
  write-agrees p x value =
      same_outcome s _ _ _ _ (invoke-same p x _ λ i. ap (λ (a : Answer). a.refusal) (write-plain s w p x i value)) λ z.
      ap (λ (a : Answer). moved s p a s.flight s.delivered (s.rows ++ (write_row p x value a.replica.clock.0 ∷ [])))
      (write-plain s w p x (begins-invoked p x (free-begins s p x z)) value)

  crash-agrees : (p : ℕ) → step_crash s p ≡ outcome s (free_crash s p) (crash_next s p)
  unfolding step_crash crash_rule
  crash-agrees p =
      same_outcome s _ _ _ _
      (unchecked (full s) 17 _ not_full
      ∙ checked (not (within p s.n)) 8 _ _ λ actor.
      checked (replica_of s p).crashed 10 _ 0 λ up.
      ap (λ (a : Answer). a.refusal) (crash-plain s w short p (within-ok p s.n (not-false _ actor)) up))
      λ z.
      let e₁ = passed (not (within p s.n)) 8 _ refl z in
      let e₂ = passed (replica_of s p).crashed 10 _ refl e₁.1 in
      ap (λ (a : Answer). moved s p a s.flight s.delivered s.rows) (crash-plain s w short p (within-ok p s.n (not-false _ e₁.0)) e₂.0)

  deliver-agrees : (k : ℕ) (found : Option ℕ) → seek k 0 s.flight ≡ found → deliver_at s found ≡ free_deliver s found
  deliver-agrees k None f = refl
  deliver-agrees k (Some i) f =
      same_outcome s _ _ _ _
      (checked (recipient_at s i).crashed 13 _ _ λ up.
      ap (λ (a : Answer). check (no_room (length s.flight - 1 + sent_by s.n a.sends)) 15 a.refusal) (plainly up)
      ∙ ap (check (no_room (length s.flight - 1 + sent_by s.n (answer_at s i).sends)) 15)
      (plain-accepts s (recipient_at s i) (message_at s i) (message_at s i).body))
      λ z. ap (taken_by s i) (plainly (passed (recipient_at s i).crashed 13 _ refl z).0)
    where
      inside : i < length s.flight
      inside = (seek-at k (length s.flight) i s.flight (sym (ap (seek k 0) (take-length s.flight) ∙ f))).0

      plainly : (recipient_at s i).crashed ≡ false → heard s (recipient_at s i) (message_at s i) ≡ answer_at s i
      plainly up = delivered-plain s w short i inside up

  pub agrees : (e : Event) → step s e ≡ free_step s e
  unfolding step free_step step_deliver step_lose
  agrees (Read p x) = read-agrees p.0 x
  agrees (Write p x value) = write-agrees p.0 x value
  agrees (Deliver k) = rw not_full (deliver-agrees k (seek k 0 s.flight) refl)
  agrees (Crash p) = crash-agrees p.0
  agrees (Lose k) = rw not_full refl

  -- so a move is what `step` accepts there
  pub allowed : {e : Event} {t : State} → Move s e t → step s e ≡ accepting t
  allowed {e} move = agrees e ∙ moves-free move

-- of every state reached, which is well formed and whose rows fit
pub reached-agrees : (s : State) → Reached s → s.accepted < 12000 → (e : Event) → step s e ≡ free_step s e
reached-agrees s r below e = agrees s (well s (reached-well-formed s r)) (reached-sized s r).rows below e
