-- What the checks allow is accepted: on a well-formed state no check holds, the handler is its plain rule, and the outcome is 0 with the next state.
use Rattle.std.specs.Prelude.{ℕ, ◌+◌, ◌-◌, ◌≤◌, ◌<◌, ◌≡◌, refl, Bool, true, false, ◌||◌, [], ◌∷◌, ◌++◌, leb, ℤ, length, Some}
use Rattle.std.proofs.Math.Path.{ap}
use Rattle.std.proofs.Common.{◌∙◌, le-ltb}
use Rattle.std.proofs.Math.Bool.{not}
use Rattle.std.proofs.lemmas.Bool.{lt-leb}
use Rattle.words.specs.declared.Body.{Body}
use Rattle.words.specs.declared.Message.{Message}
use Rattle.words.specs.Ranges.{within}
use Rattle.replica.specs.Answer.{Answer}
use Rattle.replica.specs.declared.Replica.{Replica}
use Rattle.replica.specs.Handlers.{is_idle, read_rule, write_rule, query_rule, update_rule, crash_rule}
use Rattle.replica.specs.Numbers.{sent_by, pointed}
use Rattle.tables.specs.Tables.{seek, removed}
use Rattle.state.specs.State.{State, replica_of}
use Rattle.state.specs.Step.{Outcome, outcome, check, full, no_room, invoke_refusal, deliver_refusal, crash_refusal, lose_refusal}
use Rattle.state.specs.Step.{moved, without_message, read_row, write_row, answered_rows, step_read, step_write, step_deliver, step_crash, step_lose}
use Rattle.state.specs.Accepted.{message_at, recipient_at, plain, read_next, write_next, deliver_next, crash_next}
use Rattle.state.proofs.AcceptedLaws.{Invoked, Crashable}
use Rattle.state.proofs.Inside.{read_plain, write-plain, crash-plain, delivered-plain}
use Rattle.state.proofs.PairLaws.{ok-within}
use Rattle.state.proofs.WellLaws.{Well}
use Rattle.sc_abd.specs.Answers.{Answers, plain-answers}
use Rattle.sc_abd.specs.Answers.Answers.{replies, stores, discards, asks, chooses, waits, ends}

-- accepted, with this next state
abbrev pub done : State → Outcome
done next = record { refusal = 0; state = next }

accepts : (s : State) (number : ℕ) (next : State) → number ≡ 0 → outcome s number next ≡ done next
accepts s number next e = ap (λ k. outcome s k next) e

pass : (holds : Bool) (number later : ℕ) → holds ≡ false → later ≡ 0 → check holds number later ≡ 0
pass holds number later e z = rw e z

not_full : (s : State) → s.accepted < 12000 → full s ≡ false
not_full s h = lt-leb 12000 s.accepted h

has_room : (k : ℕ) → k ≤ 512 → no_room k ≡ false
has_room k h = le-ltb 512 k h

-- ---- invocations

module _ (s : State) (w : Well s) (p x : ℕ) (i : Invoked s p x) where
  invoke-passes : (later : ℕ) → later ≡ 0 → invoke_refusal s p x later ≡ 0
  invoke-passes later z =
      pass (full s) 17 _ (not_full s i.room)
      (pass (not (within p s.n)) 8 _ (ap not (ok-within i.actor))
      (pass (not (within x s.m)) 9 _ (ap not (ok-within i.register))
      (pass (replica_of s p).crashed 10 _ i.up
      (pass (not (is_idle (replica_of s p).phase)) 11 _ (ap not i.idle)
      (pass (leb 1024 (length s.rows)) 16 _ (lt-leb 1024 (length s.rows) i.rows)
      (pass (no_room (length s.flight + s.n)) 15 later (has_room _ i.flight) z))))))

  pub read-allowed : step_read s p x ≡ done (read_next s p x)
  unfolding step_read read_rule
  read-allowed =
      ap (λ (answer : Answer). outcome s (invoke_refusal s p x answer.refusal)
      (moved s p answer s.flight s.delivered (s.rows ++ (read_row p x answer.replica.clock.0 ∷ [])))) (read_plain s w p x i)
      ∙ accepts s _ (read_next s p x) (invoke-passes 0 refl)

  pub write_allowed : (value : ℤ) → step_write s p x value ≡ done (write_next s p x value)
  unfolding step_write write_rule
  write_allowed value =
      ap (λ (answer : Answer). outcome s (invoke_refusal s p x answer.refusal)
      (moved s p answer s.flight s.delivered (s.rows ++ (write_row p x value answer.replica.clock.0 ∷ [])))) (write-plain s w p x i value)
      ∙ accepts s _ (write_next s p x value) (invoke-passes 0 refl)

-- ---- a crash

pub crash-allowed : (s : State) → Well s → length s.rows ≤ 1024 → (p : ℕ) → Crashable s p → step_crash s p ≡ done (crash_next s p)
unfolding step_crash crash_rule
crash-allowed s w short p c =
    ap (λ (answer : Answer). outcome s (crash_refusal s p answer.refusal) (moved s p answer s.flight s.delivered s.rows))
    (crash-plain s w short p c.actor c.up)
    ∙ accepts s _ (crash_next s p)
    (pass (full s) 17 _ (not_full s c.room)
    (pass (not (within p s.n)) 8 _ (ap not (ok-within c.actor)) (pass (replica_of s p).crashed 10 0 c.up refl)))

-- ---- a message

-- the plain rules refuse nothing
accepts-all : {n register : ℕ} {r : Replica} {m : Message} {body : Body} {answer : Answer} → Answers n register r m body answer → answer.refusal ≡ 0
unfolding query_rule update_rule
accepts-all (replies y) = refl
accepts-all (stores y pair) = refl
accepts-all (discards body) = refl
accepts-all (asks pair row gathered f present few) = refl
accepts-all (chooses pair row gathered f present many) = refl
accepts-all (waits row sent f present few) = refl
accepts-all (ends row sent f present many) = refl

module _ (s : State) (w : Well s) (room : s.accepted < 12000) (k i : ℕ) (found : seek k 0 s.flight ≡ Some i) where
  pub deliver-allowed : length s.rows ≤ 1024 → i < length s.flight → (recipient_at s i).crashed ≡ false
      → length s.flight - 1 + sent_by s.n (plain s (recipient_at s i) (message_at s i)).sends ≤ 512
      → step_deliver s k ≡ done (deliver_next s i)
  unfolding step_deliver
  deliver-allowed short l up flight =
      rw (not_full s room, found)
      (ap (λ (answer : Answer). outcome s (deliver_refusal s (recipient_at s i) answer) (next answer)) (delivered-plain s w short i l up)
      ∙ accepts s _ (deliver_next s i)
      (pass (recipient_at s i).crashed 13 _ up
      (pass (no_room room_after) 15 _ (has_room room_after flight) (accepts-all (plain-answers s (recipient_at s i) (message_at s i) (message_at s i).body)))))
    where
      next : Answer → State
      next answer =
          moved s (message_at s i).to.0 answer (removed i s.flight) (s.delivered + 1)
          (answered_rows s.rows (pointed (recipient_at s i).phase) answer.ended)

      room_after : ℕ
      room_after = length s.flight - 1 + sent_by s.n (plain s (recipient_at s i) (message_at s i)).sends

  pub lose-allowed : ((replica_of s (message_at s i).from.0).crashed || (recipient_at s i).crashed) ≡ true → step_lose s k ≡ done (without_message s i)
  unfolding step_lose
  lose-allowed down = rw (not_full s room, found) (accepts s (lose_refusal s (message_at s i)) (without_message s i) (pass _ 14 0 (ap not down) refl))
