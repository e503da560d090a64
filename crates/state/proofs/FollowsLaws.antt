-- Every outcome of `step` is the state as it was with a number, or 0 and the state that the event's rule gives.
use Rattle.std.specs.Prelude.{ℕ, ◌+◌, ◌-◌, ◌≡◌, refl, Bool, true, false, cond, not, eqb, leb, length, Option, Some, None}
use Rattle.std.proofs.Common.{sym, subst, ne_eqb, eq-eqb}
use Rattle.std.proofs.lemmas.Bool.{eqb-false}
use Rattle.words.specs.Ranges.{within}
use Rattle.replica.specs.Answer.{Answer}
use Rattle.replica.specs.declared.Replica.{Replica}
use Rattle.replica.specs.Handlers.{unless_refused, is_idle, read_begun, read_refusal, read_rule, write_begun, write_refusal, write_rule}
use Rattle.replica.specs.Handlers.{crashed, crash_refusal as crash_guard, crash_rule}
use Rattle.std.proofs.lemmas.Bool.{cond-true, cond-false}
use Rattle.replica.specs.Numbers.{sent_by}
use Rattle.tables.specs.Tables.{seek}
use Rattle.state.specs.declared.Event.{Event}
use Rattle.state.specs.declared.Event.TheVariants.{Read, Write, Deliver, Crash, Lose}
use Rattle.state.specs.State.{State, replica_of}
use Rattle.state.specs.Step.{Outcome, outcome, full, no_room, invoke_refusal, deliver_refusal, crash_refusal, heard}
use Rattle.state.specs.Step.{step, step_read, step_write, step_deliver, deliver_at, step_crash, step_lose, lose_at}
use Rattle.state.proofs.AcceptedLaws.{rule-answers, received-answers, passed}
use Rattle.state.specs.Follows.{Follows, after_read, after_write, message_at, receiver_of, after_deliver, after_crash}
use Rattle.state.specs.Follows.Follows.{reads, writes, delivers, crashes, loses}

-- what holds of both cases holds of the one that a test picks
pub either_way : {A : Type 0} (P : A → Type 0) (b : Bool) (x y : A) → P x → P y → P (cond b x y)
either_way P true x y h l = h
either_way P false x y h l = l

-- ---- a handler that refuses nothing is its rule

let_through : (number : ℕ) (r : Replica) (rule : Answer) → (unless_refused number r rule).refusal ≡ 0 → rule ≡ unless_refused number r rule
let_through number r rule z = sym (rule-answers number r rule z)

-- ---- where no check held, the last number was 0

invoke-passed : (s : State) (p x later : ℕ) → invoke_refusal s p x later ≡ 0 → later ≡ 0
invoke-passed s p x later z =
    (passed (no_room (length s.flight + s.n)) 15 _ refl
    (passed (leb 1024 (length s.rows)) 16 _ refl
    (passed (not (is_idle (replica_of s p).phase)) 11 _ refl
    (passed (replica_of s p).crashed 10 _ refl
    (passed (not (within x s.m)) 9 _ refl
    (passed (not (within p s.n)) 8 _ refl
    (passed (full s) 17 _ refl z).1).1).1).1).1).1).1

deliver-passed : (s : State) (r : Replica) (answer : Answer) → deliver_refusal s r answer ≡ 0 → answer.refusal ≡ 0
deliver-passed s r answer z =
    (passed (no_room (length s.flight - 1 + sent_by s.n answer.sends)) 15 _ refl (passed r.crashed 13 _ refl z).1).1

crash-passed : (s : State) (p later : ℕ) → crash_refusal s p later ≡ 0 → later ≡ 0
crash-passed s p later z =
    (passed (replica_of s p).crashed 10 _ refl (passed (not (within p s.n)) 8 _ refl (passed (full s) 17 _ refl z).1).1).1

-- ---- every outcome: the state as it was, or what the rule gives

pub record Judged (s : State) (e : Event) (o : Outcome) : Type 0 where
  pub refused : (o.refusal ≡ 0 → ⊥) → o.state ≡ s
  pub accepted : o.refusal ≡ 0 → Follows s e o.state

module _ (s : State) (e : Event) where
  judged : (number : ℕ) (next : State) → (number ≡ 0 → Follows s e next) → Judged s e (outcome s number next)
  judged number next follows =
      record {
        refused = λ n. cond-false (eqb number 0) next s (ne_eqb number 0 n);
        accepted = λ z. subst (Follows s e) (sym (cond-true (eqb number 0) next s (eq-eqb number 0 z))) (follows z);
      }

  never : (number : ℕ) → eqb number 0 ≡ false → Judged s e (outcome s number s)
  never number f = judged number s (λ z. absurd (eqb-false number 0 f z))

deliver-judged : (s : State) (k : ℕ) (found : Option ℕ) → seek k 0 s.flight ≡ found → Judged s (Deliver k) (deliver_at s found)
deliver-judged s k None e = never s (Deliver k) 12 refl
deliver-judged s k (Some i) e =
    let message = message_at s i in
    let r = receiver_of s i in
    judged s (Deliver k) _ _ λ z.
    subst (λ a. Follows s (Deliver k) (after_deliver s i a))
    (sym (received-answers s r message (deliver-passed s r (heard s r message) z)))
    (delivers k i e)

lose-judged : (s : State) (k : ℕ) (found : Option ℕ) → seek k 0 s.flight ≡ found → Judged s (Lose k) (lose_at s found)
lose-judged s k None e = never s (Lose k) 12 refl
lose-judged s k (Some i) e = judged s (Lose k) _ _ λ z. loses k i e

pub step-judged : (s : State) (e : Event) → Judged s e (step s e)
unfolding step step_read step_write step_deliver step_crash step_lose read_begun write_begun crashed
step-judged s (Read p x) =
    let row = length s.rows + 1 in
    let r = replica_of s p.0 in
    judged s (Read p x) _ _ λ z.
    subst (λ a. Follows s (Read p x) (after_read s p.0 x a))
    (let_through (read_refusal r x row) r (read_rule r x row) (invoke-passed s p.0 x _ z))
    (reads p x)
step-judged s (Write p x value) =
    let row = length s.rows + 1 in
    let r = replica_of s p.0 in
    judged s (Write p x value) _ _ λ z.
    subst (λ a. Follows s (Write p x value) (after_write s p.0 x value a))
    (let_through (write_refusal r p x row) r (write_rule r p x value row) (invoke-passed s p.0 x _ z))
    (writes p x value)
step-judged s (Deliver k) =
    either_way (Judged s (Deliver k)) (full s) _ _ (never s (Deliver k) 17 refl)
    (deliver-judged s k (seek k 0 s.flight) refl)
step-judged s (Crash p) =
    let r = replica_of s p.0 in
    judged s (Crash p) _ _ λ z.
    subst (λ a. Follows s (Crash p) (after_crash s p.0 a))
    (let_through (crash_guard r) r (crash_rule r) (crash-passed s p.0 _ z))
    (crashes p)
step-judged s (Lose k) = either_way (Judged s (Lose k)) (full s) _ _ (never s (Lose k) 17 refl) (lose-judged s k (seek k 0 s.flight) refl)

pub accepted-follows : (s : State) (e : Event) → (step s e).refusal ≡ 0 → Follows s e (step s e).state
accepted-follows s e = (step-judged s e).accepted
