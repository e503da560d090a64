-- No two results of a replica are one answer: a promise about the answer names the result.
use Rattle.std.specs.Prelude.{◌≡◌, Result, Ok, Err}
use Rattle.std.proofs.Common.{sym, ap}
use Rattle.words.specs.declared.refusal.Refusal.{Refusal}
use Rattle.words.proofs.RefusalLaws.{number-once, number-some}
use Rattle.replica.specs.declared.Replica.{Replica}
use Rattle.replica.specs.declared.Handled.{Handled}
use Rattle.replica.specs.Answer.{Answer, handled, answer}

pub answer-once : (r : Replica) (x y : Result Handled Refusal) → answer r x ≡ answer r y → x ≡ y
answer-once r (Ok h) (Ok k) e = ap (λ (a : Answer). Ok (handled a.replica a.sends a.ended)) e
answer-once r (Ok h) (Err d) e = absurd (number-some d (sym (ap (λ (a : Answer). a.refusal) e)))
answer-once r (Err d) (Ok h) e = absurd (number-some d (ap (λ (a : Answer). a.refusal) e))
answer-once r (Err d) (Err f) e = ap Err (number-once d f (ap (λ (a : Answer). a.refusal) e))
