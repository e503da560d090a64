-- The tests over an array, a step at a time: what is seen now, and what is still to be seen; and its end.
use Rattle.std.specs.Prelude.{◌≡◌, refl, ℕ, zero, suc, ◌+◌, ◌-◌, ◌<◌, ◌≤◌, Bool, true, ◌&&◌, List, [], length, get_or, drop}
use Rattle.std.proofs.Common.{sym, ap, ◌∙◌, add-one, arith, drop_of_length-le, drop-cons, eq-eqb}
use Rattle.std.proofs.Math.Bool.{and_assoc}
use Rattle.words.specs.declared.Pair.{Pair}
use Rattle.replica.specs.declared.Replica.{Replica}
use Rattle.state.specs.State.{State}
use Rattle.state.specs.WellFormed.{pairs_fit}
use Rattle.judge.specs.declared.Waiting.{Waiting}
use Rattle.judge.specs.declared.Waiting.TheVariants.{Nothing}
use Rattle.judge.specs.Scans.{stored_fit, process_judged, each_judged, replicas_judged}
use Rattle.judge.specs.TabledLaws.{and-true}

-- ---- pairs: one more is `pairs-step`, of ScanLaws

pairs-none : (s : State) (m : ℕ) → pairs_fit s m [] ≡ true
pairs-none s zero = refl
pairs-none s (suc m) = refl

-- all were seen
pub pairs-seen : (s : State) (m i : ℕ) (pairs : List Pair) (ok : Bool) → length pairs ≡ 16 → 16 ≤ i
    → ok && pairs_fit s (m - i) (drop i pairs) ≡ pairs_fit s m pairs → ok ≡ stored_fit s m pairs
pairs-seen s m i pairs ok len l e =
    sym (and-true ok) ∙ sym (ap (λ (t : Bool). ok && t) (ap (pairs_fit s (m - i)) (drop_of_length-le pairs {i = i} (omega arith)) ∙ pairs-none s (m - i))) ∙ e
    ∙ sym (ap (λ (t : Bool). t && pairs_fit s m pairs) (eq-eqb (length pairs) 16 len))

-- ---- replicas: process p's is at place p - 1

pub each_step : (s : State) (waiting : List Waiting) (p : ℕ) (d : Replica) (rs : List Replica) (ok : Bool) → 1 ≤ p → p - 1 < length rs
    → (ok && process_judged s p (get_or waiting (p - 1) Nothing) (get_or rs (p - 1) d)) && each_judged s waiting (p + 1) (drop (p + 1 - 1) rs) ≡ ok && each_judged s waiting p (drop (p - 1) rs)
each_step s waiting zero d rs ok h l = absurd (omega arith)
each_step s waiting (suc i) d rs ok h l =
    let e : suc i - 1 ≡ i = omega arith in
    let f : suc i + 1 - 1 ≡ suc i = omega arith in
    let h : i < length rs = omega arith in
    rw (f, add-one (suc i), e, drop-cons rs i d h, e) (and_assoc ok _ _)

pub each_seen : (s : State) (waiting : List Waiting) (p : ℕ) (rs : List Replica) (ok : Bool) → length rs ≡ 7 → 7 < p
    → ok && each_judged s waiting p (drop (p - 1) rs) ≡ each_judged s waiting 1 rs → ok ≡ replicas_judged s waiting rs
each_seen s waiting p rs ok len l e =
    sym (and-true ok) ∙ sym (ap (λ (r : List Replica). ok && each_judged s waiting p r) (drop_of_length-le rs {i = p - 1} (omega arith))) ∙ e
    ∙ sym (ap (λ (t : Bool). t && each_judged s waiting 1 rs) (eq-eqb (length rs) 7 len))
