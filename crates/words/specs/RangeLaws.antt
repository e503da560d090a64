-- What it means to be inside the ranges: the bounds that each test gives.
use Rattle.std.specs.Prelude.{ℕ, ◌+◌, ◌%◌, ◌^◌, ◌≤◌, ◌<◌, ◌≡◌, Bool, true, false, ◌&&◌, not, eqb, ltb, leb}
use Rattle.std.proofs.Common.{sym, ◌∙◌, pow_mono, lt_of_lt_of_le, arith, leb-true, ltb-true, eqb-true, lt-ltb, eq-eqb}
use Rattle.std.proofs.lemmas.Bool.{false≢true, eqb-false, not-true}
use Rattle.words.specs.declared.Pid.{Pid}
use Rattle.words.specs.declared.Rid.{Rid}
use Rattle.words.specs.declared.Time.{Time}
use Rattle.words.specs.QuorumLaws.{Inside}
use Rattle.words.specs.Limits.{most_time}
use Rattle.words.specs.Ranges.{within, sender_fits, repliers_fit}

pub and_left : (a b : Bool) → (a && b) ≡ true → a ≡ true
and_left true b e = λ i. true
and_left false b e = absurd (false≢true e)

pub and_right : (a b : Bool) → (a && b) ≡ true → b ≡ true
and_right true b e = e
and_right false b e = absurd (false≢true e)

pub and-when : (a b : Bool) → a ≡ true → (a && b) ≡ b
and-when true b e = λ i. b
and-when false b e = absurd (false≢true e)

pub and-unless : (a b : Bool) → a ≡ false → (a && b) ≡ false
and-unless true b e = absurd (false≢true (sym e))
and-unless false b e = λ i. false

pub within-most : (x most : ℕ) → within x most ≡ true → x ≤ most
within-most x most e = leb-true x most (and_right (not (eqb x 0)) (leb x most) e)

pub within-least : (x most : ℕ) → within x most ≡ true → 1 ≤ x
within-least x most e =
    let n : x ≡ 0 → ⊥ = eqb-false x 0 (not-true (eqb x 0) (and_left (not (eqb x 0)) (leb x most) e)) in
    omega (arith, n)

module _ (n : ℕ) (from : Pid) (time : Time) (rid : Rid) (fits : sender_fits n from time rid ≡ true) where
  pub sender-within : within from.0 n ≡ true
  sender-within = and_left _ _ (and_left _ _ fits)

  pub sender-time : time.0 ≤ most_time
  sender-time = leb-true _ _ (and_right (within from.0 n) _ (and_left _ _ fits))

-- ---- a replier set inside 1..n, as a test and as a fact

pub fit-inside : (n s : ℕ) → repliers_fit n s ≡ true → Inside n s
fit-inside n s e =
    (eqb-true _ _ (and_left _ (ltb s (2 ^ (n + 1))) e), ltb-true _ _ (and_right (eqb (s % 2) 0) (ltb s (2 ^ (n + 1))) e))

pub inside-fit : (n s : ℕ) → Inside n s → repliers_fit n s ≡ true
inside-fit n s h = and-when (eqb (s % 2) 0) (ltb s (2 ^ (n + 1))) (eq-eqb (s % 2) 0 h.0) ∙ lt-ltb s (2 ^ (n + 1)) h.1

-- a set of some processes is one of more
pub inside-wider : (n k s : ℕ) → n ≤ k → Inside n s → Inside k s
inside-wider n k s l h = (h.0, lt_of_lt_of_le h.1 (pow_mono {i = n + 1} {j = k + 1} (omega arith)))

-- from 7 on every byte is below
pub below_power : (s n : ℕ) → s < 256 → 7 ≤ n → true ≡ ltb s (2 ^ (n + 1))
below_power s n l h = sym (lt-ltb s (2 ^ (n + 1)) (lt_of_lt_of_le l (pow_mono {i = 8} {j = n + 1} (omega arith))))
