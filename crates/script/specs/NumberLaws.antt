-- Numbers from digits: each digit is one, the number grows with each, and counting what is past every field as one number changes no test of a field.
use Rattle.std.specs.Prelude.{ℕ, zero, suc, ◌+◌, ◌-◌, ◌*◌, ◌≤◌, ◌<◌, ◌≡◌, refl, Bool, true, false, cond, not, ◌&&◌, ◌||◌, List, [], ◌∷◌, eqb, leb, length, get_or, drop}
use Rattle.std.proofs.Common.{sym, ap, ◌∙◌, true≢false, arith, add-one, leb-true, leb-false, le-leb, ne_eqb}
use Rattle.std.proofs.lemmas.Bool.{lt-leb}
use Rattle.words.specs.RangeLaws.{and_left, and_right}
use Rattle.script.specs.Numbers.{is_digit, digits_only, is_empty, is_number, value, capped}
use Rattle.script.specs.ScanLaws.{one_on}

pub digit-least : (b : ℕ) → is_digit b ≡ true → 48 ≤ b
digit-least b e = leb-true 48 b (and_left (leb 48 b) (leb b 57) e)

pub digit-most : (b : ℕ) → is_digit b ≡ true → b ≤ 57
digit-most b e = leb-true b 57 (and_right (leb 48 b) (leb b 57) e)

pub cap-small : (n : ℕ) → n ≤ 9223372036854775808 → capped n ≡ n
cap-small n l = ap (λ (t : Bool). cond t n 9223372036854775809) (le-leb n 9223372036854775808 l)

pub cap-large : (n : ℕ) → 9223372036854775808 < n → capped n ≡ 9223372036854775809
cap-large n l = ap (λ (t : Bool). cond t n 9223372036854775809) (lt-leb n 9223372036854775808 l)

pub cap-self : (n : ℕ) → n ≤ 9223372036854775809 → capped n ≡ n
cap-self n l = go (leb n 9223372036854775808) refl
  where
    go : (t : Bool) → leb n 9223372036854775808 ≡ t → cond t n 9223372036854775809 ≡ n
    go true e = refl
    go false e = omega (arith, l, leb-false n 9223372036854775808 e)

pub cap-most : (n m : ℕ) → n ≡ capped m → n ≤ 9223372036854775809
cap-most n m e = go (leb m 9223372036854775808) refl e
  where
    go : (t : Bool) → leb m 9223372036854775808 ≡ t → n ≡ cond t m 9223372036854775809 → n ≤ 9223372036854775809
    go true f q = omega (arith, q, leb-true m 9223372036854775808 f)
    go false f q = omega (arith, q)

pub value_grows : (n : ℕ) (digits : List ℕ) → n ≤ value n digits
value_grows n [] = omega arith
value_grows n (b ∷ rest) = omega (arith, value_grows (10 * n + (b - 48)) rest)

-- a number that is counted so stays past every field
pub cap-on : (n : ℕ) (digits : List ℕ) → capped (value (capped n) digits) ≡ capped (value n digits)
cap-on n digits = go (leb n 9223372036854775808) refl
  where
    go : (t : Bool) → leb n 9223372036854775808 ≡ t → capped (value (cond t n 9223372036854775809) digits) ≡ capped (value n digits)
    go true e = refl
    go false e =
        let past : 9223372036854775808 < n = leb-false n 9223372036854775808 e in
        cap-large (value 9223372036854775809 digits) (omega (arith, value_grows 9223372036854775809 digits)) ∙ sym (cap-large (value n digits) (omega (arith, past, value_grows n digits)))

-- a field of at most 2 to the 63 cannot tell
module _ (most n : ℕ) (small : most ≤ 9223372036854775808) where
  pub cap-within : capped n ≤ most → (capped n ≡ n) × (n ≤ most)
  cap-within l = go (leb n 9223372036854775808) refl l
    where
      go : (t : Bool) → leb n 9223372036854775808 ≡ t → cond t n 9223372036854775809 ≤ most → (cond t n 9223372036854775809 ≡ n) × (n ≤ most)
      go true e h = (refl, h)
      go false e h = absurd (omega (arith, h, small))

  pub cap-beyond : most < capped n → most < n
  cap-beyond l = go (leb n 9223372036854775808) refl l
    where
      go : (t : Bool) → leb n 9223372036854775808 ≡ t → most < cond t n 9223372036854775809 → most < n
      go true e h = h
      go false e h = let past : 9223372036854775808 < n = leb-false n 9223372036854775808 e in omega (arith, past, small)

-- ---- which words are numbers

pub number_digits : (w : List ℕ) → is_number w ≡ true → digits_only w ≡ true
number_digits [] e = absurd (true≢false (sym e))
number_digits (b ∷ rest) e = and_left (digits_only (b ∷ rest)) (is_empty rest || not (eqb b 48)) e

empty-test : (w : List ℕ) (i : ℕ) → i < length w → is_empty (drop (suc i) w) ≡ eqb (length w - i) 1
empty-test [] i l = absurd (omega arith)
empty-test (b ∷ []) zero l = refl
empty-test (b ∷ (c ∷ rest)) zero l = sym (ne_eqb (length (b ∷ (c ∷ rest)) - 0) 1 (λ (e : length (b ∷ (c ∷ rest)) - 0 ≡ 1). omega (arith, e)))
empty-test (b ∷ rest) (suc i) l = let same : length (b ∷ rest) - suc i ≡ length rest - i = omega arith in empty-test rest i (omega arith) ∙ ap (λ (n : ℕ). eqb n 1) (sym same)

-- from a place on
pub number_at : (w : List ℕ) (i : ℕ) → i < length w → is_number (drop i w) ≡ (digits_only (drop i w) && (eqb (length w - i) 1 || not (eqb (get_or w i 0) 48)))
number_at w i l =
    ap is_number (one_on w i l)
    ∙ ap (λ (t : Bool). digits_only (get_or w i 0 ∷ drop (i + 1) w) && (t || not (eqb (get_or w i 0) 48))) (ap (λ (n : ℕ). is_empty (drop n w)) (add-one i) ∙ empty-test w i l)
    ∙ ap (λ (digits : List ℕ). digits_only digits && (eqb (length w - i) 1 || not (eqb (get_or w i 0) 48))) (sym (one_on w i l))
