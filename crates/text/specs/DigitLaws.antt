-- Laws of digits: a number in decimal is its last digits, as many as it has; and how many it has at most.
use Rattle.std.specs.Prelude.{ℕ, zero, suc, ◌+◌, ◌-◌, ◌*◌, ◌/◌, ◌%◌, ◌≤◌, ◌<◌, ◌≡◌, refl, Bool, true, false, cond, List, [], ◌∷◌, ◌++◌, ltb, length, set}
use Rattle.std.proofs.Common.{sym, ap, ◌∙◌, append_assoc, append-nil, length-append, ltb-true, ltb-false, lt-ltb, le-ltb}
use native.Mathlib.Omega.{arith}
use Rattle.tables.specs.Tables.{laid_at}
use Rattle.text.specs.LaidLaws.{laid-last}
use Rattle.text.specs.Digits.{places, last_digits, two_digits}
use Rattle.text.specs.Printed.{digits, decimal}

-- 10 to the power k
abbrev pub tens : ℕ → ℕ
tens zero = 1
tens (suc k) = 10 * tens k

pub places-one : (left n : ℕ) → n < 10 → places (suc left) n ≡ 1
unfolding places
places-one left n h = simp (lt-ltb n 10 h)

pub places-more : (left n : ℕ) → 10 ≤ n → places (suc left) n ≡ suc (places left (n / 10))
unfolding places
places-more left n h = simp (le-ltb n 10 h)

pub no-digits : (n : ℕ) → last_digits 0 n ≡ []
unfolding last_digits
no-digits n = refl

pub last-length : (k n : ℕ) → length (last_digits k n) ≡ k
unfolding last_digits
last-length zero n = refl
last-length (suc k) n = omega (arith, length-append (last_digits k (n / 10)) ((48 + n % 10) ∷ []), last-length k (n / 10))

pub digits_are : (left n : ℕ) (rest : List ℕ) → digits left n rest ≡ last_digits (places left n) n ++ rest
unfolding places last_digits
digits_are zero n rest = refl
digits_are (suc left) n rest = go (ltb n 10) refl (digits_are left (n / 10) ((48 + n % 10) ∷ rest))
  where
    go : (t : Bool) → ltb n 10 ≡ t → digits left (n / 10) ((48 + n % 10) ∷ rest) ≡ last_digits (places left (n / 10)) (n / 10) ++ ((48 + n % 10) ∷ rest)
        → cond t ((48 + n) ∷ rest) (digits left (n / 10) ((48 + n % 10) ∷ rest)) ≡ last_digits (cond t 1 (suc (places left (n / 10)))) n ++ rest
    go true e later = let small : n < 10 = ltb-true n 10 e in let same : 48 + n ≡ 48 + n % 10 = omega arith in ap (λ (d : ℕ). d ∷ rest) same
    go false e later = later ∙ sym (append_assoc (last_digits (places left (n / 10)) (n / 10)) ((48 + n % 10) ∷ []) rest)

pub decimal-is : (n : ℕ) → decimal n ≡ last_digits (places 20 n) n
unfolding decimal
decimal-is n = digits_are 20 n [] ∙ append-nil (last_digits (places 20 n) n)

pub decimal-length : (n : ℕ) → length (decimal n) ≡ places 20 n
decimal-length n = ap length (decimal-is n) ∙ last-length (places 20 n) n

pub places-most : (left k n : ℕ) → n < tens (suc k) → places left n ≤ suc k
places-most zero k n h = unfold places in omega arith
places-most (suc left) zero n h = omega (arith, places-one left n (omega arith))
places-most (suc left) (suc k) n h = go (ltb n 10) refl (λ (l : n / 10 < tens (suc k)). places-most left k (n / 10) l)
  where
    go : (t : Bool) → ltb n 10 ≡ t → (n / 10 < tens (suc k) → places left (n / 10) ≤ suc k) → places (suc left) n ≤ suc (suc k)
    go true e later = omega (arith, places-one left n (ltb-true n 10 e))
    go false e later = let less : n / 10 < tens (suc k) = omega arith in omega (arith, later less, places-more left n (ltb-false n 10 e))

-- no more than are left
places-left : (left n : ℕ) → places left n ≤ left
places-left zero n = unfold places in omega arith
places-left (suc left) n = go (ltb n 10) refl (places-left left (n / 10))
  where
    go : (t : Bool) → ltb n 10 ≡ t → places left (n / 10) ≤ left → places (suc left) n ≤ suc left
    go true e later = omega (arith, places-one left n (ltb-true n 10 e))
    go false e later = omega (arith, places-more left n (ltb-false n 10 e))

pub decimal-short : (k n : ℕ) → n < tens (suc k) → length (decimal n) ≤ suc k
decimal-short k n h = omega (arith, decimal-length n, places-most 20 k n h)

-- one place more counts no more digits of a number that had enough
places-enough : (left n : ℕ) → n < tens (suc left) → places (suc (suc left)) n ≡ places (suc left) n
places-enough zero n h = places-one 1 n (omega arith) ∙ sym (places-one 0 n (omega arith))
places-enough (suc left) n h = go (ltb n 10) refl (λ (l : n / 10 < tens (suc left)). places-enough left (n / 10) l)
  where
    go : (t : Bool) → ltb n 10 ≡ t → (n / 10 < tens (suc left) → places (suc (suc left)) (n / 10) ≡ places (suc left) (n / 10))
        → places (suc (suc (suc left))) n ≡ places (suc (suc left)) n
    go true e later = places-one (suc (suc left)) n (ltb-true n 10 e) ∙ sym (places-one (suc left) n (ltb-true n 10 e))
    go false e later =
        let more : 10 ≤ n = ltb-false n 10 e in
        let less : n / 10 < tens (suc left) = omega arith in
        places-more (suc (suc left)) n more ∙ ap suc (later less) ∙ sym (places-more (suc left) n more)

-- a number of one digit
pub decimal-digit : (n : ℕ) → n < 10 → (48 + n) ∷ [] ≡ decimal n
unfolding decimal
decimal-digit n h = simp (lt-ltb n 10 h)

-- a number of more: what stands before the last digit, and the last digit
pub decimal-step : (n : ℕ) → 10 ≤ n → n < tens 20 → decimal (n / 10) ++ ((48 + n % 10) ∷ []) ≡ decimal n
unfolding last_digits
decimal-step n more fits =
    ap (λ (t : List ℕ). t ++ ((48 + n % 10) ∷ [])) (decimal-is (n / 10)) ∙ ap (λ (k : ℕ). last_digits k n) (sym counted) ∙ sym (decimal-is n)
  where
    less : n / 10 < tens 19
    less = omega arith

    counted : places 20 n ≡ suc (places 20 (n / 10))
    counted = places-more 19 n more ∙ ap suc (sym (places-enough 18 (n / 10) less))

-- a number of two digits
pub decimal-two : (n : ℕ) → 10 ≤ n → n < 100 → two_digits n ≡ decimal n
decimal-two n more h = ap (λ (t : List ℕ). t ++ ((48 + n % 10) ∷ [])) (decimal-digit (n / 10) (omega arith)) ∙ decimal-step n more (omega arith)

-- a number of more: what stands before the last two digits, and these
pub decimal-pair : (n : ℕ) → 100 ≤ n → n < tens 20 → decimal (n / 100) ++ two_digits (n % 100) ≡ decimal n
decimal-pair n more fits =
    ap (λ (t : List ℕ). decimal (n / 100) ++ t) (ap (λ (d : ℕ). d ∷ ((48 + n % 100 % 10) ∷ [])) first ∙ ap (λ (d : ℕ). (48 + n / 10 % 10) ∷ (d ∷ [])) last)
    ∙ sym (append_assoc (decimal (n / 100)) ((48 + n / 10 % 10) ∷ []) ((48 + n % 10) ∷ []))
    ∙ ap (λ (t : List ℕ). t ++ ((48 + n % 10) ∷ [])) (ap (λ (m : ℕ). decimal m ++ ((48 + n / 10 % 10) ∷ [])) before ∙ decimal-step (n / 10) (omega arith) (omega arith))
    ∙ decimal-step n (omega arith) fits
  where
    before : n / 100 ≡ n / 10 / 10
    before = omega arith

    first : 48 + n % 100 / 10 ≡ 48 + n / 10 % 10
    first = omega arith

    last : 48 + n % 100 % 10 ≡ 48 + n % 10
    last = omega arith

-- counting: so many are counted, these are the digits before them, and so many are left at most
abbrev pub Counting : ℕ → ℕ → ℕ → Type 0
Counting n k rest = (left : ℕ) × (k + left ≡ 20) × (k + places (suc left) rest ≡ suc (places 20 n)) × (rest < tens (suc left))

pub count-from : (n : ℕ) → n < tens 20 → Counting n 1 n
count-from n h = (19, refl, omega arith, h)

pub count_next : (n k rest : ℕ) → 10 ≤ rest → Counting n k rest → Counting n (k + 1) (rest / 10)
count_next n k rest more (left, sum, same, fits) = go left sum same fits
  where
    go : (left : ℕ) → k + left ≡ 20 → k + places (suc left) rest ≡ suc (places 20 n) → rest < tens (suc left) → Counting n (k + 1) (rest / 10)
    go zero sum same fits = absurd (omega arith)
    go (suc left) sum same fits = (left, omega arith, omega (arith, places-more (suc left) rest more), omega arith)

pub count-end : (n k rest : ℕ) → rest < 10 → Counting n k rest → k ≡ places 20 n
count-end n k rest small (left, sum, same, fits) = omega (arith, places-one left rest small)

-- the last digit that is not written yet is stored
pub digit-step : (at j rest : ℕ) (xs : List ℕ) → 0 < j → at + j ≤ length xs
    → laid_at at (last_digits (j - 1) (rest / 10)) (set xs (at + (j - 1)) (48 + rest % 10)) ≡ laid_at at (last_digits j rest) xs
unfolding last_digits
digit-step at zero rest xs more fits = absurd (omega arith)
digit-step at (suc i) rest xs more fits = rw less go
  where
    less : suc i - 1 ≡ i
    less = omega arith

    go : laid_at at (last_digits i (rest / 10)) (set xs (at + i) (48 + rest % 10)) ≡ laid_at at (last_digits (suc i) rest) xs
    go = ap (λ (k : ℕ). laid_at at (last_digits i (rest / 10)) (set xs (at + k) (48 + rest % 10))) (sym (last-length i (rest / 10)))
        ∙ laid-last at (last_digits i (rest / 10)) (48 + rest % 10) xs (omega (arith, last-length i (rest / 10)))

pub decimal-most : (n : ℕ) → length (decimal n) ≤ 20
decimal-most n = omega (arith, decimal-length n, places-left 20 n)
