-- Rows by their numbers: `row_at`, with which the statements are made, and `named`, with which the passes read.
use Rattle.std.specs.Prelude.{ℕ, zero, suc, ◌-◌, ◌≤◌, ◌<◌, ◌≡◌, refl, true, false, List, [], ◌∷◌, leb, length, get_or}
use Rattle.std.proofs.Common.{sym, ◌∙◌, arith, leb-false}
use Rattle.std.proofs.Math.Option.{none, some, some-injective, none-ne-some}
use Rattle.std.proofs.Math.Dec.{eqb-suc-zero}
use Rattle.words.specs.Ranges.{within}
use Rattle.words.specs.RangeLaws.{within-least, within-most}
use Rattle.verdicts.specs.Explains.{Row, row_at}
use Rattle.verdicts.specs.Verdict.{blank, named}

pub row-at-place : (rows : List Row) (k : ℕ) → k < length rows → row_at rows (suc k) ≡ some (get_or rows k blank)
row-at-place [] k h = absurd (omega arith)
row-at-place (a ∷ rows) zero h = refl
row-at-place (a ∷ rows) (suc k) h = row-at-place rows k (omega arith)

pub row-past : (rows : List Row) (k : ℕ) → length rows ≤ k → row_at rows (suc k) ≡ none
row-past [] k h = refl
row-past (a ∷ rows) zero h = absurd (omega arith)
row-past (a ∷ rows) (suc k) h = row-past rows k (omega arith)

pub row_zero : (rows : List Row) → row_at rows 0 ≡ none
row_zero [] = refl
row_zero (a ∷ rows) = refl

pub row_named : (rows : List Row) (i : ℕ) → 1 ≤ i → i ≤ length rows → row_at rows i ≡ some (named rows i)
row_named rows zero p q = absurd (omega arith)
row_named rows (suc k) p q =
    let e : suc k - 1 ≡ k = omega arith in
    rw e (row-at-place rows k (omega arith))

-- a number that is some row's
pub row_inside : (rows : List Row) (i : ℕ) (a : Row) → row_at rows i ≡ some a → (1 ≤ i) × (i ≤ length rows)
row_inside [] i a e = absurd (none-ne-some a e)
row_inside (b ∷ rows) zero a e = absurd (none-ne-some a e)
row_inside (b ∷ rows) (suc zero) a e = (omega arith, omega arith)
row_inside (b ∷ rows) (suc (suc k)) a e =
    let r = row_inside rows (suc k) a e in
    (omega arith, omega (arith, r.1))

pub row-is-named : (rows : List Row) (i : ℕ) (a : Row) → row_at rows i ≡ some a → named rows i ≡ a
row-is-named rows i a e =
    let r = row_inside rows i a e in
    some-injective (named rows i) a (sym (row_named rows i r.0 r.1) ∙ e)

-- a number within the count is some row's, and no other is
pub row_within : (rows : List Row) (i : ℕ) → within i (length rows) ≡ true → row_at rows i ≡ some (named rows i)
row_within rows i e = row_named rows i (within-least i (length rows) e) (within-most i (length rows) e)

pub row-outside : (rows : List Row) (i : ℕ) → within i (length rows) ≡ false → row_at rows i ≡ none
row-outside rows zero e = row_zero rows
row-outside rows (suc k) e =
    let f : leb (suc k) (length rows) ≡ false = rw (eqb-suc-zero k) at e in
    row-past rows k (omega (arith, leb-false (suc k) (length rows) f))
