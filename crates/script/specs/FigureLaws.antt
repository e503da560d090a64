-- A word as a number or a value, from tests: whether it is a number, and how its capped value compares.
use Rattle.std.specs.Prelude.{ℕ, ◌-◌, ◌≤◌, ◌<◌, ◌≡◌, refl, Bool, true, false, not, ◌&&◌, List, [], ◌∷◌, eqb, leb, ℤ, pos, negsuc, length, get_or, drop, Result, Ok, Err}
use Rattle.std.proofs.Math.Path.{sym, ap}
use Rattle.std.proofs.Common.{subst, ◌∙◌, arith, le-leb, eq-eqb, ne_eqb}
use Rattle.std.proofs.Math.Bool.{cond}
use Rattle.std.proofs.lemmas.Bool.{lt-leb}
use Rattle.script.specs.declared.Fault.{Fault}
use Rattle.script.specs.declared.Fault.TheVariants.{NotANumber, TooLarge}
use Rattle.script.specs.Numbers.{is_number, value, capped, figure_of, positive_of, negative_of, amount_of}
use Rattle.script.specs.NumberLaws.{cap-within, cap-beyond}

module _ (w : List ℕ) where
  -- ---- a number

  module _ (most : ℕ) where
    figure-by : (t u : Bool) → is_number w ≡ t → leb (value 0 w) most ≡ u → cond t (cond u (Ok (value 0 w)) (Err TooLarge)) (Err NotANumber) ≡ figure_of most w
    unfolding figure_of
    figure-by t u e f =
        sym (ap {B = Result ℕ Fault} (λ (b : Bool). cond b (cond (leb (value 0 w) most) (Ok (value 0 w)) (Err TooLarge)) (Err NotANumber)) e ∙ ap {B = Result ℕ Fault} (λ (b : Bool). cond t (cond b (Ok (value 0 w)) (Err TooLarge)) (Err NotANumber)) f)

    pub figure-none : is_number w ≡ false → Err NotANumber ≡ figure_of most w
    figure-none e = figure-by false (leb (value 0 w) most) e refl

    module _ (small : most ≤ 9223372036854775808) (e : is_number w ≡ true) (n : ℕ) (counted : n ≡ capped (value 0 w)) where
      pub figure-large : most < n → Err TooLarge ≡ figure_of most w
      figure-large l = figure-by true false e (lt-leb (value 0 w) most (cap-beyond most (value 0 w) small (subst (λ (k : ℕ). most < k) counted l)))

      pub figure-is : n ≤ most → Ok n ≡ figure_of most w
      figure-is l =
          let inside = cap-within most (value 0 w) small (subst (λ (k : ℕ). k ≤ most) counted l) in
          ap {B = Result ℕ Fault} (λ (k : ℕ). Ok k) (counted ∙ inside.0) ∙ figure-by true true e (le-leb (value 0 w) most inside.1)

  -- ---- a value without a sign

  positive-by : (t u : Bool) → is_number w ≡ t → leb (value 0 w) 9223372036854775807 ≡ u → cond t (cond u (Ok (pos (value 0 w))) (Err TooLarge)) (Err NotANumber) ≡ positive_of w
  positive-by t u e f =
      sym (ap {B = Result ℤ Fault} (λ (b : Bool). cond b (cond (leb (value 0 w) 9223372036854775807) (Ok (pos (value 0 w))) (Err TooLarge)) (Err NotANumber)) e
      ∙ ap {B = Result ℤ Fault} (λ (b : Bool). cond t (cond b (Ok (pos (value 0 w))) (Err TooLarge)) (Err NotANumber)) f)

  pub positive-none : is_number w ≡ false → Err NotANumber ≡ positive_of w
  positive-none e = positive-by false (leb (value 0 w) 9223372036854775807) e refl

  module _ (e : is_number w ≡ true) (n : ℕ) (counted : n ≡ capped (value 0 w)) where
    pub positive-large : 9223372036854775807 < n → Err TooLarge ≡ positive_of w
    positive-large l =
        positive-by true false e (lt-leb (value 0 w) 9223372036854775807 (cap-beyond 9223372036854775807 (value 0 w) (omega arith) (subst (λ (k : ℕ). 9223372036854775807 < k) counted l)))

    pub positive-is : n ≤ 9223372036854775807 → Ok (pos n) ≡ positive_of w
    positive-is l =
        let inside = cap-within 9223372036854775807 (value 0 w) (omega arith) (subst (λ (k : ℕ). k ≤ 9223372036854775807) counted l) in
        ap {B = Result ℤ Fault} (λ (k : ℕ). Ok (pos k)) (counted ∙ inside.0) ∙ positive-by true true e (le-leb (value 0 w) 9223372036854775807 inside.1)

  -- ---- what stands behind a minus sign

  negative-by : (t z u : Bool) → is_number w ≡ t → eqb (value 0 w) 0 ≡ z → leb (value 0 w) 9223372036854775808 ≡ u
      → cond (t && not z) (cond u (Ok (negsuc (value 0 w - 1))) (Err TooLarge)) (Err NotANumber) ≡ negative_of w
  negative-by t z u e f g =
      sym (ap {B = Result ℤ Fault} (λ (b : Bool). cond (b && not (eqb (value 0 w) 0)) (cond (leb (value 0 w) 9223372036854775808) (Ok (negsuc (value 0 w - 1))) (Err TooLarge)) (Err NotANumber)) e
      ∙ ap {B = Result ℤ Fault} (λ (b : Bool). cond (t && not b) (cond (leb (value 0 w) 9223372036854775808) (Ok (negsuc (value 0 w - 1))) (Err TooLarge)) (Err NotANumber)) f
      ∙ ap {B = Result ℤ Fault} (λ (b : Bool). cond (t && not z) (cond b (Ok (negsuc (value 0 w - 1))) (Err TooLarge)) (Err NotANumber)) g)

  pub negative-none : is_number w ≡ false → Err NotANumber ≡ negative_of w
  negative-none e = negative-by false (eqb (value 0 w) 0) (leb (value 0 w) 9223372036854775808) e refl refl

  module _ (e : is_number w ≡ true) (n : ℕ) (counted : n ≡ capped (value 0 w)) where
    inside : n ≤ 9223372036854775808 → (capped (value 0 w) ≡ value 0 w) × (value 0 w ≤ 9223372036854775808)
    inside l = cap-within 9223372036854775808 (value 0 w) (omega arith) (subst (λ (k : ℕ). k ≤ 9223372036854775808) counted l)

    pub negative-zero : n ≡ 0 → Err NotANumber ≡ negative_of w
    negative-zero z =
        let low : n ≤ 9223372036854775808 = omega (arith, z) in
        negative-by true true (leb (value 0 w) 9223372036854775808) e (eq-eqb (value 0 w) 0 (sym (counted ∙ (inside low).0) ∙ z)) refl

    pub negative-large : 9223372036854775808 < n → Err TooLarge ≡ negative_of w
    negative-large l =
        let past : 9223372036854775808 < value 0 w = cap-beyond 9223372036854775808 (value 0 w) (omega arith) (subst (λ (k : ℕ). 9223372036854775808 < k) counted l) in
        negative-by true false false e (ne_eqb (value 0 w) 0 (λ (z : value 0 w ≡ 0). omega (arith, past, z))) (lt-leb (value 0 w) 9223372036854775808 past)

    pub negative-is : (n ≡ 0 → ⊥) → n ≤ 9223372036854775808 → Ok (negsuc (n - 1)) ≡ negative_of w
    negative-is some l =
        let same : n ≡ value 0 w = counted ∙ (inside l).0 in
        ap {B = Result ℤ Fault} (λ (k : ℕ). Ok (negsuc (k - 1))) same ∙ negative-by true false true e (ne_eqb (value 0 w) 0 (λ (z : value 0 w ≡ 0). some (same ∙ z))) (le-leb (value 0 w) 9223372036854775808 (inside l).1)

-- ---- with a sign or without

pub amount-none : (w : List ℕ) → length w ≡ 0 → Err NotANumber ≡ amount_of w
unfolding amount_of
amount-none [] e = refl
amount-none (b ∷ rest) e = absurd (omega (arith, e))

pub amount-minus : (w : List ℕ) → (length w ≡ 0 → ⊥) → get_or w 0 0 ≡ 45 → negative_of (drop 1 w) ≡ amount_of w
unfolding amount_of
amount-minus [] some e = absurd (some refl)
amount-minus (b ∷ rest) some e = sym (ap (λ (t : Bool). cond t (negative_of rest) (positive_of (b ∷ rest))) (eq-eqb b 45 e))

pub amount-plus : (w : List ℕ) → (length w ≡ 0 → ⊥) → (get_or w 0 0 ≡ 45 → ⊥) → positive_of w ≡ amount_of w
unfolding amount_of
amount-plus [] some e = absurd (some refl)
amount-plus (b ∷ rest) some e = sym (ap (λ (t : Bool). cond t (negative_of rest) (positive_of (b ∷ rest))) (ne_eqb b 45 e))
