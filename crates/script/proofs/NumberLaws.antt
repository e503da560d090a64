-- Which words are numbers, and what digits make.
use Rattle.std.specs.Prelude.{ℕ, suc, ◌+◌, ◌-◌, ◌*◌, ◌≤◌, ◌<◌, ◌≡◌, refl, Bool, true, false, cond, not, ◌&&◌, ◌||◌, List, [], ◌∷◌, eqb, leb, ◌==◌, length, get_or, drop, ℤ, pos, negsuc, Result, Ok, Err}
use Rattle.std.specs.Char.{is_ascii_digit}
use Rattle.std.specs.List.{list_all}
use Rattle.std.proofs.Common.{sym, ap, ◌∙◌, arith, drop-cons, eqb-true, eq-eqb, ne_eqb, leb-false}
use Rattle.script.specs.declared.Fault.{Fault}
use Rattle.script.specs.declared.Fault.TheVariants.{NotANumber, TooLarge}
use Rattle.script.specs.Meaning.{and_then}
use Rattle.script.specs.Numbers.{digits_only, is_empty, leads, is_number, value, figure_of, positive_of, negative_of, amount_of}
use Rattle.script.proofs.LineLaws.{at-end}
use Rattle.script.specs.NumberLaws.{value_grows}

pub digits_all : (w : List ℕ) → list_all is_ascii_digit w ≡ digits_only w
digits_all [] = refl
digits_all (b ∷ rest) = ap (λ t. is_ascii_digit b && t) (digits_all rest)

empty : (w : List ℕ) → (length w == 0) ≡ is_empty w
empty [] = refl
empty (b ∷ rest) = search (arith)

pub number_front : (w : List ℕ) (b : ℕ) (rest : List ℕ) (all none : Bool) → w ≡ b ∷ rest → all ≡ list_all is_ascii_digit w → none ≡ (length rest == 0) → (all && (none || not (eqb b 48))) ≡ is_number w
number_front w b rest all none front digits alone =
    ap (λ t. t && (none || not (eqb b 48))) (digits ∙ digits_all w ∙ ap digits_only front) ∙ ap (λ t. digits_only (b ∷ rest) && (t || not (eqb b 48))) (alone ∙ empty rest) ∙ ap is_number (sym front)

pub number_parts : (w : List ℕ) → (list_all is_ascii_digit w && leads w) ≡ is_number w
number_parts [] = refl
number_parts (b ∷ rest) = ap (λ t. t && (is_empty rest || not (eqb b 48))) (digits_all (b ∷ rest))

-- ---- what is left of the digits

module _ (w : List ℕ) (i n : ℕ) where
  pub value_next : i < length w → value n (drop i w) ≡ value (10 * n + (get_or w i 0 - 48)) (drop (suc i) w)
  value_next l = ap (value n) (drop-cons w i 0 l)

  pub value_past : i < length w → value n (drop i w) ≡ value 0 w → (10 * n + (get_or w i 0 - 48) < 18446744073709551616 → ⊥) → value 0 w < 18446744073709551616 → ⊥
  value_past l e past small = past (omega (arith, e, value_next l, value_grows (10 * n + (get_or w i 0 - 48)) (drop (suc i) w), small))

  pub digits_whole : length w ≤ i → digits_only (drop i w) ≡ digits_only w → digits_only w ≡ true
  digits_whole l e = sym e ∙ ap digits_only (at-end w i l)

  pub value_whole : length w ≤ i → value n (drop i w) ≡ value 0 w → value 0 w ≡ n
  value_whole l e = sym e ∙ ap (value n) (at-end w i l)

-- ---- a value

pub positive-by : (w : List ℕ) (r : Result ℕ Fault) → r ≡ figure_of 9223372036854775807 w → and_then r (λ n. Ok (pos n)) ≡ positive_of w
unfolding figure_of
positive-by w r e = ap (λ r. and_then r (λ n. Ok (pos n))) e ∙ go (is_number w) (leb (value 0 w) 9223372036854775807)
  where
    go : (t u : Bool) → and_then (cond t (cond u (Ok (value 0 w)) (Err TooLarge)) (Err NotANumber)) (λ n. Ok (pos n)) ≡ cond t (cond u (Ok (pos (value 0 w))) (Err TooLarge)) (Err NotANumber)
    go true true = refl
    go true false = refl
    go false u = refl

abbrev pub below : ℕ → Result ℤ Fault
below n = cond (eqb n 0) (Err NotANumber) (Ok (negsuc (n - 1)))

pub zero-below : (n : ℕ) → n ≡ 0 → Err NotANumber ≡ below n
zero-below n e = sym (ap (λ t. cond t (Err NotANumber) (Ok (negsuc (n - 1)))) (eq-eqb n 0 e))

pub some-below : (n : ℕ) → (n ≡ 0 → ⊥) → Ok (negsuc (n - 1)) ≡ below n
some-below n e = sym (ap (λ t. cond t (Err NotANumber) (Ok (negsuc (n - 1)))) (ne_eqb n 0 e))

pub negative-by : (w : List ℕ) (r : Result ℕ Fault) → r ≡ figure_of 9223372036854775808 w → and_then r below ≡ negative_of w
unfolding figure_of
negative-by w r e = ap (λ r. and_then r below) e ∙ go (is_number w) (eqb (value 0 w) 0) refl (leb (value 0 w) 9223372036854775808) refl
  where
    go : (t z : Bool) → eqb (value 0 w) 0 ≡ z → (u : Bool) → leb (value 0 w) 9223372036854775808 ≡ u
        → and_then (cond t (cond u (Ok (value 0 w)) (Err TooLarge)) (Err NotANumber)) below ≡ cond (t && not z) (cond u (Ok (negsuc (value 0 w - 1))) (Err TooLarge)) (Err NotANumber)
    go true true e true f = ap (λ t. cond t (Err NotANumber) (Ok (negsuc (value 0 w - 1)))) e
    go true false e true f = ap (λ t. cond t (Err NotANumber) (Ok (negsuc (value 0 w - 1)))) e
    go true true e false f = absurd (omega (arith, eqb-true (value 0 w) 0 e, leb-false (value 0 w) 9223372036854775808 f))
    go true false e false f = refl
    go false z e u f = refl

pub amount-minus : (w rest : List ℕ) → w ≡ 45 ∷ rest → negative_of rest ≡ amount_of w
unfolding amount_of
amount-minus w rest e = sym (ap amount_of e)

pub amount-plus : (w : List ℕ) → ((rest : List ℕ) → w ≡ 45 ∷ rest → ⊥) → positive_of w ≡ amount_of w
unfolding amount_of
amount-plus [] e = refl
amount-plus (b ∷ rest) e = sym (ap (λ t. cond t (negative_of rest) (positive_of (b ∷ rest))) (ne_eqb b 45 (λ q. e rest (ap (λ b. b ∷ rest) q))))
