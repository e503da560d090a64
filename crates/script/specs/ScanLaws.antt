-- Scanning a text place by place: what is found from a place on, from the byte there and from what is found one place further on.
use Rattle.std.specs.Prelude.{ℕ, zero, suc, ◌+◌, ◌≤◌, ◌<◌, ◌≡◌, refl, Bool, true, false, cond, ◌&&◌, List, [], ◌∷◌, length, get_or, drop}
use Rattle.std.proofs.Common.{sym, ap, ◌∙◌, arith, add-one, drop-cons, eq-eqb, ne_eqb}
use Rattle.script.specs.Lines.{before, is_blank, word, past_blanks}
use Rattle.script.specs.Numbers.{is_digit, digits_only, value}

pub one_on : (text : List ℕ) (i : ℕ) → i < length text → drop i text ≡ get_or text i 0 ∷ drop (i + 1) text
one_on text i l = drop-cons text i 0 l ∙ ap (λ (n : ℕ). get_or text i 0 ∷ drop n text) (sym (add-one i))

pub at-end : (text : List ℕ) (i : ℕ) → length text ≤ i → drop i text ≡ []
at-end [] zero l = refl
at-end [] (suc i) l = refl
at-end (b ∷ rest) zero l = absurd (omega arith)
at-end (b ∷ rest) (suc i) l = at-end rest i (omega arith)

module _ (text : List ℕ) (i : ℕ) where
  module _ (l : i < length text) where
    pub before-stop : (byte : ℕ) → get_or text i 0 ≡ byte → before byte (drop i text) ≡ []
    before-stop byte e = ap (before byte) (one_on text i l) ∙ ap (λ (t : Bool). cond t [] (get_or text i 0 ∷ before byte (drop (i + 1) text))) (eq-eqb (get_or text i 0) byte e)

    pub before-next : (byte : ℕ) → (get_or text i 0 ≡ byte → ⊥) → before byte (drop i text) ≡ get_or text i 0 ∷ before byte (drop (i + 1) text)
    before-next byte e = ap (before byte) (one_on text i l) ∙ ap (λ (t : Bool). cond t [] (get_or text i 0 ∷ before byte (drop (i + 1) text))) (ne_eqb (get_or text i 0) byte e)

    pub word-stop : is_blank (get_or text i 0) ≡ true → word (drop i text) ≡ []
    word-stop e = ap word (one_on text i l) ∙ ap (λ (t : Bool). cond t [] (get_or text i 0 ∷ word (drop (i + 1) text))) e

    pub word_next : is_blank (get_or text i 0) ≡ false → word (drop i text) ≡ get_or text i 0 ∷ word (drop (i + 1) text)
    word_next e = ap word (one_on text i l) ∙ ap (λ (t : Bool). cond t [] (get_or text i 0 ∷ word (drop (i + 1) text))) e

    pub blanks-stop : is_blank (get_or text i 0) ≡ false → drop i text ≡ past_blanks (drop i text)
    blanks-stop e =
        one_on text i l ∙ sym (ap (λ (t : Bool). cond t (past_blanks (drop (i + 1) text)) (get_or text i 0 ∷ drop (i + 1) text)) e) ∙ sym (ap past_blanks (one_on text i l))

    pub blanks-next : is_blank (get_or text i 0) ≡ true → past_blanks (drop i text) ≡ past_blanks (drop (i + 1) text)
    blanks-next e = ap past_blanks (one_on text i l) ∙ ap (λ (t : Bool). cond t (past_blanks (drop (i + 1) text)) (get_or text i 0 ∷ drop (i + 1) text)) e

    pub digits_are : digits_only (drop i text) ≡ (is_digit (get_or text i 0) && digits_only (drop (i + 1) text))
    digits_are = ap digits_only (one_on text i l)

    pub value-are : (n : ℕ) → value n (drop i text) ≡ value n (get_or text i 0 ∷ drop (i + 1) text)
    value-are n = ap (value n) (one_on text i l)
