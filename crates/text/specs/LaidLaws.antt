-- Laying texts into a buffer: how long it stays, and that two texts laid one after another are their concatenation laid once.
use Rattle.std.specs.Prelude.{ℕ, suc, ◌+◌, ◌≤◌, ◌<◌, ◌≡◌, List, [], ◌∷◌, ◌++◌, length, take, drop, set}
use Rattle.std.proofs.Common.{sym, ap, ◌∙◌, append_assoc, arith, add-one, length-append, length-take, length-drop, take_at, drop_at, drop-drop, length-take-le}
use Rattle.std.proofs.Math.Seq.{drop-append-add}
use Rattle.std.proofs.lemmas.List.{set_split, take-set-le}
use Rattle.tables.specs.Tables.{laid_at}

module _ {A : Type 0} where
  -- a buffer keeps its length where the text fits
  pub laid-length : (at : ℕ) (a xs : List A) → at + length a ≤ length xs → length (laid_at at a xs) ≡ length xs
  laid-length at a xs fits = simp (length-append, length-take, length-drop) (omega arith)

  -- what stands before the end of a text that was laid
  head-length : (at : ℕ) (a xs : List A) → at ≤ length xs → length (take at xs ++ a) ≡ at + length a
  head-length at a xs fits = length-append (take at xs) a ∙ ap (λ (n : ℕ). n + length a) (length-take-le at xs fits)

  -- laid one after another is laid once
  pub laid-twice : (at : ℕ) (a b xs : List A) → at ≤ length xs → laid_at (at + length a) b (laid_at at a xs) ≡ laid_at at (a ++ b) xs
  laid-twice at a b xs fits =
      ap (λ (l : List A). take (at + length a) l ++ (b ++ drop (at + length a + length b) l)) (sym (append_assoc (take at xs) a rest))
      ∙ ap (λ (l : List A). l ++ (b ++ drop (at + length a + length b) (front ++ rest))) (take_at front rest (at + length a) long)
      ∙ ap (λ (n : ℕ). front ++ (b ++ drop (n + length b) (front ++ rest))) (sym long)
      ∙ ap (λ (l : List A). front ++ (b ++ l)) (drop-append-add front rest (length b) ∙ drop-drop (length b) (at + length a) xs ∙ ap (λ (n : ℕ). drop n xs) ends)
      ∙ append_assoc (take at xs) a (b ++ drop (at + length (a ++ b)) xs)
      ∙ ap (λ (l : List A). take at xs ++ l) (sym (append_assoc a b (drop (at + length (a ++ b)) xs)))
    where
      rest : List A
      rest = drop (at + length a) xs

      front : List A
      front = take at xs ++ a

      long : length front ≡ at + length a
      long = head-length at a xs fits

      ends : at + length a + length b ≡ at + length (a ++ b)
      ends = omega (arith, length-append a b)

  -- one element stored is a text of one laid
  pub laid_one : (at : ℕ) (d : A) (xs : List A) → at < length xs → set xs at d ≡ laid_at at (d ∷ []) xs
  laid_one at d xs fits = set_split xs at d fits ∙ ap (λ (n : ℕ). take at xs ++ (d ∷ drop n xs)) (sym (add-one at))

  -- the last element of a text stored first
  pub laid-last : (at : ℕ) (a : List A) (d : A) (xs : List A) → at + length a < length xs → laid_at at a (set xs (at + length a) d) ≡ laid_at at (a ++ (d ∷ [])) xs
  laid-last at a d xs fits =
      ap (λ (l : List A). l ++ (a ++ drop end (set xs end d))) (take-set-le at xs end d (omega arith))
      ∙ ap (λ (l : List A). take at xs ++ (a ++ l))
      (ap (drop end) (set_split xs end d fits) ∙ drop_at (take end xs) (d ∷ drop (suc end) xs) end (length-take-le end xs (omega arith)))
      ∙ ap (λ (n : ℕ). take at xs ++ (a ++ (d ∷ drop n xs))) ends
      ∙ ap (λ (l : List A). take at xs ++ l) (sym (append_assoc a (d ∷ []) (drop (at + length (a ++ (d ∷ []))) xs)))
    where
      end : ℕ
      end = at + length a

      ends : suc (at + length a) ≡ at + length (a ++ (d ∷ []))
      ends = omega (arith, length-append a (d ∷ []))
