-- Laws of lists that a table holds in its first places, with empty places behind them.
use Rattle.std.specs.Prelude.{◌≡◌, refl, ℕ, zero, suc, ◌-◌, ◌<◌, ◌≤◌, List, [], ◌∷◌, ◌++◌, length, get_or, set, take, drop, replicate}
use Rattle.std.proofs.Common.{sym, ap, ◌∙◌, arith, append_assoc, length-append, length-set}
use Rattle.std.proofs.Math.Seq.{take-append_seam, drop-append_seam, drop-append-add, set-append_seam}
use Rattle.std.proofs.lemmas.List.{drop-replicate, set-append_left}
use Rattle.tables.specs.Tables.{removed, laid_at}
use Rattle.state.proofs.EveryLaws.{length_removed, get_or-empty}

module _ {A : Type 0} where
  -- the first places of a table of so many
  abbrev pub laid : ℕ → A → List A → List A
  laid most d xs = xs ++ replicate (most - length xs) d

  pub get_or-laid : (n : ℕ) (d : A) (xs : List A) (i : ℕ) → get_or (xs ++ replicate n d) i d ≡ get_or xs i d
  get_or-laid n d [] i = get_or-empty n i d
  get_or-laid n d (x ∷ xs) zero = refl
  get_or-laid n d (x ∷ xs) (suc i) = get_or-laid n d xs i

  -- more is laid behind what is there
  pub laid_more : (most : ℕ) (d : A) (xs ys : List A) → laid_at (length xs) ys (laid most d xs) ≡ laid most d (xs ++ ys)
  laid_more most d xs ys = rw (take-append_seam xs _, drop-append-add xs _ (length ys), drop-replicate (length ys) (most - length xs) d, left, append_assoc xs ys _)
    where
      left : most - length xs - length ys ≡ most - length (xs ++ ys)
      left = omega (arith, length-append xs ys)

  pub length-less : (i : ℕ) (xs : List A) → i < length xs → length (removed i xs) ≡ length xs - 1
  length-less i xs l = omega (arith, length_removed i xs l)

  -- one is taken off
  pub laid-less : (most : ℕ) (d : A) (xs : List A) (i : ℕ) → i < length xs → length xs ≤ most
      → removed i (take (length xs) (laid most d xs)) ++ (d ∷ drop (length xs) (laid most d xs)) ≡ laid most d (removed i xs)
  laid-less most d xs i l le = rw (take-append_seam xs _, drop-append_seam xs _) (ap (λ (n : ℕ). removed i xs ++ replicate n d) left)
    where
      left : suc (most - length xs) ≡ most - length (removed i xs)
      left = omega (arith, length_removed i xs l)

  -- one is stored among them, or right behind them
  pub laid-set : (most : ℕ) (d : A) (xs : List A) (i : ℕ) (y : A) → i < length xs → set (laid most d xs) i y ≡ laid most d (set xs i y)
  laid-set most d xs i y l = set-append_left xs _ i y l ∙ ap (λ (n : ℕ). set xs i y ++ replicate (most - n) d) (sym (length-set xs i y))

  pub laid_next : (most : ℕ) (d : A) (xs : List A) (y : A) → length xs < most → set (laid most d xs) (length xs) y ≡ laid most d (xs ++ (y ∷ []))
  laid_next most d xs y l = ap (λ (n : ℕ). set (xs ++ replicate n d) (length xs) y) first ∙ set-append_seam xs d _ y
      ∙ sym (append_assoc xs (y ∷ []) _) ∙ ap (λ (n : ℕ). (xs ++ (y ∷ [])) ++ replicate n d) rest
    where
      first : most - length xs ≡ suc (most - length xs - 1)
      first = omega arith

      rest : most - length xs - 1 ≡ most - length (xs ++ (y ∷ []))
      rest = omega (arith, length-append xs (y ∷ []))
