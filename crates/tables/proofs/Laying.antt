-- What is still to be laid, a turn at a time, where the places that are left are counted from the end; and how a gap is closed in one move.
use Rattle.std.specs.Prelude.{◌≡◌, refl, ℕ, zero, suc, ◌+◌, ◌-◌, ◌<◌, ◌≤◌, List, [], ◌∷◌, ◌++◌, length, take, drop, set, replicate}
use Rattle.std.proofs.Common.{ap, subst, ◌∙◌, arith, append-nil, drop_of_length-le}
use Rattle.std.specs.List.{copy_within}
use Rattle.std.proofs.lemmas.List.{append_assoc}
use Rattle.words.specs.declared.Message.{Message}
use Rattle.tables.specs.Tables.{removed, following, copies, laid_at}
use Rattle.tables.specs.TableLaws.{laid-step}

-- the places from i to n are those from i + 1, and i
left : (i n : ℕ) → i < n → suc (n - (i + 1)) ≡ n - i
left i n h = omega arith

module _ {D : Type 0} where
  pub laid_more : (i n : ℕ) (m : D) (xs : List D) → i < n → i < length xs → laid_at (i + 1) (replicate (n - (i + 1)) m) (set xs i m) ≡ laid_at i (replicate (n - i) m) xs
  laid_more i n m xs h l = laid-step i m (replicate (n - (i + 1)) m) xs l ∙ ap (λ (k : ℕ). laid_at i (replicate k m) xs) (left i n h)

pub posted_more : (i n : ℕ) (m : Message) (xs : List Message) → i < n → i < length xs → laid_at (i + 1) (copies (following m) (n - (i + 1))) (set xs i m) ≡ laid_at i (copies m (n - i)) xs
posted_more i n m xs h l = laid-step i m (copies (following m) (n - (i + 1))) xs l ∙ ap (λ (k : ℕ). laid_at i (copies m k) xs) (left i n h)

length-copies : (m : Message) (n : ℕ) → length (copies m n) ≡ n
length-copies m zero = refl
length-copies m (suc n) = ap suc (length-copies (following m) n)

-- laid over all of a list of their number
pub posted_whole : (n : ℕ) (m : Message) (xs : List Message) → length xs ≡ n → laid_at 0 (copies m (n - 0)) xs ≡ copies m n
posted_whole n m xs e = ap (λ (k : ℕ). laid_at 0 (copies m k) xs) all
    ∙ (ap (λ (r : List Message). copies m n ++ r) (drop_of_length-le xs {i = 0 + length (copies m n)} (omega (arith, length-copies m n))) ∙ append-nil (copies m n))
  where
    all : n - 0 ≡ n
    all = omega arith

module _ {D : Type 0} where
  -- the last of the places that were moved down is emptied
  emptied : (n : ℕ) (e x : D) (xs : List D) → n ≤ length xs → set (take n xs ++ drop n (x ∷ xs)) n e ≡ take n xs ++ (e ∷ drop n xs)
  emptied zero e x xs l = refl
  emptied (suc n) e x [] l = absurd (omega arith)
  emptied (suc n) e x (y ∷ xs) l = ap (λ (r : List D). y ∷ r) (emptied n e y xs (omega arith))

  -- the k places behind the one at i move one down, and the last of them, p, is emptied
  closed : (i j k p q n : ℕ) (e : D) (xs : List D) → suc i ≡ j → i + k ≡ p → p ≡ q → suc p ≡ n → n ≤ length xs
      → set (take i xs ++ (take k (drop j xs) ++ drop q xs)) p e ≡ removed i (take n xs) ++ (e ∷ drop n xs)
  closed zero j k p q n e [] f g h s l = absurd (omega arith)
  closed zero j k p q n e (x ∷ xs) f g h s l =
      subst (λ (t : ℕ). set (take k (drop t (x ∷ xs)) ++ drop q (x ∷ xs)) p e ≡ removed 0 (take n (x ∷ xs)) ++ (e ∷ drop n (x ∷ xs))) f
      (subst (λ (t : ℕ). set (take k xs ++ drop t (x ∷ xs)) p e ≡ removed 0 (take n (x ∷ xs)) ++ (e ∷ drop n (x ∷ xs))) h
      (subst (λ (t : ℕ). set (take k xs ++ drop p (x ∷ xs)) p e ≡ removed 0 (take t (x ∷ xs)) ++ (e ∷ drop t (x ∷ xs))) s
      (moved g)))
    where
      moved : 0 + k ≡ p → set (take k xs ++ drop p (x ∷ xs)) p e ≡ take p xs ++ (e ∷ drop p xs)
      moved g = subst (λ (t : ℕ). set (take t xs ++ drop p (x ∷ xs)) p e ≡ take p xs ++ (e ∷ drop p xs)) here (emptied p e x xs (omega arith))
        where
          here : p ≡ k
          here = omega arith
  closed (suc i) zero k p q n e xs f g h s l = absurd (omega arith)
  closed (suc i) (suc j) k zero q n e xs f g h s l = absurd (omega arith)
  closed (suc i) (suc j) k (suc p) zero n e xs f g h s l = absurd (omega arith)
  closed (suc i) (suc j) k (suc p) (suc q) zero e xs f g h s l = absurd (omega arith)
  closed (suc i) (suc j) k (suc p) (suc q) (suc n) e [] f g h s l = absurd (omega arith)
  closed (suc i) (suc j) k (suc p) (suc q) (suc n) e (x ∷ xs) f g h s l = ap (λ (r : List D). x ∷ r) (closed i j k p q n e xs (omega arith) (omega arith) (omega arith) (omega arith) (omega arith))

  pub moved_down : (i n : ℕ) (e : D) (xs : List D) → i < n → n ≤ length xs → set (copy_within xs (i + 1) n i) (n - 1) e ≡ removed i (take n xs) ++ (e ∷ drop n xs)
  moved_down i n e xs l h = ap (λ (r : List D). set r (n - 1) e) (append_assoc (take i xs) (take (n - (i + 1)) (drop (i + 1) xs)) (drop (i + (n - (i + 1))) xs))
      ∙ closed i (i + 1) (n - (i + 1)) (n - 1) (i + (n - (i + 1))) n e xs (omega arith) (omega arith) (omega arith) (omega arith) h
