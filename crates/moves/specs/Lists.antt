-- What holds of each element of a list, and how many pass a test: of a list that grows, of one without an element, and of a broadcast's copies.
use Rattle.std.specs.Prelude.{ℕ, zero, suc, ◌+◌, ◌<◌, ◌≡◌, refl, Bool, true, false, List, [], ◌∷◌, ◌++◌, length, get_or}
use Rattle.std.proofs.Common.{ap, arith}
use Rattle.words.specs.declared.Message.{Message}
use Rattle.tables.specs.Tables.{removed, following, copies}

abbrev pub one : Bool → ℕ
one true = 1
one false = 0

module _ {A : Type 0} where
  abbrev pub All : (A → Type 0) → List A → Type 0
  All P [] = Unit {0}
  All P (a ∷ rest) = P a × All P rest

  pub all_map : (P Q : A → Type 0) → ((a : A) → P a → Q a) → (xs : List A) → All P xs → All Q xs
  all_map P Q f [] h = tt
  all_map P Q f (x ∷ xs) h = (f x h.0, all_map P Q f xs h.1)

  pub all_append : (P : A → Type 0) (xs ys : List A) → All P xs → All P ys → All P (xs ++ ys)
  all_append P [] ys h k = k
  all_append P (x ∷ xs) ys h k = (h.0, all_append P xs ys h.1 k)

  pub all-removed : (P : A → Type 0) (i : ℕ) (xs : List A) → All P xs → All P (removed i xs)
  all-removed P i [] h = tt
  all-removed P zero (x ∷ xs) h = h.1
  all-removed P (suc i) (x ∷ xs) h = (h.0, all-removed P i xs h.1)

  pub all-at : (P : A → Type 0) (xs : List A) (d : A) (i : ℕ) → i < length xs → All P xs → P (get_or xs i d)
  all-at P [] d i l h = absurd (omega arith)
  all-at P (x ∷ xs) d zero l h = h.0
  all-at P (x ∷ xs) d (suc i) l h = all-at P xs d i (omega arith) h.1

  -- how many pass a test
  abbrev pub count_if : (A → Bool) → List A → ℕ
  count_if f [] = 0
  count_if f (a ∷ rest) = one (f a) + count_if f rest

  pub count-append : (f : A → Bool) (xs ys : List A) → count_if f (xs ++ ys) ≡ count_if f xs + count_if f ys
  count-append f [] ys = omega arith
  count-append f (x ∷ xs) ys = let e = count-append f xs ys in omega arith

  pub count-removed : (f : A → Bool) (xs : List A) (d : A) (i : ℕ) → i < length xs
      → count_if f (removed i xs) + one (f (get_or xs i d)) ≡ count_if f xs
  count-removed f [] d i l = absurd (omega arith)
  count-removed f (x ∷ xs) d zero l = omega arith
  count-removed f (x ∷ xs) d (suc i) l = let e = count-removed f xs d i (omega arith) in omega arith

  pub count_none : (f : A → Bool) (xs : List A) → All (λ a. f a ≡ false) xs → count_if f xs ≡ 0
  count_none f [] h = refl
  count_none f (x ∷ xs) h = let e = count_none f xs h.1 in let o : one (f x) ≡ 0 = ap one h.0 in omega arith

-- what each copy hands on to the next holds of them all
pub all-copies : (P : Message → Type 0) → ((m : Message) → P m → P (following m)) → (m : Message) (count : ℕ) → P m → All P (copies m count)
all-copies P next m zero h = tt
all-copies P next m (suc count) h = (h, all-copies P next (following m) count (next m h))
