-- Laws of a test of every element: of one element, and of a list that grows, loses an element or has one changed; the length without one; and what
-- stands at a place of a list of one value.
use Rattle.std.specs.Prelude.{ℕ, zero, suc, ◌+◌, ◌<◌, ◌≡◌, refl, Bool, true, ◌&&◌, List, [], ◌∷◌, ◌++◌, length, get_or, set, replicate}
use Rattle.std.proofs.Common.{not-suc-le-zero, le_of_suc-le-suc, arith}
use Rattle.words.specs.RangeLaws.{and_left, and_right}
use Rattle.tables.specs.Tables.{removed}
use Rattle.state.specs.WellFormed.{every}

pub both : {a b : Bool} → a ≡ true → b ≡ true → (a && b) ≡ true
both p q = rw (p, q) refl

module _ {A : Type 0} where
  pub every-at : (p : A → Bool) (xs : List A) (d : A) (i : ℕ) → every p xs ≡ true → i < length xs → p (get_or xs i d) ≡ true
  every-at p [] d i e l = absurd (not-suc-le-zero l)
  every-at p (x ∷ xs) d zero e l = and_left (p x) (every p xs) e
  every-at p (x ∷ xs) d (suc i) e l = every-at p xs d i (and_right (p x) (every p xs) e) (le_of_suc-le-suc l)

  pub every-mono : (p q : A → Bool) → ((a : A) → p a ≡ true → q a ≡ true) → (xs : List A) → every p xs ≡ true → every q xs ≡ true
  every-mono p q f [] e = refl
  every-mono p q f (x ∷ xs) e = both (f x (and_left (p x) (every p xs) e)) (every-mono p q f xs (and_right (p x) (every p xs) e))

  pub every_append : (p : A → Bool) (xs ys : List A) → every p xs ≡ true → every p ys ≡ true → every p (xs ++ ys) ≡ true
  every_append p [] ys e f = f
  every_append p (x ∷ xs) ys e f = both (and_left (p x) (every p xs) e) (every_append p xs ys (and_right (p x) (every p xs) e) f)

  pub every_removed : (p : A → Bool) (i : ℕ) (xs : List A) → every p xs ≡ true → every p (removed i xs) ≡ true
  every_removed p i [] e = refl
  every_removed p zero (x ∷ xs) e = and_right (p x) (every p xs) e
  every_removed p (suc i) (x ∷ xs) e = both (and_left (p x) (every p xs) e) (every_removed p i xs (and_right (p x) (every p xs) e))

  pub every_set : (p : A → Bool) (xs : List A) (i : ℕ) (a : A) → every p xs ≡ true → p a ≡ true → every p (set xs i a) ≡ true
  every_set p [] i a e f = refl
  every_set p (x ∷ xs) zero a e f = both f (and_right (p x) (every p xs) e)
  every_set p (x ∷ xs) (suc i) a e f = both (and_left (p x) (every p xs) e) (every_set p xs i a (and_right (p x) (every p xs) e) f)

  pub length_removed : (i : ℕ) (xs : List A) → i < length xs → length (removed i xs) + 1 ≡ length xs
  length_removed i [] l = absurd (not-suc-le-zero l)
  length_removed zero (x ∷ xs) l = omega arith
  length_removed (suc i) (x ∷ xs) l = let e = length_removed i xs (le_of_suc-le-suc l) in omega arith

  -- a list of one value has it at every place, and behind its end too where that is the default
  pub get_or-empty : (n i : ℕ) (d : A) → get_or (replicate n d) i d ≡ d
  get_or-empty zero i d = refl
  get_or-empty (suc n) zero d = refl
  get_or-empty (suc n) (suc i) d = get_or-empty n i d
