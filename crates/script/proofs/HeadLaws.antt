-- The first word, compared with each that may stand there.
use Rattle.std.specs.Prelude.{ℕ, ◌≡◌, Bool, true, false, List, eqb, length, refl}
use Rattle.std.specs.Cmp.Lexicographic.{pointwise}
use Rattle.script.specs.Meaning.{same}
use Rattle.std.specs.Prelude.{[], ◌∷◌}
use Rattle.std.proofs.Common.{ap, arith, ◌&&◌}

pub same_is : (a b : List ℕ) → pointwise eqb a b ≡ same a b
same_is [] [] = refl
same_is [] (b ∷ bs) = refl
same_is (a ∷ rest) [] = refl
same_is (a ∷ rest) (b ∷ bs) = ap (λ t. eqb a b && t) (same_is rest bs)

-- words of different length are not the same
pub same_length : (a b : List ℕ) → (length a ≡ length b → ⊥) → false ≡ same a b
same_length [] [] e = absurd (e refl)
same_length [] (b ∷ bs) e = refl
same_length (a ∷ rest) [] e = refl
same_length (a ∷ rest) (b ∷ bs) e = go (eqb a b) (same_length rest bs (λ (q : length rest ≡ length bs). e (omega (arith, q))))
  where
    go : (t : Bool) → false ≡ same rest bs → false ≡ (t && same rest bs)
    go true later = later
    go false later = refl
