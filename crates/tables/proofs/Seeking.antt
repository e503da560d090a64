-- What is sought is the first place at which the number is the wanted one, as the library says it.
use Rattle.std.specs.Prelude.{◌≡◌, refl, ℕ, suc, cond, List, [], ◌∷◌, eqb, position, Option, Some}
use Rattle.std.specs.List.{position_from}
use Rattle.std.proofs.Common.{ap, ◌∙◌, add-one}
use Rattle.std.proofs.lemmas.Iterator.Adapters.{position_from-zero}
use Rattle.words.specs.declared.Message.{Message}
use Rattle.tables.specs.Tables.{seek}

from_place : (k i : ℕ) (xs : List Message) → position_from (λ (m : Message). eqb m.number k) i xs ≡ seek k i xs
from_place k i [] = refl
from_place k i (m ∷ xs) = ap (λ (o : Option ℕ). cond (eqb m.number k) (Some i) o) (ap (λ (j : ℕ). position_from (λ (m : Message). eqb m.number k) j xs) (add-one i) ∙ from_place k (suc i) xs)

pub seek_is : (k : ℕ) (xs : List Message) → position (λ (m : Message). eqb m.number k) xs ≡ seek k 0 xs
seek_is k xs = position_from-zero (λ (m : Message). eqb m.number k) xs ∙ from_place k 0 xs
