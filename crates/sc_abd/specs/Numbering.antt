-- The number of the message at a place names that place, since the numbers rise.
use Rattle.std.specs.Prelude.{ℕ, zero, suc, ◌+◌, ◌<◌, ◌≡◌, refl, true, ◌&&◌, List, [], ◌∷◌, ltb, leb, length, get_or, Some}
use Rattle.std.proofs.Common.{sym, ap, ◌∙◌, arith, ltb-true, eq-eqb, ne_eqb}
use Rattle.words.specs.declared.Message.{Message}
use Rattle.words.specs.RangeLaws.{and_left, and_right}
use Rattle.tables.specs.Tables.{empty_message, seek}
use Rattle.state.specs.State.{State}
use Rattle.state.specs.WellFormed.{rising}
use Rattle.state.specs.Accepted.{message_at}
use Rattle.state.proofs.WellLaws.{Well}
use Rattle.state.proofs.AcceptedLaws.{InFlight}

module _ (below most : ℕ) (m : Message) (rest : List Message) (e : rising below most (m ∷ rest) ≡ true) where
  rising-head : below < m.number
  rising-head = ltb-true _ _ (and_left (ltb below m.number) _ (and_left (ltb below m.number && leb m.number most) (rising m.number most rest) e))

  rising-tail : rising m.number most rest ≡ true
  rising-tail = and_right (ltb below m.number && leb m.number most) (rising m.number most rest) e

above : (below most : ℕ) (xs : List Message) (i : ℕ) → rising below most xs ≡ true → i < length xs → below < (get_or xs i empty_message).number
above below most [] i e l = absurd (omega arith)
above below most (m ∷ rest) zero e l = rising-head below most m rest e
above below most (m ∷ rest) (suc i) e l =
    let a = rising-head below most m rest e in
    let b = above m.number most rest i (rising-tail below most m rest e) (omega arith) in
    omega arith

seek-from : (below most : ℕ) (xs : List Message) (i from : ℕ) → rising below most xs ≡ true → i < length xs
    → seek (get_or xs i empty_message).number from xs ≡ Some (from + i)
seek-from below most [] i from e l = absurd (omega arith)
seek-from below most (m ∷ rest) zero from e l =
    let z : from ≡ from + 0 = omega arith in
    rw (eq-eqb m.number m.number refl) (ap Some z)
seek-from below most (m ∷ rest) (suc i) from e l =
    let later = above m.number most rest i (rising-tail below most m rest e) (omega arith) in
    let other : m.number ≡ (get_or rest i empty_message).number → ⊥ = λ f. omega arith in
    let z : suc from + i ≡ from + suc i = omega arith in
    rw (ne_eqb m.number (get_or rest i empty_message).number other)
    (seek-from m.number most rest i (suc from) (rising-tail below most m rest e) (omega arith) ∙ ap Some z)

pub seek-place : (s : State) → Well s → (i : ℕ) → i < length s.flight → seek (message_at s i).number 0 s.flight ≡ Some i
seek-place s w i l =
    let z : 0 + i ≡ i = omega arith in
    seek-from 0 s.sent s.flight i 0 w.numbers l ∙ ap Some z

pub found-place : (s : State) → Well s → (k i : ℕ) → InFlight s k i → seek k 0 s.flight ≡ Some i
found-place s w k i f = ap (λ j. seek j 0 s.flight) (sym f.number) ∙ seek-place s w i f.inside
