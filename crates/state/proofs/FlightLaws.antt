-- Laws of the messages in flight: numbers that rise go on rising when a message is taken off and when copies with the next numbers are sent.
use Rattle.std.specs.Prelude.{ℕ, zero, suc, ◌+◌, ◌≤◌, ◌<◌, ◌≡◌, refl, true, ◌&&◌, List, [], ◌∷◌, ◌++◌, ltb, leb, length}
use Rattle.std.proofs.Common.{ap, arith, ltb-true, leb-true, lt-ltb, le-leb}
use Rattle.words.specs.declared.Message.{Message}
use Rattle.words.specs.RangeLaws.{and_left, and_right}
use Rattle.tables.specs.Tables.{removed, following, copies}
use Rattle.state.specs.WellFormed.{rising}
use Rattle.state.proofs.EveryLaws.{both}

-- what the first number of a rising list says
module _ (below most : ℕ) (m : Message) (rest : List Message) (e : rising below most (m ∷ rest) ≡ true) where
  rising-above : below < m.number
  rising-above =
      ltb-true _ _ (and_left _ _ (and_left (ltb below m.number && leb m.number most) (rising m.number most rest) e))

  rising-most : m.number ≤ most
  rising-most =
      leb-true _ _
      (and_right (ltb below m.number) _ (and_left (ltb below m.number && leb m.number most) (rising m.number most rest) e))

  rising-rest : rising m.number most rest ≡ true
  rising-rest = and_right (ltb below m.number && leb m.number most) (rising m.number most rest) e

rising-first : (below most : ℕ) (m : Message) (rest : List Message)
    → below < m.number → m.number ≤ most → rising m.number most rest ≡ true → rising below most (m ∷ rest) ≡ true
rising-first below most m rest a b e = both (both (lt-ltb below m.number a) (le-leb m.number most b)) e

rising-lower : (low below most : ℕ) (xs : List Message) → low ≤ below → rising below most xs ≡ true → rising low most xs ≡ true
rising-lower low below most [] l e = refl
rising-lower low below most (m ∷ rest) l e =
    let a = rising-above below most m rest e in
    rising-first low most m rest (omega arith) (rising-most below most m rest e) (rising-rest below most m rest e)

pub rising-removed : (below most i : ℕ) (xs : List Message) → rising below most xs ≡ true → rising below most (removed i xs) ≡ true
rising-removed below most i [] e = refl
rising-removed below most zero (m ∷ rest) e =
    let a = rising-above below most m rest e in
    rising-lower below m.number most rest (omega arith) (rising-rest below most m rest e)
rising-removed below most (suc i) (m ∷ rest) e =
    rising-first below most m (removed i rest) (rising-above below most m rest e) (rising-most below most m rest e)
    (rising-removed m.number most i rest (rising-rest below most m rest e))

pub rising-append : (below most more : ℕ) (xs ys : List Message)
    → below ≤ most → most ≤ more → rising below most xs ≡ true → rising most more ys ≡ true → rising below more (xs ++ ys) ≡ true
rising-append below most more [] ys b l e f = rising-lower below most more ys b f
rising-append below most more (m ∷ rest) ys b l e f =
    let k = rising-most below most m rest e in
    rising-first below more m (rest ++ ys) (rising-above below most m rest e) (omega arith)
    (rising-append m.number most more rest ys k l (rising-rest below most m rest e) f)

-- ---- copies

pub rising-copies : (below most : ℕ) (m : Message) (count : ℕ) → below < m.number → m.number + count ≤ most + 1 → rising below most (copies m count) ≡ true
rising-copies below most m zero a b = refl
rising-copies below most m (suc count) a b =
    rising-first below most m (copies (following m) count) a (omega arith)
    (rising-copies m.number most (following m) count (omega arith) (omega arith))

pub length-copies : (m : Message) (count : ℕ) → length (copies m count) ≡ count
length-copies m zero = refl
length-copies m (suc count) = ap suc (length-copies (following m) count)
