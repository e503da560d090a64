-- What P4, P11 and P12 speak of: a replica and an update with its stored stamp; a history; the bytes of a file.
use Rattle.std.specs.Prelude.{ℕ, false, List, [], ◌∷◌, map, ℤ, pos, replicate}
use Rattle.words.specs.declared.Pair.{Pair}
use Rattle.words.specs.declared.Stamp.{Stamp}
use Rattle.words.specs.Stamps.{stamp_of, start_pair}
use Rattle.replica.specs.Answer.{Answer}
use Rattle.replica.specs.declared.Phase.TheVariants.{Idle}
use Rattle.replica.specs.declared.Replica.{Replica}
use Rattle.replica.specs.Handlers.{update_received}
use Rattle.tables.specs.declared.Row.{Row}
use Rattle.state.specs.Step.{read_row, write_row, completed, queried_row}
use Rattle.placing.specs.OneOrder.{listing, point, placed}
use Rattle.order.specs.Operations.{operations_of}

-- ---- P4: one instance of `equal-update`, the law of every replica (`replica/proofs/HandlerLaws.antt`)

-- a value with the stamp (2, 3)
abbrev pub pair_of : ℤ → Pair
pair_of value = record { stamp = stamp_of 2 3; value = value }

-- a replica at clock 4 that stores 7 with that stamp for register 1
abbrev pub holder : Replica
holder =
    record {
      crashed = false;
      clock = record { 0 = 4 };
      rid = record { 0 = 0 };
      phase = Idle;
      repliers = 0;
      pairs = pair_of (pos 7) ∷ replicate 15 start_pair;
    }

-- it receives 8 with the same stamp, from process 1 at time 9, with request number 5
abbrev pub update_answer : Answer
update_answer = update_received holder (record { 0 = 1 }) (record { 0 = 9 }) (record { 0 = 5 }) 1 (pair_of (pos 8))

-- ---- P11

-- row 1: process 1's write of 7 to register 1, begun at 1 and so stamped (1, 1), is pending; row 2: process 2's read of it, begun at 5, was answered 0 at 8,
-- both its phases ended by the replies of processes 2 and 3 (bits 2 and 3)
abbrev pub overtaken : List Row
overtaken = write_row 1 1 (pos 7) 1 ∷ completed (queried_row (read_row 2 1 5) 12) (record { 0 = 8 }) start_pair 12 ∷ []

-- the points of the listed rows, in the one order
abbrev pub points_of : List Row → List Stamp
points_of rows = map (point (listing (operations_of rows))) (placed (operations_of rows))

-- ---- P12

abbrev pub seven_bytes : List ℕ
seven_bytes = 0 ∷ 0 ∷ 0 ∷ 3 ∷ 1 ∷ 1 ∷ 1 ∷ []
