-- The rows of a history as the operations that the one order speaks of.
use Rattle.std.specs.Prelude.{ℕ, zero, suc, List, map, ℤ}
use Rattle.std.proofs.Math.Option.{Option, none, some}
use Rattle.placing.specs.Operation.{Operation, Kind}
use Rattle.placing.specs.OneOrder.{one_order}
use Rattle.tables.specs.declared.Kind.{Kind as RowKind}
use Rattle.tables.specs.declared.Kind.TheVariants.{Read, Write}
use Rattle.tables.specs.declared.Row.{Row}

abbrev pub kind_of : RowKind → Kind
kind_of Read = Kind.Read
kind_of Write = Kind.Write

-- a response time of 0 is none: the operation is pending
abbrev pub answered_of : ℕ → Option ℕ
answered_of zero = none
answered_of (suc t) = some (suc t)

abbrev pub operation_of : Row → Operation ℤ
operation_of r =
    record {
      process = r.process.0;
      kind = kind_of r.kind;
      register = r.register;
      invoked = r.invoked.0;
      answered = answered_of r.answered.0;
      stamp = r.stamp;
      value = r.value;
    }

abbrev pub operations_of : List Row → List (Operation ℤ)
operations_of rows = map operation_of rows

-- the one order of a history, as row numbers
abbrev pub order_of : List Row → List ℕ
order_of rows = one_order (operations_of rows)
