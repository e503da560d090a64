-- Operations, of which demand 3 speaks (`Sequential` in the crate `placing`), as the rows of a history that is judged.
use Rattle.std.specs.Prelude.{ℕ, cond, List, map}
use Rattle.placing.specs.Operation.{Operation, is_write, is_some}
use Rattle.verdicts.specs.Explains.{Row}

module _ {Value : Type 0} (number : Value → ℕ) where
  -- its value as a number; completed when it was answered
  abbrev pub as_row : Operation Value → Row
  as_row o =
      record {
        process = o.process;
        kind = cond (is_write o.kind) 2 1;
        register = o.register;
        value = number o.value;
        complete = cond (is_some o.answered) 1 0;
      }

  abbrev pub as_rows : List (Operation Value) → List Row
  as_rows os = map as_row os
