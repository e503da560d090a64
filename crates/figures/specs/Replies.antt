-- The number and the sheet that a reply stands for.
use Rattle.std.specs.Prelude.{Result, Ok, Err}
use Rattle.figures.specs.declared.Sheet.{Sheet}
use Rattle.figures.specs.declared.totals.Overflow.{Overflow}
use Rattle.figures.specs.declared.Added.{Added}

-- the sheet with the schedule, or 28 and the sheet as it was
abbrev pub added_reply : Sheet → Result Sheet Overflow → Added
added_reply sheet (Ok next) = record { refusal = 0; sheet = next }
added_reply sheet (Err _) = record { refusal = 28; sheet = sheet }
