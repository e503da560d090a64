-- A row as the code has it, and what its twelve bytes say.
use Rattle.std.specs.Prelude.{ℕ, ◌<◌, ◌≡◌, length, get_or, true, false, List, map, cond, Result, MatchResult}
use Rattle.verdicts.specs.declared.faults.Fault.{Fault}
use Rattle.verdicts.specs.declared.faults.Fault.TheVariants.{NoFile}
use Rattle.verdicts.specs.declared.rows.Row.{Row as CodeRow}
use Rattle.verdicts.specs.declared.rows.Kind.{Kind}
use Rattle.verdicts.specs.declared.rows.Kind.TheVariants.{Read, Write}
use Rattle.verdicts.specs.Explains.{Row}
use Rattle.verdicts.specs.Verdict.{row_of, half_at, blank, formed}

abbrev pub kind_byte : Kind → ℕ
kind_byte Read = 1
kind_byte Write = 2

-- the row that the code's row tells of
abbrev pub told : CodeRow → Row
told a = record { process = a.process; kind = kind_byte a.kind; register = a.register; value = a.value; complete = cond a.complete 1 0 }

-- the row, or the row number, that some bytes are
abbrev pub row_in : List ℕ → Row
row_in bytes = row_of bytes 0

abbrev pub number_in : List ℕ → ℕ
number_in bytes = half_at bytes 0

abbrev pub rows_of : List (List ℕ) → List Row
rows_of chunks = map row_in chunks

abbrev pub numbers_of : List (List ℕ) → List ℕ
numbers_of chunks = map number_in chunks

-- each row has a kind and a mark of completion
abbrev pub AllFormed : List Row → Type 0
AllFormed rows = (k : ℕ) → k < length rows → formed (get_or rows k blank) ≡ true

-- the row that the bytes are, or the fault that they are none
abbrev pub Decodes : List ℕ → Result CodeRow Fault → Type 0
Decodes bytes r = MatchResult r (λ a. told a ≡ row_in bytes) (λ fault. (fault ≡ NoFile) × (formed (row_in bytes) ≡ false))
