-- Document 02's numbers of refusal. 0 is accepted, and no fault has it.
use Rattle.std.specs.Prelude.{ℕ, Result, Ok, Err}
use Rattle.verdicts.specs.declared.faults.Fault.{Fault}
use Rattle.verdicts.specs.declared.faults.Fault.TheVariants.{NoFile, NumberWrong, ReadNamed, RowMissing, SequenceBroken, ReadWrong}

abbrev pub number : Fault → ℕ
number NoFile = 22
number NumberWrong = 23
number ReadNamed = 24
number RowMissing = 25
number SequenceBroken = 26
number ReadWrong = 27

-- the number of what was answered, 0 where nothing is wrong
abbrev pub faulted : {A : Type 0} → Result A Fault → ℕ
faulted (Ok x) = 0
faulted (Err fault) = number fault
