-- Document 01's numbers of refusal. 0 is accepted, and no refusal has it.
use Rattle.std.specs.Prelude.{ℕ, Result, Ok, Err}
use Rattle.words.specs.declared.refusal.Refusal.{Refusal}
use Rattle.words.specs.declared.refusal.Refusal.TheVariants.{WrongSize, WrongLength, WrongVersion, NoProcesses, NoRegisters, Unknown, Cut, NoProcess, NoRegister, Crashed, Pending, NoMessage, RecipientCrashed, BothUp, NoRoom, NoRow, Full, NotFormed, ShortOutput}

abbrev pub number : Refusal → ℕ
number WrongSize = 1
number WrongLength = 2
number WrongVersion = 3
number NoProcesses = 4
number NoRegisters = 5
number Unknown = 6
number Cut = 7
number NoProcess = 8
number NoRegister = 9
number Crashed = 10
number Pending = 11
number NoMessage = 12
number RecipientCrashed = 13
number BothUp = 14
number NoRoom = 15
number NoRow = 16
number Full = 17
number NotFormed = 18
number ShortOutput = 19

-- what a check gives: the number of its refusal, 0 where it passes
abbrev pub refusal_number : {A : Type 0} → Result A Refusal → ℕ
refusal_number (Ok a) = 0
refusal_number (Err e) = number e
