-- The replier set and the majority: document 01, "State" and "Events". A set of processes is one byte: process i is bit i.
use Rattle.std.specs.Prelude.{ℕ, ◌+◌, ◌/◌, ◌%◌, ◌^◌, Bool, false, cond, leb, eqb}
use Rattle.std.specs.Int.Bits.{bit_or}
use Rattle.std.specs.Int.Count.{ones}

-- no process has a number above 7
unfoldable pub member : ℕ → ℕ → Bool
member repliers process = cond (leb process 7) (eqb (repliers / 2 ^ process % 2) 1) false

unfoldable pub joined : ℕ → ℕ → ℕ
joined repliers process = cond (leb process 7) (bit_or repliers (2 ^ process)) repliers

-- the members are counted: the ones of the byte
abbrev pub counted : ℕ → ℕ
counted = ones

-- N/2 rounded down, plus 1
abbrev pub majority_of : ℕ → ℕ
majority_of n = n / 2 + 1
