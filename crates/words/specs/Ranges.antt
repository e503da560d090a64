-- The ranges of one number, stamp, pair, envelope or replier set.
use Rattle.std.specs.Prelude.{ℕ, ◌+◌, ◌%◌, ◌^◌, Bool, false, not, ◌&&◌, ◌||◌, leb, ltb, eqb, ℤ, pos, negsuc}
use Rattle.std.specs.Bool.{beq}
use Rattle.words.specs.declared.Stamp.{Stamp}
use Rattle.words.specs.declared.Pair.{Pair}
use Rattle.words.specs.declared.Pid.{Pid}
use Rattle.words.specs.declared.Rid.{Rid}
use Rattle.words.specs.declared.Time.{Time}
use Rattle.words.specs.Limits.{most_time, most_rid}

abbrev pub is_zero : ℤ → Bool
is_zero (pos n) = eqb n 0
is_zero (negsuc n) = false

-- from 1 to most
abbrev pub within : ℕ → ℕ → Bool
within x most = not (eqb x 0) && leb x most

-- times at most a limit; a stamp's process 0 exactly when its time is 0, otherwise 1..N
abbrev pub stamp_fits : ℕ → ℕ → Stamp → Bool
stamp_fits limit n s = leb s.time.0 limit && beq (eqb s.time.0 0) (eqb s.process.0 0) && leb s.process.0 n

-- and where the time is 0, the value 0
abbrev pub pair_fits : ℕ → ℕ → Pair → Bool
pair_fits limit n p = stamp_fits limit n p.stamp && (not (eqb p.stamp.time.0 0) || is_zero p.value)

-- the envelope of a message that was received, from one of n processes
abbrev pub sender_fits : ℕ → Pid → Time → Rid → Bool
sender_fits n from time rid = within from.0 n && leb time.0 most_time && leb rid.0 most_rid

-- a replier set inside 1..n: bit 0 is no process, and no bit above n is set
abbrev pub repliers_fit : ℕ → ℕ → Bool
repliers_fit n repliers = eqb (repliers % 2) 0 && ltb repliers (2 ^ (n + 1))
