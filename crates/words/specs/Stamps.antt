-- Stamps and pairs: document 01, "State". A stamp is (time, process), compared by time, then by process.
use Rattle.std.specs.Prelude.{ℕ, Bool, not, cond, ◌&&◌, ◌||◌, T, ltb, eqb, pos}
use Rattle.words.specs.declared.Stamp.{Stamp}
use Rattle.words.specs.declared.Pair.{Pair}

abbrev pub stamp_of : ℕ → ℕ → Stamp
stamp_of time process = record { time = record { 0 = time }; process = record { 0 = process } }

-- the starting stamp, (0, 0), with value 0
abbrev pub start_stamp : Stamp
start_stamp = stamp_of 0 0

abbrev pub start_pair : Pair
start_pair = record { stamp = start_stamp; value = pos 0 }

-- by time, then by process
unfoldable pub below : Stamp → Stamp → Bool
below a b = ltb a.time.0 b.time.0 || (eqb a.time.0 b.time.0 && ltb a.process.0 b.process.0)

-- a is b, or below it
abbrev pub AtMost : Stamp → Stamp → Type 0
AtMost a b = T (not (below b a))

-- of two pairs the one with the greater stamp; of equals the one that was there first
unfoldable pub newer : Pair → Pair → Pair
newer kept other = cond (below kept.stamp other.stamp) other kept
