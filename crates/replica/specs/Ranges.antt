-- The ranges that one replica can see to. Its times are its own: a job may run it longer than a bench runs.
use Rattle.std.specs.Prelude.{ℕ, Bool, true, ◌&&◌, leb}
use Rattle.words.specs.declared.Pair.{Pair}
use Rattle.words.specs.Limits.{most_rows, most_time, most_rid}
use Rattle.words.specs.Ranges.{within, pair_fits, repliers_fit}
use Rattle.replica.specs.declared.Phase.{Phase}
use Rattle.replica.specs.declared.Phase.TheVariants.{Idle, Querying, Updating}
use Rattle.replica.specs.declared.Replica.{Replica}

-- a row, and the pair that is kept while it waits
abbrev pub wait_fits : ℕ → Pair → Bool
wait_fits row pair = within row most_rows && pair_fits most_time 7 pair

abbrev pub phase_inside : Phase → Bool
phase_inside Idle = true
phase_inside (Querying row gathered) = wait_fits row gathered.best
phase_inside (Updating row sent) = wait_fits row sent

-- what every handler works with: the clock, the request number, the replier set of n processes, the phase
abbrev pub replica_inside : ℕ → Replica → Bool
replica_inside n r = leb r.clock.0 most_time && leb r.rid.0 most_rid && repliers_fit n r.repliers && phase_inside r.phase
