-- What it means that a replica is inside the ranges: the bounds of its clock and its request number.
use Rattle.std.specs.Prelude.{ℕ, ◌≤◌, ◌≡◌, true, leb}
use Rattle.std.proofs.Common.{leb-true}
use Rattle.words.specs.Limits.{most_time, most_rid}
use Rattle.words.specs.RangeLaws.{and_left, and_right}
use Rattle.replica.specs.declared.Replica.{Replica}
use Rattle.replica.specs.Ranges.{replica_inside}

module _ (n : ℕ) (r : Replica) (fits : replica_inside n r ≡ true) where
  pub fits-clock : r.clock.0 ≤ most_time
  fits-clock = leb-true _ _ (and_left _ _ (and_left _ _ (and_left _ _ fits)))

  pub fits-rid : r.rid.0 ≤ most_rid
  fits-rid = leb-true _ _ (and_right (leb r.clock.0 most_time) _ (and_left _ _ (and_left _ _ fits)))
