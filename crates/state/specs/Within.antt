-- A number in range, as a fact: document 01's "1 to most".
use Rattle.std.specs.Prelude.{ℕ, ◌≤◌}

-- from 1 to most
pub record Within (x bound : ℕ) : Type 0 where
  pub least : 1 ≤ x
  pub most : x ≤ bound
