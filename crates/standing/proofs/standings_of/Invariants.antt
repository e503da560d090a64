-- The places before this one are filled.
use Rattle.std.proofs.Common.{◌≡◌, length, ℕ, ◌<◌, get_or}
use Rattle.standing.specs.declared.Status.TheVariants.{Down}
use Rattle.standing.specs.Status.{standing_at}
use Rattle.standing.proofs.standings_of.Given as goal

abbrev pub invariant-loop-at : goal.invariant-loop-at
invariant-loop-at l =
    record {
      long : length l.standings ≡ 7;
      filled : (k : ℕ) → k < l.at → get_or l.standings k Down ≡ standing_at l.fn.b l.enough k;
    }
