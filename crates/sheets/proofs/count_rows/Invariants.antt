-- What a turn begins with: so many rows were counted, and no total is above what so many rows can have.
use Rattle.std.proofs.Common.{◌≡◌, ◌*◌, ◌≤◌, length}
use Rattle.std.proofs.Math.ListN.{take}
use Rattle.figures.specs.Figures.{history_of}
use Rattle.figures.specs.Parts.{most_wait, Few}
use Rattle.sheets.proofs.count_rows.Given as goal

abbrev pub invariant-loop-row : goal.invariant-loop-row
invariant-loop-row l =
    record {
      within : l.row-index ≤ length l.rows;
      counted : l.history ≡ history_of (take l.row-index l.rows);
      few : Few (most_wait * l.row-index) l.history;
    }
