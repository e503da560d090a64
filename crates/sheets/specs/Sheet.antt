-- A monthly sheet in exact numbers: document 02, "Wish 11". What one schedule adds to a sheet, and the sheet after it. What the rows and the state that it stops at come to, and the sums,
-- are defined in `figures`.
use Rattle.std.specs.Prelude.{ℕ, cond, List, [], eqb}
use Rattle.format.specs.Format.{file_refusal}
use Rattle.schedule.specs.Opening.{ran_file}
use Rattle.figures.specs.declared.Entry.{Entry}
use Rattle.figures.specs.declared.Sheet.{Sheet}
use Rattle.figures.specs.declared.Added.{Added}
use Rattle.figures.specs.Figures.{history_of, traffic_of, no_traffic, added_or28}

-- what one schedule adds: what its run comes to, or, refused by file, its number and nothing else
unfoldable pub added_by : List ℕ → Entry
added_by bytes =
    cond (eqb (file_refusal bytes) 0)
    (record { refusal = 0; history = history_of (ran_file bytes).state.rows; traffic = traffic_of (ran_file bytes).state })
    (record { refusal = file_refusal bytes; history = history_of []; traffic = no_traffic })

-- it is added, or refused by 28, and the sheet is then as before
unfoldable pub added : Sheet → List ℕ → Added
added sheet bytes = added_or28 sheet (added_by bytes)
