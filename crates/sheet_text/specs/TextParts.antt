-- The text of a sheet in two parts, as it is written.
use Rattle.std.specs.Prelude.{List, ◌++◌, ℕ}
use Rattle.figures.specs.declared.Sheet.{Sheet}
use Rattle.sheet_text.specs.SheetText.{word_read, word_write, schedules_line, refused_lines, operations_line, traffic_line, wait_line}

abbrev pub head_text : Sheet → List ℕ
head_text s = schedules_line s.schedules ++ refused_lines s.files 1 31

abbrev pub rest_text : Sheet → List ℕ
rest_text s =
    operations_line word_read s.history.reads ++ (operations_line word_write s.history.writes ++ (traffic_line s.traffic ++ wait_line s.history.waits))
