-- The history file of a bench of ours: its rows as the rows of a history that is judged, and its one order. Document 02, "Wish 10".
use Rattle.std.specs.Prelude.{ℕ, ◌+◌, ◌*◌, ◌%◌, List, ◌∷◌, ◌++◌, ℤ}
use Rattle.std.specs.Int.{w64}
use Rattle.std.proofs.Common.{of_z}
use Rattle.tables.specs.declared.Row.{Row}
use Rattle.order.specs.Operations.{operations_of, order_of}
use Rattle.verdicts.specs.Explains.{Row as JudgedRow}
use Rattle.text.specs.Written.{Wrote}
use Rattle.verdicts.specs.File.{two, four, rows_bytes, numbers_bytes, history_file}
use Rattle.verdicts.specs.Operations.{as_rows}

-- a value's 64 bits, two's complement
abbrev pub bits_of : ℤ → ℕ
bits_of value = of_z w64 value % 18446744073709551616

abbrev pub own_rows : List Row → List JudgedRow
own_rows rows = as_rows bits_of (operations_of rows)

-- of rows and any order
unfoldable pub file_of : List Row → List ℕ → List ℕ
file_of rows order = history_file (own_rows rows) order

-- of rows and their one order
unfoldable pub own_file : List Row → List ℕ
own_file rows = file_of rows (order_of rows)

-- ---- in parts, as it is written

abbrev pub head_text : ℕ → ℕ → List ℕ
head_text used count = four (5 + 12 * used + 2 * count) ++ (1 ∷ two used)

abbrev pub rows_text : List Row → List ℕ
rows_text rows = rows_bytes (own_rows rows)

abbrev pub order_text : ℕ → List ℕ → List ℕ
order_text count order = two count ++ numbers_bytes order

-- it was laid at the front of a buffer
abbrev pub Recorded : List Row → List ℕ → List ℕ → List ℕ → ℕ → Type 0
Recorded rows order xs ys r = Wrote 0 (file_of rows order) 14345 xs ys r
