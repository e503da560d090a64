-- The verdict on a file, as it is computed: the file is read, and each refusal is one pass over the rows or over the order, with a table of what was met on the way.
-- What the numbers mean is stated without passes and tables in `Explains.antt`, `File.antt` and `Refusals.antt`; `Acceptance.antt` has that it is the same.
use Rattle.std.specs.Prelude.{ℕ, suc, zero, ◌+◌, ◌-◌, ◌*◌, Bool, true, false, cond, not, ◌&&◌, ◌||◌, List, [], ◌∷◌, eqb, ltb, leb, length, get_or, set, replicate}
use Rattle.words.specs.Ranges.{within}
use Rattle.verdicts.specs.Explains.{Row}

-- ---- reading

abbrev pub byte_at : List ℕ → ℕ → ℕ
byte_at bytes at = get_or bytes at 0

-- two, four and eight bytes, big-endian
abbrev pub half_at : List ℕ → ℕ → ℕ
half_at bytes at = byte_at bytes at * 256 + byte_at bytes (at + 1)

abbrev pub word_at : List ℕ → ℕ → ℕ
word_at bytes at = half_at bytes at * 65536 + half_at bytes (at + 2)

abbrev pub value_at : List ℕ → ℕ → ℕ
value_at bytes at = word_at bytes at * 4294967296 + word_at bytes (at + 4)

-- the row whose bytes begin at a place
abbrev pub row_of : List ℕ → ℕ → Row
row_of bytes at =
    record {
      process = byte_at bytes at;
      kind = byte_at bytes (at + 1);
      register = byte_at bytes (at + 2);
      value = value_at bytes (at + 3);
      complete = byte_at bytes (at + 11);
    }

-- so many rows, and so many row numbers, one after another
abbrev pub rows_from : List ℕ → ℕ → ℕ → List Row
rows_from bytes at zero = []
rows_from bytes at (suc count) = row_of bytes at ∷ rows_from bytes (at + 12) count

abbrev pub numbers_from : List ℕ → ℕ → ℕ → List ℕ
numbers_from bytes at zero = []
numbers_from bytes at (suc count) = half_at bytes at ∷ numbers_from bytes (at + 2) count

abbrev pub row_count : List ℕ → ℕ
row_count bytes = half_at bytes 5

-- where the order's count stands
abbrev pub order_at : List ℕ → ℕ
order_at bytes = 7 + 12 * row_count bytes

abbrev pub order_count : List ℕ → ℕ
order_count bytes = half_at bytes (order_at bytes)

unfoldable pub rows_in : List ℕ → List Row
rows_in bytes = rows_from bytes 7 (row_count bytes)

unfoldable pub order_in : List ℕ → List ℕ
order_in bytes = numbers_from bytes (order_at bytes + 2) (order_count bytes)

-- ---- 22: the layout

-- length, version and the two counts, with no byte left over
unfoldable pub sized : List ℕ → Bool
sized bytes =
    leb 9 (length bytes)
    && ((eqb (word_at bytes 0) (length bytes - 4) && (eqb (byte_at bytes 4) 1 && leb (row_count bytes) 1024))
    && (leb (order_at bytes + 2) (length bytes)
    && (leb (order_count bytes) 1024 && eqb (order_at bytes + 2 + 2 * order_count bytes) (length bytes))))

-- kind 1 or 2, complete 0 or 1
abbrev pub formed : Row → Bool
formed a = (eqb a.kind 1 || eqb a.kind 2) && leb a.complete 1

-- no row after an unfinished one of its process; a process that has one is marked in the table
abbrev pub laid : List ℕ → List Row → Bool
laid ended [] = true
laid ended (a ∷ rows) = formed a && (eqb (get_or ended a.process 0) 0 && laid (set ended a.process (1 - a.complete)) rows)

-- ---- 23: the numbers

-- each number is a row's, and not marked before; the row of number i has place i in the table, and place 0 is not used
abbrev pub fresh : ℕ → List ℕ → List ℕ → Bool
fresh count seen [] = true
fresh count seen (i ∷ order) = within i count && (eqb (get_or seen i 0) 0 && fresh count (set seen i 1) order)

-- each number is a row's
abbrev pub inside : ℕ → List ℕ → Bool
inside count [] = true
inside count (i ∷ order) = within i count && inside count order

-- the table after the whole order
abbrev pub marked : List ℕ → List ℕ → List ℕ
marked seen [] = seen
marked seen (i ∷ order) = marked (set seen i 1) order

-- ---- 24 to 27

abbrev pub blank : Row
blank = record { process = 0; kind = 0; register = 0; value = 0; complete = 0 }

-- the row of a number; of one that is no row's, a blank
abbrev pub named : List Row → ℕ → Row
named rows i = get_or rows (i - 1) blank

-- 24: a read of the order is unfinished
abbrev pub unfinished_read : List Row → List ℕ → Bool
unfinished_read rows [] = false
unfinished_read rows (i ∷ order) = (eqb (named rows i).kind 1 && eqb (named rows i).complete 0) || unfinished_read rows order

-- 25: a completed row is not marked; the first of the rows has the place given
abbrev pub missing : List ℕ → ℕ → List Row → Bool
missing seen place [] = false
missing seen place (a ∷ rows) = (eqb a.complete 1 && eqb (get_or seen place 0) 0) || missing seen (place + 1) rows

-- 26: row numbers of a process rise along the order; the table has its last one
abbrev pub rising : List Row → List ℕ → List ℕ → Bool
rising rows last [] = true
rising rows last (i ∷ order) = ltb (get_or last (named rows i).process 0) i && rising rows (set last (named rows i).process i) order

-- 27: each read has what its register holds; the table has that
abbrev pub reads_own : Row → List ℕ → Bool
reads_own a held = eqb a.kind 2 || eqb a.value (get_or held a.register 0)

abbrev pub holding : Row → List ℕ → List ℕ
holding a held = cond (eqb a.kind 2) (set held a.register a.value) held

abbrev pub reading : List Row → List ℕ → List ℕ → Bool
reading rows held [] = true
reading rows held (i ∷ order) = reads_own (named rows i) held && reading rows (holding (named rows i) held) order

-- ---- the verdict: the first number whose test holds, else 0

abbrev pub first : Bool → ℕ → ℕ → ℕ
first holds number later = cond holds number later

unfoldable pub zeros : ℕ → List ℕ
zeros count = replicate count 0

-- 24 to 27, with the table of what stands in the order
unfoldable pub judged_known : List ℕ → List Row → List ℕ → ℕ
judged_known seen rows order =
    first (unfinished_read rows order) 24
    (first (missing seen 1 rows) 25
    (first (not (rising rows (zeros 256) order)) 26
    (first (not (reading rows (zeros 256) order)) 27 0)))

-- of a history and an order
unfoldable pub judged : List Row → List ℕ → ℕ
judged rows order = first (not (fresh (length rows) (zeros 1025) order)) 23 (judged_known (marked (zeros 1025) order) rows order)

-- of the bytes of a file
unfoldable pub verdict_of : List ℕ → ℕ
verdict_of bytes = first (not (sized bytes && laid (zeros 256) (rows_in bytes))) 22 (judged (rows_in bytes) (order_in bytes))
