-- The text of a sheet, line by line; a text is a list of bytes. Document 02, "Wish 11": means are printed as a sum over a count, unrounded; they, the least and the greatest are `-` where
-- the count is 0.
use Rattle.std.specs.Prelude.{ℕ, zero, suc, cond, List, [], ◌∷◌, ◌++◌, eqb, leb, length, get_or}
use Rattle.tables.specs.Tables.{laid_at}
use Rattle.text.specs.Printed.{decimal, number, field, dash, newline, word_refused, word_sent, word_delivered, word_lost}
use Rattle.figures.specs.declared.Operations.{Operations}
use Rattle.figures.specs.declared.Waits.{Waits}
use Rattle.figures.specs.declared.Traffic.{Traffic}
use Rattle.figures.specs.declared.Sheet.{Sheet}

abbrev pub word_schedules : List ℕ
word_schedules = 115 ∷ (99 ∷ (104 ∷ (101 ∷ (100 ∷ (117 ∷ (108 ∷ (101 ∷ (115 ∷ []))))))))

abbrev pub word_read : List ℕ
word_read = 114 ∷ (101 ∷ (97 ∷ (100 ∷ [])))

abbrev pub word_write : List ℕ
word_write = 119 ∷ (114 ∷ (105 ∷ (116 ∷ (101 ∷ []))))

abbrev pub word_left : List ℕ
word_left = 108 ∷ (101 ∷ (102 ∷ (116 ∷ [])))

abbrev pub word_wait : List ℕ
word_wait = 119 ∷ (97 ∷ (105 ∷ (116 ∷ [])))

abbrev pub slash : ℕ
slash = 47

-- schedules COUNT
unfoldable pub schedules_line : ℕ → List ℕ
schedules_line n = word_schedules ++ (number n ++ (newline ∷ []))

-- refused NUMBER COUNT, for a number that was met
unfoldable pub refused_line : ℕ → ℕ → List ℕ
refused_line k n = cond (eqb n 0) [] (word_refused ++ (number k ++ (number n ++ (newline ∷ []))))

-- for the numbers k, k + 1 .. as many as are left
abbrev pub refused_lines : List ℕ → ℕ → ℕ → List ℕ
refused_lines files k zero = []
refused_lines files k (suc left) = refused_line k (get_or files k 0) ++ refused_lines files (suc k) left

-- read BEGUN COMPLETED, and so for write
unfoldable pub operations_line : List ℕ → Operations → List ℕ
operations_line word o = word ++ (number o.begun ++ (number o.completed ++ (newline ∷ [])))

-- sent A delivered B lost C left D
unfoldable pub traffic_line : Traffic → List ℕ
traffic_line t =
    word_sent ++ (number t.sent ++ (field word_delivered ++ (number t.delivered ++ (field word_lost ++ (number t.lost ++ (field word_left
    ++ (number t.left ++ (newline ∷ []))))))))

-- SUM/COUNT
abbrev pub mean : Waits → List ℕ
mean w = number w.sum ++ (slash ∷ decimal w.count)

-- wait SUM/COUNT LEAST GREATEST, or wait - - -
unfoldable pub wait_line : Waits → List ℕ
wait_line w =
    cond (eqb w.count 0) (word_wait ++ (field dash ++ (field dash ++ (field dash ++ (newline ∷ [])))))
    (word_wait ++ (mean w ++ (number w.least ++ (number w.greatest ++ (newline ∷ [])))))

-- the whole text
unfoldable pub sheet_text : Sheet → List ℕ
sheet_text s =
    schedules_line s.schedules ++ (refused_lines s.files 1 31 ++ (operations_line word_read s.history.reads ++ (operations_line word_write s.history.writes
    ++ (traffic_line s.traffic ++ wait_line s.history.waits))))

-- ---- what printing replies and leaves: how many bytes the text has, 0 if the buffer is not always long enough; and the buffer with the text at its front

unfoldable pub print_reply : Sheet → List ℕ → ℕ
print_reply s out = cond (leb 1409 (length out)) (length (sheet_text s)) 0

unfoldable pub print_left : Sheet → List ℕ → List ℕ
print_left s out = cond (leb 1409 (length out)) (laid_at 0 (sheet_text s) out) out
