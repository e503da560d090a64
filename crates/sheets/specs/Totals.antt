-- A sheet over a list of schedules: document 02, "Wish 11": "Each total is the sum over the schedules of what the rows and events define."
use Rattle.std.specs.Prelude.{ℕ, ◌+◌, ◌-◌, ◌≤◌, ◌<◌, ◌^◌, ◌≡◌, true, cond, eqb, length, get_or}
use mathlib.Core.List.{List, [], ◌∷◌, Memᴰ}
use Rattle.tables.specs.declared.Row.{Row}
use Rattle.format.specs.Format.{file_refusal}
use Rattle.schedule.specs.Opening.{ran_file}
use Rattle.figures.specs.declared.Sheet.{Sheet}
use Rattle.figures.specs.Figures.{count_if, is_complete}
use Rattle.sheets.specs.Sheet.{added_by, added}

-- the sheet after them all, one after another
abbrev pub sheet_over : Sheet → List (List ℕ) → Sheet
sheet_over sheet [] = sheet
sheet_over sheet (bytes ∷ files) = sheet_over (added sheet bytes).sheet files

-- those of them that were not refused by 28
abbrev pub taken_over : Sheet → List (List ℕ) → List (List ℕ)
taken_over sheet [] = []
taken_over sheet (bytes ∷ files) =
    cond (eqb (added sheet bytes).refusal 0) (bytes ∷ taken_over (added sheet bytes).sheet files) (taken_over (added sheet bytes).sheet files)

-- the sum over schedules
abbrev pub sum_over : (List ℕ → ℕ) → List (List ℕ) → ℕ
sum_over of [] = 0
sum_over of (bytes ∷ files) = of bytes + sum_over of files

-- each total is the sum over the schedules of what each one adds
pub record Totals (files : List (List ℕ)) (s : Sheet) : Type 0 where
  pub schedules : s.schedules ≡ length files
  pub by_number : (k : ℕ) → k < 32 → get_or s.files k 0 ≡ count_if (λ bytes. eqb (file_refusal bytes) k) files
  pub reads-begun : s.history.reads.begun ≡ sum_over (λ bytes. (added_by bytes).history.reads.begun) files
  pub reads-completed : s.history.reads.completed ≡ sum_over (λ bytes. (added_by bytes).history.reads.completed) files
  pub writes-begun : s.history.writes.begun ≡ sum_over (λ bytes. (added_by bytes).history.writes.begun) files
  pub writes-completed : s.history.writes.completed ≡ sum_over (λ bytes. (added_by bytes).history.writes.completed) files
  pub sent : s.traffic.sent ≡ sum_over (λ bytes. (added_by bytes).traffic.sent) files
  pub delivered : s.traffic.delivered ≡ sum_over (λ bytes. (added_by bytes).traffic.delivered) files
  pub lost : s.traffic.lost ≡ sum_over (λ bytes. (added_by bytes).traffic.lost) files
  pub left : s.traffic.left ≡ sum_over (λ bytes. (added_by bytes).traffic.left) files
  pub waits-counted : s.history.waits.count ≡ sum_over (λ bytes. (added_by bytes).history.waits.count) files
  pub waits-sum : s.history.waits.sum ≡ sum_over (λ bytes. (added_by bytes).history.waits.sum) files

-- no total over so many schedules more passes 64 bits
pub record Within64 (sheet : Sheet) (files : List (List ℕ)) : Type 0 where
  pub schedules : sheet.schedules + length files < 2 ^ 64
  pub by_number : (k : ℕ) → k < 32 → get_or sheet.files k 0 + count_if (λ bytes. eqb (file_refusal bytes) k) files < 2 ^ 64
  pub reads-begun : sheet.history.reads.begun + sum_over (λ bytes. (added_by bytes).history.reads.begun) files < 2 ^ 64
  pub reads-completed : sheet.history.reads.completed + sum_over (λ bytes. (added_by bytes).history.reads.completed) files < 2 ^ 64
  pub writes-begun : sheet.history.writes.begun + sum_over (λ bytes. (added_by bytes).history.writes.begun) files < 2 ^ 64
  pub writes-completed : sheet.history.writes.completed + sum_over (λ bytes. (added_by bytes).history.writes.completed) files < 2 ^ 64
  pub sent : sheet.traffic.sent + sum_over (λ bytes. (added_by bytes).traffic.sent) files < 2 ^ 64
  pub delivered : sheet.traffic.delivered + sum_over (λ bytes. (added_by bytes).traffic.delivered) files < 2 ^ 64
  pub lost : sheet.traffic.lost + sum_over (λ bytes. (added_by bytes).traffic.lost) files < 2 ^ 64
  pub left : sheet.traffic.left + sum_over (λ bytes. (added_by bytes).traffic.left) files < 2 ^ 64
  pub waits-counted : sheet.history.waits.count + sum_over (λ bytes. (added_by bytes).history.waits.count) files < 2 ^ 64
  pub waits-sum : sheet.history.waits.sum + sum_over (λ bytes. (added_by bytes).history.waits.sum) files < 2 ^ 64

-- ---- the least and the greatest wait

-- the rows of a schedule; one refused by file has none
abbrev pub rows_of : List ℕ → List Row
rows_of bytes = cond (eqb (file_refusal bytes) 0) (ran_file bytes).state.rows []

-- a completed operation of one of the schedules, and how long it waited
pub record Completed (files : List (List ℕ)) (wait : ℕ) : Type 0 where
  pub bytes : List ℕ
  pub among : Memᴰ bytes files
  pub row : Row
  pub listed : Memᴰ row (rows_of bytes)
  pub complete : is_complete row ≡ true
  pub waited : row.answered.0 - row.invoked.0 ≡ wait

-- attained by some operation, and a bound of all
pub record Extremes (files : List (List ℕ)) (s : Sheet) : Type 0 where
  pub least : 0 < s.history.waits.count → Completed files s.history.waits.least
  pub greatest : 0 < s.history.waits.count → Completed files s.history.waits.greatest
  pub bounds : (wait : ℕ) → Completed files wait → (s.history.waits.least ≤ wait) × (wait ≤ s.history.waits.greatest)
