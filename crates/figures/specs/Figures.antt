-- The figures of a monthly sheet: document 02, "Wish 11". What rows and a state come to, what one schedule adds, and a sheet with one schedule more.
use Rattle.std.specs.Prelude.{ℕ, zero, suc, ◌+◌, ◌-◌, ◌^◌, min, max, Bool, true, false, cond, not, ◌&&◌, List, [], ◌∷◌, eqb, ltb, length, get_or, set, replicate}
use Rattle.tables.specs.declared.Row.{Row}
use Rattle.state.specs.State.{State}
use Rattle.state.specs.WellFormed.{is_write}
use Rattle.figures.specs.declared.Operations.{Operations}
use Rattle.figures.specs.declared.Waits.{Waits}
use Rattle.figures.specs.declared.History.{History}
use Rattle.figures.specs.declared.Traffic.{Traffic}
use Rattle.figures.specs.declared.Entry.{Entry}
use Rattle.figures.specs.declared.Sheet.{Sheet}
use Rattle.figures.specs.declared.Added.{Added}

-- ---- what the rows of a schedule define

abbrev pub one : Bool → ℕ
one true = 1
one false = 0

-- how many pass a test
abbrev pub count_if : {A : Type 0} → (A → Bool) → List A → ℕ
count_if test [] = 0
count_if test (a ∷ rest) = one (test a) + count_if test rest

abbrev pub is_write_row : Row → Bool
is_write_row row = is_write row.kind

abbrev pub is_read_row : Row → Bool
is_read_row row = not (is_write_row row)

-- an operation is complete once it is answered; a pending row's answer is 0
abbrev pub is_complete : Row → Bool
is_complete row = not (eqb row.answered.0 0)

-- the operations of one kind that were begun, and those that were completed
abbrev pub operations_of : (Row → Bool) → List Row → Operations
operations_of of_kind rows = record { begun = count_if of_kind rows; completed = count_if (λ row. of_kind row && is_complete row) rows }

-- response time minus invocation time of each completed operation. There is only mode 0: in mode 1 there is nothing here
abbrev pub waits_of : List Row → List ℕ
waits_of [] = []
waits_of (row ∷ rest) = cond (is_complete row) ((row.answered.0 - row.invoked.0) ∷ waits_of rest) (waits_of rest)

abbrev pub sum_of : List ℕ → ℕ
sum_of [] = 0
sum_of (n ∷ rest) = n + sum_of rest

-- the lesser of l, the least of so many numbers, and m, the least of so many others: where there are none it does not count
abbrev pub lesser : ℕ → ℕ → ℕ → ℕ → ℕ
lesser zero l others m = m
lesser (suc some) l zero m = l
lesser (suc some) l (suc others) m = min l m

-- the least and the greatest; 0 where there is none
abbrev pub least_of : List ℕ → ℕ
least_of [] = 0
least_of (n ∷ rest) = lesser 1 n (length rest) (least_of rest)

abbrev pub greatest_of : List ℕ → ℕ
greatest_of [] = 0
greatest_of (n ∷ rest) = max n (greatest_of rest)

abbrev pub figures_of : List ℕ → Waits
figures_of waits = record { count = length waits; sum = sum_of waits; least = least_of waits; greatest = greatest_of waits }

abbrev pub history_of : List Row → History
history_of rows = record { reads = operations_of is_read_row rows; writes = operations_of is_write_row rows; waits = figures_of (waits_of rows) }

-- ---- what its events define: the messages sent, delivered and lost are counted by the state (`Counting` in `state` says what over the events), the rest is left

abbrev pub traffic_of : State → Traffic
traffic_of s = record { sent = s.sent; delivered = s.delivered; lost = s.lost; left = length s.flight }

abbrev pub no_traffic : Traffic
no_traffic = record { sent = 0; delivered = 0; lost = 0; left = 0 }

-- ---- sums

abbrev pub plus_operations : Operations → Operations → Operations
plus_operations a b = record { begun = a.begun + b.begun; completed = a.completed + b.completed }

abbrev pub plus_waits : Waits → Waits → Waits
plus_waits a b =
    record {
      count = a.count + b.count;
      sum = a.sum + b.sum;
      least = lesser a.count a.least b.count b.least;
      greatest = max a.greatest b.greatest;
    }

abbrev pub plus_history : History → History → History
plus_history a b =
    record { reads = plus_operations a.reads b.reads; writes = plus_operations a.writes b.writes; waits = plus_waits a.waits b.waits }

abbrev pub plus_traffic : Traffic → Traffic → Traffic
plus_traffic a b =
    record { sent = a.sent + b.sent; delivered = a.delivered + b.delivered; lost = a.lost + b.lost; left = a.left + b.left }

-- ---- the sheet. `files` has how many schedules were refused by file by each number; under 0 those that were not

abbrev pub numbers : ℕ
numbers = 32

abbrev pub empty_sheet : Sheet
empty_sheet = record { schedules = 0; files = replicate numbers 0; history = history_of []; traffic = no_traffic }

abbrev pub one_more : ℕ → List ℕ → List ℕ
one_more k counts = set counts k (get_or counts k 0 + 1)

-- one schedule more
abbrev pub entered : Sheet → Entry → Sheet
entered sheet e =
    record {
      schedules = sheet.schedules + 1;
      files = one_more e.refusal sheet.files;
      history = plus_history sheet.history e.history;
      traffic = plus_traffic sheet.traffic e.traffic;
    }

-- ---- no total passes 64 bits

abbrev pub in64 : ℕ → Bool
in64 n = ltb n (2 ^ 64)

abbrev pub operations_fit : Operations → Bool
operations_fit a = in64 a.begun && in64 a.completed

abbrev pub waits_fit : Waits → Bool
waits_fit a = in64 a.count && in64 a.sum

abbrev pub history_fits : History → Bool
history_fits a = operations_fit a.reads && operations_fit a.writes && waits_fit a.waits

abbrev pub traffic_fits : Traffic → Bool
traffic_fits a = in64 a.sent && in64 a.delivered && in64 a.lost && in64 a.left

-- those that a schedule adds to: under its number, and all others
abbrev pub sheet_fits : ℕ → Sheet → Bool
sheet_fits number sheet =
    in64 sheet.schedules && in64 (get_or sheet.files number 0) && history_fits sheet.history && traffic_fits sheet.traffic

-- ---- a schedule is added, or refused by 28, and the sheet is then as before

abbrev pub added_or28 : Sheet → Entry → Added
added_or28 sheet e = cond (sheet_fits e.refusal (entered sheet e)) (record { refusal = 0; sheet = entered sheet e }) (record { refusal = 28; sheet = sheet })
