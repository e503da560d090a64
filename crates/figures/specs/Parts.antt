-- What the functions inside promise and ask: what one row comes to, and sums that stay within 64 bits.
use Rattle.std.specs.Prelude.{ℕ, ◌+◌, ◌≤◌, ◌<◌, ◌^◌, Bool, cond, ◌&&◌, [], ◌∷◌, eqb, get_or}
use Rattle.words.specs.Refusals.{number}
use Rattle.state.specs.declared.Bench.{Bench}
use Rattle.state.specs.Stepped.{Stepped}
use Rattle.figures.specs.declared.Entry.{Entry}
use Rattle.figures.specs.declared.Sheet.{Sheet}
use Rattle.figures.specs.declared.Operations.{Operations}
use Rattle.figures.specs.declared.Waits.{Waits}
use Rattle.figures.specs.declared.History.{History}
use Rattle.figures.specs.declared.Traffic.{Traffic}
use Rattle.figures.specs.Figures.{one, figures_of, history_of, no_traffic}

-- ---- one row

abbrev pub one_operation : Bool → Bool → Operations
one_operation counts complete = record { begun = one counts; completed = one (counts && complete) }

abbrev pub one_wait : Bool → ℕ → Waits
one_wait complete wait = cond complete (figures_of (wait ∷ [])) (figures_of [])

-- no wait is longer: a time is four bytes
abbrev pub most_wait : ℕ
most_wait = 4294967295

-- no total is above a bound
pub record FewOperations (most : ℕ) (a : Operations) : Type 0 where
  pub begun : a.begun ≤ most
  pub completed : a.completed ≤ most

pub record FewWaits (most : ℕ) (a : Waits) : Type 0 where
  pub count : a.count ≤ most
  pub sum : a.sum ≤ most

pub record Few (most : ℕ) (a : History) : Type 0 where
  pub reads : FewOperations most a.reads
  pub writes : FewOperations most a.writes
  pub waits : FewWaits most a.waits

-- ---- no total of a sum passes 64 bits

pub record OperationsRoom (a b : Operations) : Type 0 where
  pub begun : a.begun + b.begun < 2 ^ 64
  pub completed : a.completed + b.completed < 2 ^ 64

pub record WaitsRoom (a b : Waits) : Type 0 where
  pub count : a.count + b.count < 2 ^ 64
  pub sum : a.sum + b.sum < 2 ^ 64

pub record HistoryRoom (a b : History) : Type 0 where
  pub reads : OperationsRoom a.reads b.reads
  pub writes : OperationsRoom a.writes b.writes
  pub waits : WaitsRoom a.waits b.waits

pub record TrafficRoom (a b : Traffic) : Type 0 where
  pub sent : a.sent + b.sent < 2 ^ 64
  pub delivered : a.delivered + b.delivered < 2 ^ 64
  pub lost : a.lost + b.lost < 2 ^ 64
  pub left : a.left + b.left < 2 ^ 64

-- of a sheet and one schedule more
pub record SheetRoom (sheet : Sheet) (e : Entry) : Type 0 where
  pub number : e.refusal < 32
  pub schedules : sheet.schedules + 1 < 2 ^ 64
  pub files : get_or sheet.files e.refusal 0 + 1 < 2 ^ 64
  pub history : HistoryRoom sheet.history e.history
  pub traffic : TrafficRoom sheet.traffic e.traffic

-- ---- what one schedule adds: a run, from the bench that it left, or the number of a file that starts none

abbrev pub bench_traffic : Bench → Traffic
bench_traffic b = record { sent = b.sent; delivered = b.delivered; lost = b.lost; left = b.flight }

abbrev pub run_entry : Bench → History → Entry
run_entry b history = record { refusal = 0; history = history; traffic = bench_traffic b }

abbrev pub refused_entry : ℕ → Entry
refused_entry number = record { refusal = number; history = history_of []; traffic = no_traffic }

-- ---- of either, from the number and the bench that are left. A file that starts none leaves one of 0 processes

abbrev pub file_number : ℕ → ℕ → ℕ
file_number refusal n = cond (eqb n 0) refusal 0

abbrev pub entry_of : Stepped → History → Entry
entry_of ran history = record { refusal = file_number ran.refusal ran.bench.n; history = history; traffic = bench_traffic ran.bench }
