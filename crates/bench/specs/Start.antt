-- What `start` replies: document 01, "Numbers of refusal". 18 first, then n, then m; a refused start gives no bench, and leaves the tables as they were.
use Rattle.std.specs.Prelude.{ℕ, Result, Ok, Err, Bool, cond, not, ◌&&◌, eqb, replicate}
use Rattle.words.specs.declared.refusal.Refusal.{Refusal}
use Rattle.words.specs.Refusals.{number}
use Rattle.words.specs.Limits.{most_flight, most_rows}
use Rattle.words.specs.Ranges.{within}
use Rattle.state.specs.declared.Bench.{Bench}
use Rattle.state.specs.Stepped.{Stepped}
use Rattle.state.specs.State.{State, fresh_replica, fresh}
use Rattle.state.specs.Step.{check}
use Rattle.state.specs.Tabled.{bench_of}

-- no bench: all zero
abbrev pub no_bench : Bench
no_bench =
    record {
      n = 0;
      m = 0;
      accepted = 0;
      sent = 0;
      delivered = 0;
      lost = 0;
      flight = 0;
      rows = 0;
      replicas = replicate 7 fresh_replica;
    }

abbrev pub replied : ℕ → Bench → Stepped
replied refusal bench = record { refusal = refusal; bench = bench }

-- what a result of the code stands for
abbrev pub started : Result Bench Refusal → Stepped
started (Ok b) = replied 0 b
started (Err e) = replied (number e) no_bench

-- a bench in this state, or, refused, none
unfoldable pub started_by : ℕ → State → Stepped
started_by refusal s = replied refusal (cond (eqb refusal 0) (bench_of s) no_bench)

-- from n, m, and the lengths of the two tables
abbrev pub start_refusal : ℕ → ℕ → ℕ → ℕ → ℕ
start_refusal n m messages rows =
    check (not (eqb messages most_flight && eqb rows most_rows)) 18
    (check (not (within n 7)) 4
    (check (not (within m 16)) 5 0))

unfoldable pub starts : ℕ → ℕ → ℕ → ℕ → Bool
starts n m messages rows = eqb (start_refusal n m messages rows) 0

unfoldable pub start_reply : ℕ → ℕ → ℕ → ℕ → Stepped
start_reply n m messages rows = started_by (start_refusal n m messages rows) (fresh n m)
