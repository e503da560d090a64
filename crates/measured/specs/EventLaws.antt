-- The messages that a schedule adds to a sheet are those of its events: N sent for each invocation, 1 for each request delivered, N for each query majority; one delivered and one lost for
-- each such event; and what is left is the rest. What an event sends, delivers and loses is counted without a look at the state's counters (`Counting` in `state`).
use Rattle.std.specs.Prelude.{ℕ, ◌+◌, ◌≡◌, Bool, cond, List, []}
use Rattle.std.proofs.Common.{sym, subst, eq-eqb}
use Rattle.std.proofs.Math.Path.{ap}
use Rattle.state.specs.Reached.{Reached}
use Rattle.state.specs.Counting.{Moment, Run, sent_over, delivered_over, lost_over, Counted}
use Rattle.state.proofs.CountingLaws.{run-counted, reached-run}
use Rattle.format.specs.Format.{file_refusal}
use Rattle.format.proofs.FileLaws.{file-opens}
use Rattle.schedule.specs.Opening.{ran_file}
use Rattle.schedule.proofs.FileLaws.{file-reached}
use Rattle.figures.specs.declared.Traffic.{Traffic}
use Rattle.figures.specs.declared.Entry.{Entry}
use Rattle.figures.specs.Figures.{history_of, traffic_of, no_traffic}
use Rattle.sheets.specs.Sheet.{added_by}

-- the accepted events of a run from a fresh start to the state that the schedule stops at, and what they come to
pub record Told (bytes : List ℕ) (t : Traffic) : Type 0 where
  pub run : List Moment
  pub runs : Run (ran_file bytes).state run
  pub sent : t.sent ≡ sent_over run
  pub delivered : t.delivered ≡ delivered_over run
  pub lost : t.lost ≡ lost_over run
  pub rest : sent_over run ≡ delivered_over run + lost_over run + t.left

module _ (bytes : List ℕ) (accepted : file_refusal bytes ≡ 0) where
  reached : Reached (ran_file bytes).state
  reached = file-reached bytes (file-opens bytes accepted)

  adds : (added_by bytes).traffic ≡ traffic_of (ran_file bytes).state
  unfolding added_by
  adds =
      ap (λ (t : Bool). (cond {A = Entry} t (record { refusal = 0; history = history_of (ran_file bytes).state.rows; traffic = traffic_of (ran_file bytes).state })
      (record { refusal = file_refusal bytes; history = history_of []; traffic = no_traffic })).traffic) (eq-eqb (file_refusal bytes) 0 accepted)

  pub events-told : Told bytes (added_by bytes).traffic
  events-told =
      let (run, runs) = reached-run reached in
      subst (Told bytes) (sym adds) (of-run run runs (run-counted (ran_file bytes).state run runs))
    where
      of-run : (run : List Moment) → Run (ran_file bytes).state run → Counted (ran_file bytes).state run → Told bytes (traffic_of (ran_file bytes).state)
      of-run run runs c = record { run = run; runs = runs; sent = c.sent; delivered = c.delivered; lost = c.lost; rest = c.balance }
