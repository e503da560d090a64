-- Demand 3 of a schedule: whatever the bytes, after `start` and any accepted `step`s, what `run_events` leaves is explained by the order that `order` then lays.
use Rattle.std.specs.Prelude.{ℕ, ◌≡◌, List, length}
use Rattle.words.specs.declared.Message.{Message}
use Rattle.tables.specs.declared.Row.{Row}
use Rattle.state.specs.declared.Bench.{Bench}
use Rattle.state.specs.Stepped.{Stepped}
use Rattle.state.specs.State.{view}
use Rattle.schedule.specs.Run.{ran}
use Rattle.schedule.proofs.RunLaws.{run-reached}
use Rattle.schedule.specs.Turns.{RanOn}
use Rattle.promised.specs.Lent.{Lent, Explained}
use Rattle.promised.proofs.ExplainedLaws.{Tells, tells, explained}
use Rattle.promised.proofs.LentLaws.{lent}

module _ (b : Bench) (bytes : List ℕ) (at : ℕ) (messages : List Message) (rows : List Row) (l : Lent b messages rows) (r : Stepped)
    (messages' : List Message) (rows' : List Row) (run : RanOn b bytes at messages rows r messages' rows') where
  pub run-tells : Tells r.bench messages' rows'
  run-tells =
      tells (ran bytes at (view b messages rows)).state r.bench messages' rows'
      (run-reached bytes at (view b messages rows) (lent b messages rows l).reached) (run.bench, run.messages-laid, run.rows-laid)

  pub run-explains : (out : List ℕ) → length out ≡ 1024 → Explained r.bench messages' rows' out
  run-explains out = explained r.bench messages' rows' out run-tells
