-- Demand 3 of the public functions: after `start` and any accepted `step`s, `order` is never refused for a table of 1,024 places, and the row numbers that
-- it lays are a sequentially consistent order of the history in the lent table. So `step` and `status` are never refused by 18 either.
use Rattle.std.specs.Prelude.{ℕ, ◌≡◌, Bool, true, false, not, List, length}
use Rattle.std.proofs.Math.Path.{refl}
use Rattle.std.proofs.Common.{sym, ◌∙◌}
use Rattle.std.proofs.lemmas.Bool.{eqb-false}
use Rattle.words.specs.declared.Message.{Message}
use Rattle.words.specs.Ranges.{within}
use Rattle.tables.specs.declared.Row.{Row}
use Rattle.state.specs.declared.Bench.{Bench}
use Rattle.state.specs.declared.Event.{Event}
use Rattle.state.specs.State.{view, fresh}
use Rattle.state.specs.Step.{check, step}
use Rattle.state.specs.Tabled.{tabled, bench_of}
use Rattle.state.specs.Reached.{start, next}
use Rattle.advance.proofs.TabledLaws.{Holds}
use Rattle.bench.specs.Start.{started_by, start_reply}
use Rattle.bench.specs.Reply.{step_reply, step_messages, step_rows}
use Rattle.promised.specs.Lent.{Lent, started, stepped, Explained}
use Rattle.promised.proofs.ExplainedLaws.{Tells, tells, explained}

-- ---- what `start` and `step` leave holds a state that was reached

-- a start that is not refused has its processes and registers within their ranges
unrefused : (few some : Bool) → check (not few) 4 (check (not some) 5 0) ≡ 0 → (few ≡ true) × (some ≡ true)
unrefused true true z = (refl, refl)
unrefused true false z = absurd (eqb-false 5 0 refl z)
unrefused false some z = absurd (eqb-false 4 0 refl z)

module _ (n m : ℕ) (z : (start_reply n m 512 1024).refusal ≡ 0) where
  ranges : (within n 7 ≡ true) × (within m 16 ≡ true)
  unfolding start_reply started_by
  ranges = unrefused (within n 7) (within m 16) z

  fresh-bench : (start_reply n m 512 1024).bench ≡ bench_of (fresh n m)
  unfolding start_reply started_by
  fresh-bench = rw (ranges.0, ranges.1) refl

-- an accepted step of tables that hold a state leaves tables that hold the next
module _ (b : Bench) (event : Event) (messages : List Message) (rows : List Row) (t : tabled b messages rows ≡ true) where
  stepped-holds : Holds (step (view b messages rows) event).state (step_reply b event messages rows).bench (step_messages b event messages rows) (step_rows b event messages rows)
  unfolding step_reply step_messages step_rows
  stepped-holds = rw t (refl, refl, refl)

  stepped-refusal : (step_reply b event messages rows).refusal ≡ (step (view b messages rows) event).refusal
  unfolding step_reply
  stepped-refusal = rw t refl

pub lent : (b : Bench) (messages : List Message) (rows : List Row) → Lent b messages rows → Tells b messages rows
lent _ _ _ (started n m z) =
    tells (fresh n m) _ _ _ (start n m (ranges n m z).0 (ranges n m z).1) (fresh-bench n m z, refl, refl)
lent _ _ _ (stepped b event messages rows l z) =
    let before = lent b messages rows l in
    tells (step (view b messages rows) event).state _ _ _
    (next (view b messages rows) event before.reached (sym (stepped-refusal b event messages rows before.formed) ∙ z))
    (stepped-holds b event messages rows before.formed)

-- ---- the promise

pub order-explains : (b : Bench) (messages : List Message) (rows : List Row) (out : List ℕ) → Lent b messages rows → length out ≡ 1024 → Explained b messages rows out
order-explains b messages rows out l = explained b messages rows out (lent b messages rows l)
