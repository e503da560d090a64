-- Case A of document 01, by computation: process 1's write reaches process 2 alone, process 3 reads it, and process 1 dies in between. And what document 02
-- adds to it: who replied, and sets that are not well formed.
use Rattle.std.specs.Prelude.{ℕ, ◌≡◌, refl, true, false, List, [], ◌∷◌, map, pos, length, get_or, set}
use Rattle.std.specs.Int.Count.{ones}
use Rattle.words.specs.Stamps.{start_pair, below, newer}
use Rattle.words.specs.Quorum.{member, joined}
use Rattle.replica.specs.Handlers.{begin_refusal, down_refusal, read_rule, read_refusal, read_begun, write_rule, write_refusal, write_begun}
use Rattle.replica.specs.Handlers.{query_rule, query_refusal, query_received, update_rule, update_refusal, update_received}
use Rattle.replica.specs.Handlers.{response_counted, response_rule, response_refusal, response_received, ack_counted, ack_rule, ack_refusal, ack_received}
use Rattle.replica.specs.Handlers.{crash_rule, crash_refusal, crashed}
use Rattle.tables.specs.declared.Row.{Row}
use Rattle.tables.specs.Tables.{empty_row}
use Rattle.state.specs.declared.Event.{Event}
use Rattle.state.specs.declared.Event.TheVariants.{Read, Write, Deliver, Crash}
use Rattle.state.specs.State.{State, fresh}
use Rattle.state.specs.Reached.{after}
use Rattle.state.specs.Step.{completed, queried_row, step, step_read, step_write, step_deliver, step_crash}
use Rattle.state.specs.WellFormed.{well_formed, counts_fit, flight_fits, history_fits, replicas_fit}

case_a : List Event
case_a =
    Write (record { 0 = 1 }) 1 (pos 7) ∷ (Deliver 2 ∷ (Read (record { 0 = 3 }) 1 ∷ (Deliver 7 ∷ (Deliver 6 ∷ (Deliver 8 ∷ (Deliver 9
    ∷ (Crash (record { 0 = 1 }) ∷ (Deliver 11 ∷ (Deliver 12 ∷ (Deliver 13 ∷ (Deliver 14 ∷ [])))))))))))

counts : State → List ℕ
counts s = s.accepted ∷ (s.sent ∷ (s.delivered ∷ (s.lost ∷ (length s.flight ∷ []))))

times : Row → List ℕ
times r = r.process.0 ∷ (r.invoked.0 ∷ (r.answered.0 ∷ (r.stamp.time.0 ∷ (r.stamp.process.0 ∷ []))))

-- whose replies ended the query phase, and the update phase: processes 2 and 3 are bits 2 and 3
repliers : Row → List ℕ
repliers r = r.replied.query ∷ (r.replied.update ∷ [])

abbrev CaseA : State → Type 0
CaseA s =
    (counts s ≡ 12 ∷ (14 ∷ (9 ∷ (0 ∷ (5 ∷ [])))))
    × (map times s.rows ≡ (1 ∷ (1 ∷ (0 ∷ (1 ∷ (1 ∷ []))))) ∷ ((3 ∷ (1 ∷ (7 ∷ (1 ∷ (1 ∷ []))))) ∷ []))
    × (map repliers s.rows ≡ (0 ∷ (0 ∷ [])) ∷ ((12 ∷ (12 ∷ [])) ∷ []))
    × (well_formed s ≡ true)

case-a : CaseA (after (fresh 3 2) case_a)
unfolding case_a counts times repliers well_formed counts_fit flight_fits history_fits replicas_fit step step_read step_write step_deliver step_crash ones below newer member joined begin_refusal down_refusal read_rule read_refusal read_begun write_rule write_refusal write_begun query_rule query_refusal query_received update_rule update_refusal update_received response_counted response_rule response_refusal response_received ack_counted ack_rule ack_refusal ack_received crash_rule crash_refusal crashed
case-a = (refl, refl, refl, refl)

-- ---- what is not well formed: Case A's end with other sets in a row

-- the state with another row at a place
abbrev row_put : ℕ → (Row → Row) → State → State
row_put i change s =
    record {
      n = s.n;
      m = s.m;
      accepted = s.accepted;
      sent = s.sent;
      delivered = s.delivered;
      lost = s.lost;
      replicas = s.replicas;
      flight = s.flight;
      rows = set s.rows i (change (get_or s.rows i empty_row));
    }

-- the read is complete, and process 2 alone is said to have ended its query phase, or to have acked; or the write, which is pending, has acks of 2 and 3
abbrev few_queried : Row → Row
few_queried r = queried_row r 4

abbrev few_acked : Row → Row
few_acked r = completed r r.answered (record { stamp = r.stamp; value = r.value }) 4

abbrev acked_early : Row → Row
acked_early r = completed r r.answered start_pair 12

abbrev Unformed : State → Type 0
Unformed s = (well_formed (row_put 1 few_queried s) ≡ false) × (well_formed (row_put 1 few_acked s) ≡ false) × (well_formed (row_put 0 acked_early s) ≡ false)

too_few : Unformed (after (fresh 3 2) case_a)
unfolding case_a well_formed counts_fit flight_fits history_fits replicas_fit step step_read step_write step_deliver step_crash ones below newer member joined begin_refusal down_refusal read_rule read_refusal read_begun write_rule write_refusal write_begun query_rule query_refusal query_received update_rule update_refusal update_received response_counted response_rule response_refusal response_received ack_counted ack_rule ack_refusal ack_received crash_rule crash_refusal crashed
too_few = (refl, refl, refl)
