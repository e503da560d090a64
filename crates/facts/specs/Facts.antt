-- The small facts of document 01, "Small facts to prove together": each a case with document 01's sentence, one list of them, and one statement: all hold.
-- Every half is an equation whose two sides compute to the same.
use Rattle.std.specs.Prelude.{◌≡◌, refl, true, false, List, [], ◌∷◌, map, pos, length}
use Rattle.std.specs.Int.Count.{ones}
use Rattle.words.specs.declared.Body.TheVariants.{Ack}
use Rattle.words.specs.Quorum.{joined, majority_of}
use Rattle.words.specs.Stamps.{stamp_of, below, newer}
use Rattle.replica.specs.Clock.{after}
use Rattle.replica.specs.Handlers.{stored, reply_of}
use Rattle.replica.specs.Handlers.{begin_refusal, down_refusal, read_rule, read_refusal, read_begun, write_rule, write_refusal, write_begun}
use Rattle.replica.specs.Handlers.{query_rule, query_refusal, query_received, update_rule, update_refusal, update_received}
use Rattle.replica.specs.Handlers.{response_counted, response_rule, response_refusal, response_received, ack_counted, ack_rule, ack_refusal, ack_received}
use Rattle.replica.specs.Handlers.{crash_rule, crash_refusal, crashed}
use Rattle.state.specs.declared.Event.TheVariants.{Deliver}
use Rattle.state.specs.State.{fresh, row_of}
use Rattle.state.specs.Step.{step, step_read, step_write, step_deliver, step_crash}
use Rattle.state.specs.WellFormed.{well_formed, counts_fit, flight_fits, history_fits, replicas_fit, pending_of}
use Rattle.state.specs.Counting.{makes_query_majority}
use Rattle.placing.specs.OneOrder.{point, order_key, placed, one_order}
use Rattle.order.specs.Operations.{order_of}
use Rattle.format.specs.Format.{file_refusal, event_at}
use Rattle.schedule.specs.Run.{ran_from}
use Rattle.schedule.specs.Opening.{ran_file}
use Rattle.facts.specs.Case.{Case, Hold, ◌by◌also◌}
use Rattle.facts.specs.Events.{read, write, numbers, deliverable, write_alone, after_write, read_behind, after_read, write_of_two, after_crash, twice}
use Rattle.facts.specs.Crowded.{strays, crowded, asking, fourth, deciding}
use Rattle.facts.specs.Situations.{pair_of, update_answer, overtaken, points_of, seven_bytes}

abbrev pub P1 : Case
P1 =
    record {
      fact = "P1 majorities for N = 1..7: 1, 2, 2, 3, 3, 4, 4";
      says = map majority_of (1 ∷ 2 ∷ 3 ∷ 4 ∷ 5 ∷ 6 ∷ 7 ∷ []) ≡ 1 ∷ 2 ∷ 2 ∷ 3 ∷ 3 ∷ 4 ∷ 4 ∷ [];
    }

abbrev pub P2 : Case
P2 =
    record {
      fact = "P2 (2,1) is below (2,3), (2,3) below (3,1), (2,3) not below itself";
      says =
          (below (stamp_of 2 1) (stamp_of 2 3) ≡ true)
          × (below (stamp_of 2 3) (stamp_of 3 1) ≡ true)
          × (below (stamp_of 2 3) (stamp_of 2 3) ≡ false);
    }

abbrev pub P3 : Case
P3 =
    record {
      fact = "P3 clock 4 receiving time 9 gives 10, and 9 receiving 4 gives 10";
      says = (after 4 9 ≡ 10) × (after 9 4 ≡ 10);
    }

abbrev pub P4 : Case
P4 =
    record {
      fact = "P4 an update with the stored stamp leaves the pair and is acked";
      says =
          (update_answer.refusal ≡ 0)
          × (stored update_answer.replica 1 ≡ pair_of (pos 7))
          × (update_answer.sends ≡ reply_of (record { 0 = 1 }) 10 5 Ack);
    }

abbrev pub P5 : Case
P5 =
    record {
      fact = "P5 N=1, a write alone: invoked 1, answered 3, two messages";
      says =
          (numbers (fresh 1 1) write_alone ≡ 0 ∷ 0 ∷ 0 ∷ [])
          × ((row_of after_write 1).invoked.0 ≡ 1)
          × ((row_of after_write 1).answered.0 ≡ 3)
          × (after_write.sent ≡ 2);
    }

abbrev pub P6 : Case
P6 =
    record {
      fact = "P6 N=1, a read after it: invoked 4, answered 8";
      says =
          (numbers after_write read_behind ≡ 0 ∷ 0 ∷ 0 ∷ 0 ∷ 0 ∷ [])
          × ((row_of after_read 2).invoked.0 ≡ 4)
          × ((row_of after_read 2).answered.0 ≡ 8);
    }

abbrev pub P7 : Case
P7 =
    record {
      fact = "P7 N=2, process 2 crashed: a write by 1, all its deliverable messages delivered, is pending";
      says =
          (numbers (fresh 2 1) write_of_two ≡ 0 ∷ 0 ∷ 0 ∷ 0 ∷ [])
          × (deliverable after_crash ≡ [])
          × (pending_of 1 1 after_crash.rows ≡ 1 ∷ []);
    }

abbrev pub P8 : Case
P8 =
    record {
      fact = "P8 delivering message 1 twice: 12";
      says = numbers (fresh 1 1) twice ≡ 0 ∷ 0 ∷ 12 ∷ [];
    }

abbrev pub P9 : Case
P9 =
    record {
      fact = "P9 N=7: with 505 in flight an invocation is accepted, with 506 it is refused by 15";
      says =
          (well_formed (crowded 505) ≡ true)
          × (length (crowded 505).flight ≡ 505)
          × ((step (crowded 505) (read 1 1)).refusal ≡ 0)
          × ((step (crowded 505) (write 1 1 (pos 7))).refusal ≡ 0)
          × (well_formed (crowded 506) ≡ true)
          × (length (crowded 506).flight ≡ 506)
          × ((step (crowded 506) (read 1 1)).refusal ≡ 15)
          × ((step (crowded 506) (write 1 1 (pos 7))).refusal ≡ 15);
    }

abbrev pub P10 : Case
P10 =
    record {
      fact = "P10 N=7: the deciding response is accepted with 506 in flight, refused by 15 with 507";
      says =
          (makes_query_majority (deciding 506) asking fourth ≡ true)
          × (well_formed (deciding 506) ≡ true)
          × (length (deciding 506).flight ≡ 506)
          × ((step (deciding 506) (Deliver 1)).refusal ≡ 0)
          × (well_formed (deciding 507) ≡ true)
          × (length (deciding 507).flight ≡ 507)
          × ((step (deciding 507) (Deliver 1)).refusal ≡ 15);
    }

abbrev pub P11 : Case
P11 =
    record {
      fact = "P11 a pending write stamped (1,1), a read of the same register by process 2 invoked at (5,2) giving 0: read first, then write, both with point (5,2)";
      says = (order_of overtaken ≡ 2 ∷ 1 ∷ []) × (points_of overtaken ≡ stamp_of 5 2 ∷ stamp_of 5 2 ∷ []);
    }

abbrev pub P12 : Case
P12 =
    record {
      fact = "P12 the bytes 00 00 00 03 01 01 01: 0 events accepted, empty order";
      says =
          (file_refusal seven_bytes ≡ 0)
          × ((ran_file seven_bytes).refusal ≡ 0)
          × ((ran_file seven_bytes).state.accepted ≡ 0)
          × (order_of (ran_file seven_bytes).state.rows ≡ []);
    }

abbrev pub cases : List Case
cases = P1 ∷ P2 ∷ P3 ∷ P4 ∷ P5 ∷ P6 ∷ P7 ∷ P8 ∷ P9 ∷ P10 ∷ P11 ∷ P12 ∷ []

pub facts : Hold cases
unfolding joined ones below newer begin_refusal down_refusal read_rule read_refusal read_begun write_rule write_refusal write_begun
    query_rule query_refusal query_received update_rule update_refusal update_received response_counted response_rule response_refusal response_received
    ack_counted ack_rule ack_refusal ack_received crash_rule crash_refusal crashed step step_read step_write step_deliver step_crash
    well_formed counts_fit flight_fits history_fits replicas_fit point order_key placed one_order file_refusal event_at ran_from ran_file
    strays crowded asking fourth deciding
facts =
    P1 by refl
    also P2 by (refl, refl, refl)
    also P3 by (refl, refl)
    also P4 by (refl, refl, refl)
    also P5 by (refl, refl, refl, refl)
    also P6 by (refl, refl, refl)
    also P7 by (refl, refl, refl)
    also P8 by refl
    also P9 by (refl, refl, refl, refl, refl, refl, refl, refl)
    also P10 by (refl, refl, refl, refl, refl, refl, refl)
    also P11 by (refl, refl)
    also P12 by (refl, refl, refl, refl)
    also tt
