-- Document 01, "How tightly each promise binds": benches that look as if they kept demand 2, and a schedule that shows of each that it does not.
use Rattle.std.specs.Prelude.{ℕ, zero, suc, ◌+◌, ◌≡◌, refl, true, cond, List, [], ◌∷◌, map, eqb, pos, length, get_or}
use Rattle.std.proofs.Common.{ap, arith}
use Rattle.std.proofs.lemmas.Bool.{false≢true}
use Rattle.std.specs.Int.Count.{ones}
use Rattle.words.specs.Ranges.{within}
use Rattle.words.specs.Stamps.{start_stamp, below, newer}
use Rattle.words.specs.Quorum.{member, joined}
use Rattle.replica.specs.Handlers.{begin_refusal, down_refusal, read_rule, read_refusal, read_begun, write_rule, write_refusal, write_begun}
use Rattle.replica.specs.Handlers.{query_rule, query_refusal, query_received, update_rule, update_refusal, update_received}
use Rattle.replica.specs.Handlers.{response_counted, response_rule, response_refusal, response_received, ack_counted, ack_rule, ack_refusal, ack_received}
use Rattle.replica.specs.Handlers.{crash_rule, crash_refusal, crashed}
use Rattle.tables.specs.declared.Kind.{Kind}
use Rattle.tables.specs.declared.Kind.TheVariants.{Read as ReadKind, Write as WriteKind}
use Rattle.tables.specs.declared.Row.{Row}
use Rattle.tables.specs.Tables.{empty_row}
use Rattle.state.specs.declared.Event.{Event}
use Rattle.state.specs.declared.Event.TheVariants.{Read, Write, Deliver, Crash}
use Rattle.state.specs.State.{State, fresh}
use Rattle.state.specs.Step.{Outcome, step, step_read, step_write, step_deliver, step_crash}
use Rattle.sc_abd.specs.Algorithm1.{Return}
use Rattle.sc_abd.specs.System.{Call, Operation, Action, started}
use Rattle.sc_abd.specs.Same.{operation_of, Same}
use Rattle.sc_abd.specs.Demand2.{Demand2}
use Rattle.sc_abd.specs.Demand2.ReachedBy.{start}
use Rattle.sc_abd.proofs.Along.{bench_after, system_after, all_accepted, along}

-- a run of a bench that meets demand 2, from a fresh start with one register
from-fresh : (f : State → Event → Outcome) → Demand2 f → (n : ℕ) → within n 7 ≡ true → (events : List Event) → all_accepted f (fresh n 1) events ≡ true
    → Same (bench_after f (fresh n 1) events) (system_after f (fresh n 1) (started n) events)
from-fresh f d n size events ok = along f d (fresh n 1) (started n) events (start n 1 size refl) (d.starts n 1 size refl) ok

-- ---- every event refused: a read may begin

unfoldable pub refuses_all : State → Event → Outcome
refuses_all s e = record { refusal = 1; state = s }

pub refuses_all-fails : Demand2 refuses_all → ⊥
unfolding refuses_all
refuses_all-fails d =
    let read = d.complete (fresh 1 1) (started 1) (Action.invoke 1 (Call.READ 1)) (start 1 1 refl refl) (d.starts 1 1 refl refl)
    (omega arith, omega arith, refl, refl) (omega arith, (refl, omega arith, omega arith)) in
    let refused : ◌≡◌ {A = ℕ} 1 0 = read.2 in
    omega arith

-- ---- every event accepted, the state as it was: a process that crashed is still up

unfoldable pub does_nothing : State → Event → Outcome
does_nothing s e = record { refusal = 0; state = s }

pub does_nothing-fails : Demand2 does_nothing → ⊥
unfolding does_nothing
does_nothing-fails d =
    false≢true ((from-fresh does_nothing d 2 refl (Crash (record { 0 = 1 }) ∷ []) refl).down 1 (omega arith) (omega arith))

-- ---- the first event honestly, then every event accepted and only counted: the second crash does not happen

abbrev pub counted_only : State → State
counted_only s =
    record {
      n = s.n;
      m = s.m;
      accepted = s.accepted + 1;
      sent = s.sent;
      delivered = s.delivered;
      lost = s.lost;
      replicas = s.replicas;
      flight = s.flight;
      rows = s.rows;
    }

unfoldable pub first_honest : State → Event → Outcome
first_honest s e = cond (eqb s.accepted 0) (step s e) (record { refusal = 0; state = counted_only s })

pub first_honest-fails : Demand2 first_honest → ⊥
unfolding first_honest step step_crash crashed crash_refusal crash_rule down_refusal
first_honest-fails d =
    false≢true
    ((from-fresh first_honest d 2 refl (Crash (record { 0 = 1 }) ∷ (Crash (record { 0 = 2 }) ∷ [])) refl).down 2 (omega arith) (omega arith))

-- ---- honest, but something in the rows is made up: what each operation wrote, gave or chose, and when, is the algorithm's

abbrev rows_changed : (Row → Row) → State → State
rows_changed change s =
    record {
      n = s.n;
      m = s.m;
      accepted = s.accepted;
      sent = s.sent;
      delivered = s.delivered;
      lost = s.lost;
      replicas = s.replicas;
      flight = s.flight;
      rows = map change s.rows;
    }

abbrev honest_but : (Row → Row) → State → Event → Outcome
honest_but change s e =
    record { refusal = (step s e).refusal; state = cond (eqb (step s e).refusal 0) (rows_changed change (step s e).state) s }

-- one process, one register: a write of 7, and a read after it
abbrev writes : List Event
writes = Write (record { 0 = 1 }) 1 (pos 7) ∷ []

abbrev write_alone : List Event
write_alone = Write (record { 0 = 1 }) 1 (pos 7) ∷ (Deliver 1 ∷ (Deliver 2 ∷ []))

abbrev write_then_read : List Event
write_then_read =
    Write (record { 0 = 1 }) 1 (pos 7) ∷ (Deliver 1 ∷ (Deliver 2
    ∷ (Read (record { 0 = 1 }) 1 ∷ (Deliver 3 ∷ (Deliver 4 ∷ (Deliver 5 ∷ (Deliver 6 ∷ [])))))))

-- the first and the second operation of a history
abbrev first : List Operation → Operation
first history = get_or history 0 (operation_of empty_row)

abbrev second : List Operation → Operation
second history = get_or history 1 (operation_of empty_row)

-- every completed read gives 0: a read of a written 7
abbrev zeroed : Kind → ℕ → Row → Row
zeroed ReadKind zero r = r
zeroed ReadKind (suc t) r =
    record {
      process = r.process;
      kind = r.kind;
      register = r.register;
      invoked = r.invoked;
      answered = r.answered;
      stamp = r.stamp;
      value = pos 0;
      replied = r.replied;
    }
zeroed WriteKind t r = r

pub zero_reads : State → Event → Outcome
zero_reads = honest_but (λ r. zeroed r.kind r.answered.0 r)

pub zero_reads-fails : Demand2 zero_reads → ⊥
unfolding zero_reads step step_read step_write step_deliver ones below newer member joined begin_refusal down_refusal read_rule read_refusal read_begun write_rule write_refusal write_begun query_rule query_refusal query_received update_rule update_refusal update_received response_counted response_rule response_refusal response_received ack_counted ack_rule ack_refusal ack_received
zero_reads-fails d =
    let returned : Return.value (pos 0) ≡ Return.value (pos 7) = ap (λ h. (second h).returned) (from-fresh zero_reads d 1 refl write_then_read refl).history in
    let z : ◌≡◌ {A = ℕ} 0 7 = cc in
    omega arith

-- every invocation time is 0: a write is invoked at 1
pub forged : State → Event → Outcome
forged =
    honest_but (λ r. record {
      process = r.process;
      kind = r.kind;
      register = r.register;
      invoked = record { 0 = 0 };
      answered = r.answered;
      stamp = r.stamp;
      value = r.value;
      replied = r.replied;
    })

pub forged-fails : Demand2 forged → ⊥
unfolding forged step step_write begin_refusal down_refusal write_rule write_refusal write_begun
forged-fails d =
    let invoked : ◌≡◌ {A = ℕ} 0 1 = ap (λ h. (first h).invoked) (from-fresh forged d 1 refl writes refl).history in
    omega arith

-- every response time is 1: a write alone is answered at 3
abbrev one_if_answered : ℕ → ℕ
one_if_answered zero = 0
one_if_answered (suc t) = 1

pub answers_at_one : State → Event → Outcome
answers_at_one =
    honest_but (λ r. record {
      process = r.process;
      kind = r.kind;
      register = r.register;
      invoked = r.invoked;
      answered = record { 0 = one_if_answered r.answered.0 };
      stamp = r.stamp;
      value = r.value;
      replied = r.replied;
    })

pub answers_at_one-fails : Demand2 answers_at_one → ⊥
unfolding answers_at_one step step_write step_deliver ones below newer member joined begin_refusal down_refusal write_rule write_refusal write_begun update_rule update_refusal update_received ack_counted ack_rule ack_refusal ack_received
answers_at_one-fails d =
    let answered : ◌≡◌ {A = ℕ} 1 3 = ap (λ h. (first h).answered) (from-fresh answers_at_one d 1 refl write_alone refl).history in
    omega arith

-- every stamp is (0, 0): a write's is (1, 1)
pub unstamped : State → Event → Outcome
unstamped =
    honest_but (λ r. record {
      process = r.process;
      kind = r.kind;
      register = r.register;
      invoked = r.invoked;
      answered = r.answered;
      stamp = start_stamp;
      value = r.value;
      replied = r.replied;
    })

pub unstamped-fails : Demand2 unstamped → ⊥
unfolding unstamped step step_write begin_refusal down_refusal write_rule write_refusal write_begun
unstamped-fails d =
    let time : ◌≡◌ {A = ℕ} 0 1 = ap (λ h. (first h).tsv.ts.time) (from-fresh unstamped d 1 refl writes refl).history in
    omega arith

-- who decided is left out of the update set: of process 1, alone, which acks its own write, nobody is left in it
pub leaves_out : State → Event → Outcome
leaves_out =
    honest_but (λ r. record {
      process = r.process;
      kind = r.kind;
      register = r.register;
      invoked = r.invoked;
      answered = r.answered;
      stamp = r.stamp;
      value = r.value;
      replied = record { query = r.replied.query; update = 0 };
    })

pub leaves_out-fails : Demand2 leaves_out → ⊥
unfolding leaves_out step step_write step_deliver ones below newer member joined begin_refusal down_refusal write_rule write_refusal write_begun update_rule update_refusal update_received ack_counted ack_rule ack_refusal ack_received
leaves_out-fails d =
    let acked : ◌≡◌ {A = List ℕ} [] (1 ∷ []) = ap (λ h. (first h).acked) (from-fresh leaves_out d 1 refl write_alone refl).history in
    omega (arith, ap length acked)

-- bit 0, which is no process, is in every query set: a write has none
pub adds_nobody : State → Event → Outcome
adds_nobody =
    honest_but (λ r. record {
      process = r.process;
      kind = r.kind;
      register = r.register;
      invoked = r.invoked;
      answered = r.answered;
      stamp = r.stamp;
      value = r.value;
      replied = record { query = 1; update = r.replied.update };
    })

pub adds_nobody-fails : Demand2 adds_nobody → ⊥
unfolding adds_nobody step step_write begin_refusal down_refusal write_rule write_refusal write_begun
adds_nobody-fails d =
    let queried : ◌≡◌ {A = List ℕ} (0 ∷ []) [] = ap (λ h. (first h).queried) (from-fresh adds_nobody d 1 refl writes refl).history in
    omega (arith, ap length queried)

-- ---- honest, but it says of every accepted event that it was the last of the 12,000: then it need accept no other

abbrev said_full : State → State
said_full s =
    record {
      n = s.n;
      m = s.m;
      accepted = 12000;
      sent = s.sent;
      delivered = s.delivered;
      lost = s.lost;
      replicas = s.replicas;
      flight = s.flight;
      rows = s.rows;
    }

pub says_full : State → Event → Outcome
says_full s e = record { refusal = (step s e).refusal; state = cond (eqb (step s e).refusal 0) (said_full (step s e).state) s }

pub says_full-fails : Demand2 says_full → ⊥
unfolding says_full step step_crash crashed crash_refusal crash_rule down_refusal
says_full-fails d =
    let once : ◌≡◌ {A = ℕ} 12000 (0 + 1) = (d.counted (fresh 1 1) (Crash (record { 0 = 1 })) (start 1 1 refl refl) refl).0 in
    omega arith
