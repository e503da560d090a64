-- One event: document 01, "Events" and "Numbers of refusal". `step` is total: it gives the number of the first check that holds and the state as
-- it was, or 0 and the next state. (18 and the test of well-formedness stand before it.)
use Rattle.std.specs.Prelude.{ℕ, ◌+◌, ◌-◌, Bool, cond, not, ◌||◌, List, [], ◌∷◌, ◌++◌, eqb, ltb, leb, ℤ, pos, length, get_or, set, Option, Some, None, unwrap_or}
use Rattle.words.specs.declared.Message.{Message}
use Rattle.words.specs.declared.Body.{Body}
use Rattle.words.specs.declared.Body.TheVariants.{Query, Response, Update, Ack}
use Rattle.words.specs.declared.Pair.{Pair}
use Rattle.words.specs.declared.Stamp.{Stamp}
use Rattle.words.specs.declared.Time.{Time}
use Rattle.words.specs.Limits.{most_events, most_flight, most_rows}
use Rattle.words.specs.Ranges.{within}
use Rattle.words.specs.Stamps.{stamp_of, start_stamp}
use Rattle.replica.specs.Answer.{Answer}
use Rattle.replica.specs.declared.Ended.{Ended}
use Rattle.replica.specs.declared.Ended.TheVariants.{Pending, Query as Queried, At}
use Rattle.replica.specs.declared.Letter.{Letter}
use Rattle.replica.specs.declared.Phase.{Phase}
use Rattle.replica.specs.declared.Phase.TheVariants.{Idle, Querying, Updating}
use Rattle.replica.specs.declared.Replica.{Replica}
use Rattle.replica.specs.declared.Sends.{Sends}
use Rattle.replica.specs.declared.Sends.TheVariants.{Nothing, Reply, Broadcast}
use Rattle.replica.specs.Handlers.{is_idle, read_begun, write_begun, query_received, update_received, response_received, ack_received, crashed}
use Rattle.replica.specs.Numbers.{sent_by, answered_at, chosen_by, ended_by, pointed}
use Rattle.tables.specs.declared.Kind.{Kind}
use Rattle.tables.specs.declared.Kind.TheVariants.{Read as ReadKind, Write as WriteKind}
use Rattle.tables.specs.declared.Row.{Row}
use Rattle.tables.specs.Tables.{empty_message, nobody, empty_row, seek, removed, copies}
use Rattle.state.specs.declared.Event.{Event}
use Rattle.state.specs.declared.Event.TheVariants.{Read, Write, Deliver, Crash, Lose}
use Rattle.state.specs.State.{State, replica_of, row_of}

pub record Outcome : Type 0 where
  pub refusal : ℕ
  pub state : State

-- ---- what is sent, and what becomes of the row

abbrev pub message_of : ℕ → ℕ → ℕ → Letter → Message
message_of number from to letter =
    record {
      number = number;
      from = record { 0 = from };
      to = record { 0 = to };
      time = letter.time;
      rid = letter.rid;
      body = letter.body;
    }

-- numbers run 1, 2, 3 .. in order of sending; a broadcast goes to all processes, the sender too, in rising process number
abbrev pub posted : State → ℕ → Sends → List Message
posted s from Nothing = []
posted s from (Reply to letter) = copies (message_of (s.sent + 1) from to.0 letter) 1
posted s from (Broadcast letter) = copies (message_of (s.sent + 1) from 1 letter) s.n

-- a row at its invocation, which is pending
abbrev pub begun_row : ℕ → Kind → ℕ → ℕ → Stamp → ℤ → Row
begun_row p kind x clock stamp value =
    record {
      process = record { 0 = p };
      kind = kind;
      register = x;
      invoked = record { 0 = clock };
      answered = record { 0 = 0 };
      stamp = stamp;
      value = value;
      replied = nobody;
    }

-- a write's stamp and value stand from its invocation, a pending read has stamp (0, 0) and value 0
abbrev pub read_row : ℕ → ℕ → ℕ → Row
read_row p x clock = begun_row p ReadKind x clock start_stamp (pos 0)

abbrev pub write_row : ℕ → ℕ → ℤ → ℕ → Row
write_row p x value clock = begun_row p WriteKind x clock (stamp_of clock p) value

-- what an operation of a kind gives that ended with this pair: a read the chosen value, with its stamp; a write only "done"
abbrev pub given : Kind → Pair → Option Pair
given ReadKind pair = Some pair
given WriteKind pair = None

-- a completed read has the pair it chose; a write keeps its own
abbrev pub kept : Kind → Row → Pair → Pair
kept kind row pair = unwrap_or (given kind pair) (record { stamp = row.stamp; value = row.value })

-- the operation in this row is complete: its update phase ended by the acks of this set
abbrev pub completed : Row → Time → Pair → ℕ → Row
completed row time pair who =
    record {
      process = row.process;
      kind = row.kind;
      register = row.register;
      invoked = row.invoked;
      answered = time;
      stamp = (kept row.kind row pair).stamp;
      value = (kept row.kind row pair).value;
      replied = record { query = row.replied.query; update = who };
    }

-- the query phase of the operation in this row ended by the replies of this set
abbrev pub queried_row : Row → ℕ → Row
queried_row row who =
    record {
      process = row.process;
      kind = row.kind;
      register = row.register;
      invoked = row.invoked;
      answered = row.answered;
      stamp = row.stamp;
      value = row.value;
      replied = record { query = who; update = row.replied.update };
    }

-- the row of an operation that ended so: its response time, the pair that was chosen, and whose replies ended it
abbrev pub ended_row : Row → Ended → Row
ended_row row ended = completed row (record { 0 = answered_at ended }) (chosen_by ended) (ended_by ended)

abbrev pub answered_rows : List Row → ℕ → Ended → List Row
answered_rows rows number Pending = rows
answered_rows rows number (Queried who) = set rows (number - 1) (queried_row (get_or rows (number - 1) empty_row) who)
answered_rows rows number (At time pair who) = set rows (number - 1) (ended_row (get_or rows (number - 1) empty_row) (At time pair who))

-- ---- the next state

-- p takes its step with this answer, the message at a place is taken off if there was one, and the rows are these
abbrev pub moved : State → ℕ → Answer → List Message → ℕ → List Row → State
moved s p answer flight delivered rows =
    record {
      n = s.n;
      m = s.m;
      accepted = s.accepted + 1;
      sent = s.sent + sent_by s.n answer.sends;
      delivered = delivered;
      lost = s.lost;
      replicas = set s.replicas (p - 1) answer.replica;
      flight = flight ++ posted s p answer.sends;
      rows = rows;
    }

abbrev pub without_message : State → ℕ → State
without_message s i =
    record {
      n = s.n;
      m = s.m;
      accepted = s.accepted + 1;
      sent = s.sent;
      delivered = s.delivered;
      lost = s.lost + 1;
      replicas = s.replicas;
      flight = removed i s.flight;
      rows = s.rows;
    }

-- ---- the checks, in document 01's order: the first that holds is given, 0 if none

abbrev pub check : Bool → ℕ → ℕ → ℕ
check holds number later = cond holds number later

abbrev pub full : State → Bool
full s = leb most_events s.accepted

-- messages in flight would pass 512
abbrev pub no_room : ℕ → Bool
no_room flight = ltb most_flight flight

abbrev pub invoke_refusal : State → ℕ → ℕ → ℕ → ℕ
invoke_refusal s p x later =
    check (full s) 17
    (check (not (within p s.n)) 8
    (check (not (within x s.m)) 9
    (check (replica_of s p).crashed 10
    (check (not (is_idle (replica_of s p).phase)) 11
    (check (leb most_rows (length s.rows)) 16
    (check (no_room (length s.flight + s.n)) 15 later))))))

-- no such message in flight
abbrev pub found_refusal : Option ℕ → ℕ
found_refusal None = 12
found_refusal (Some i) = 0

abbrev pub deliver_refusal : State → Replica → Answer → ℕ
deliver_refusal s r answer =
    check r.crashed 13
    (check (no_room (length s.flight - 1 + sent_by s.n answer.sends)) 15 answer.refusal)

abbrev pub crash_refusal : State → ℕ → ℕ → ℕ
crash_refusal s p later = check (full s) 17 (check (not (within p s.n)) 8 (check (replica_of s p).crashed 10 later))

abbrev pub lose_refusal : State → Message → ℕ
lose_refusal s message = check (not ((replica_of s message.from.0).crashed || (replica_of s message.to.0).crashed)) 14 0

-- ---- the events

abbrev pub outcome : State → ℕ → State → Outcome
outcome s number next = record { refusal = number; state = cond (eqb number 0) next s }

-- the register that a querying replica asks for; any other asks for none, and 1 stands in
abbrev pub asked_register : State → Phase → ℕ
asked_register s Idle = 1
asked_register s (Querying row gathered) = (row_of s row).register
asked_register s (Updating row sent) = 1

abbrev pub heard_by : State → Replica → Message → Body → Answer
heard_by s r message (Query x) = query_received r message.from message.time message.rid x
heard_by s r message (Response pair) = response_received r s.n (asked_register s r.phase) message.from message.time message.rid pair
heard_by s r message (Update x pair) = update_received r message.from message.time message.rid x pair
heard_by s r message Ack = ack_received r s.n message.from message.time message.rid

abbrev pub heard : State → Replica → Message → Answer
heard s r message = heard_by s r message message.body

unfoldable pub step_read : State → ℕ → ℕ → Outcome
step_read s p x =
    let answer = read_begun (replica_of s p) x (length s.rows + 1) in
    outcome s (invoke_refusal s p x answer.refusal)
    (moved s p answer s.flight s.delivered (s.rows ++ (read_row p x answer.replica.clock.0 ∷ [])))

unfoldable pub step_write : State → ℕ → ℕ → ℤ → Outcome
step_write s p x value =
    let answer = write_begun (replica_of s p) (record { 0 = p }) x value (length s.rows + 1) in
    outcome s (invoke_refusal s p x answer.refusal)
    (moved s p answer s.flight s.delivered (s.rows ++ (write_row p x value answer.replica.clock.0 ∷ [])))

abbrev pub deliver_at : State → Option ℕ → Outcome
deliver_at s None = outcome s (found_refusal None) s
deliver_at s (Some i) =
    let message = get_or s.flight i empty_message in
    let p = message.to.0 in
    let r = replica_of s p in
    let answer = heard s r message in
    outcome s (deliver_refusal s r answer)
    (moved s p answer (removed i s.flight) (s.delivered + 1) (answered_rows s.rows (pointed r.phase) answer.ended))

unfoldable pub step_deliver : State → ℕ → Outcome
step_deliver s k = cond (full s) (outcome s 17 s) (deliver_at s (seek k 0 s.flight))

unfoldable pub step_crash : State → ℕ → Outcome
step_crash s p =
    let answer = crashed (replica_of s p) in
    outcome s (crash_refusal s p answer.refusal) (moved s p answer s.flight s.delivered s.rows)

abbrev pub lose_at : State → Option ℕ → Outcome
lose_at s None = outcome s (found_refusal None) s
lose_at s (Some i) = outcome s (lose_refusal s (get_or s.flight i empty_message)) (without_message s i)

unfoldable pub step_lose : State → ℕ → Outcome
step_lose s k = cond (full s) (outcome s 17 s) (lose_at s (seek k 0 s.flight))

unfoldable pub step : State → Event → Outcome
step s (Read p x) = step_read s p.0 x
step s (Write p x value) = step_write s p.0 x value
step s (Deliver k) = step_deliver s k
step s (Crash p) = step_crash s p.0
step s (Lose k) = step_lose s k
