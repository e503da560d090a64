-- The plan of an event by what was gathered for it, whatever that is: the counts, the one replica concerned, and what was looked up in the tables.
-- `gathered_plan` says that on what is gathered of a state it is `plan_of`.
use Rattle.std.specs.Prelude.{ℕ, ◌+◌, ◌-◌, ◌||◌, Bool, ℤ, List, length, get_or, Option, Some, None, Result, Err}
use Rattle.words.specs.declared.Body.{Body}
use Rattle.words.specs.declared.Body.TheVariants.{Query, Response, Update, Ack}
use Rattle.words.specs.declared.Message.{Message}
use Rattle.words.specs.declared.Pid.{Pid}
use Rattle.replica.specs.Answer.{Answer}
use Rattle.replica.specs.declared.Ended.{Ended}
use Rattle.replica.specs.declared.Ended.TheVariants.{Pending, Query as Queried, At}
use Rattle.replica.specs.declared.Phase.{Phase}
use Rattle.replica.specs.declared.Phase.TheVariants.{Idle, Querying, Updating}
use Rattle.replica.specs.declared.Replica.{Replica}
use Rattle.replica.specs.declared.Sends.{Sends}
use Rattle.replica.specs.declared.Sends.TheVariants.{Nothing, Reply, Broadcast}
use Rattle.replica.specs.Handlers.{is_idle, query_received, update_received, response_received, ack_received, crashed}
use Rattle.replica.specs.Numbers.{sent_by, pointed}
use Rattle.tables.specs.declared.Row.{Row}
use Rattle.tables.specs.Tables.{empty_message, seek}
use Rattle.state.specs.declared.Event.{Event}
use Rattle.state.specs.declared.Event.TheVariants.{Read, Write, Deliver, Crash, Lose}
use Rattle.state.specs.State.{State, replica_of}
use Rattle.state.specs.Step.{message_of, completed, queried_row}
use Rattle.decide.specs.declared.Counters.{Counters}
use Rattle.decide.specs.declared.Plan.{Plan}
use Rattle.decide.specs.Checks.{invoke_checks, deliver_checks, crash_checks, lose_checks, missing_checks}
use Rattle.decide.specs.Plan.{settled, begun, begun_row}

-- ---- the parts

-- the first of the messages that are sent, and how many they are: the others follow it
abbrev pub first_of : Counters → Pid → Sends → Option (Message × ℕ)
first_of c from Nothing = None
first_of c from (Reply to letter) = Some (message_of (c.sent + 1) from.0 to.0 letter, 1)
first_of c from (Broadcast letter) = Some (message_of (c.sent + 1) from.0 1 letter, c.n)

-- p's answer, the place of the message that it answers, if it answers one, and the row that is written
abbrev pub accepted_by : Counters → Pid → Option ℕ → Answer → Option (ℕ × Row) → Plan
accepted_by c p taken answer row =
    record {
      replica = Some (p, answer.replica);
      taken = taken;
      posted = first_of c p answer.sends;
      row = row;
    }

-- the register that a querying replica asks for, which its row has; any other asks for none, and 1 stands in
abbrev pub register_asked : Phase → Row → ℕ
register_asked Idle row = 1
register_asked (Querying number gathered) row = row.register
register_asked (Updating number sent) row = 1

abbrev pub answer_by : Body → ℕ → ℕ → Replica → Message → Answer
answer_by (Query x) n asked r message = query_received r message.from message.time message.rid x
answer_by (Response pair) n asked r message = response_received r n asked message.from message.time message.rid pair
answer_by (Update x pair) n asked r message = update_received r message.from message.time message.rid x pair
answer_by Ack n asked r message = ack_received r n message.from message.time message.rid

abbrev pub answer_to : ℕ → ℕ → Replica → Message → Answer
answer_to n asked r message = answer_by message.body n asked r message

-- the row that an answer writes: none where no phase ended, else the one that the replica pointed to
abbrev pub row_by : Row → ℕ → Ended → Option (ℕ × Row)
row_by row number Pending = None
row_by row number (Queried who) = Some (number - 1, queried_row row who)
row_by row number (At time pair who) = Some (number - 1, completed row time pair who)

-- ---- the events

-- a read is begun, or the write of a value
unfoldable pub invoke_by : Counters → Pid → ℕ → Option ℤ → Replica → Result Plan ℕ
invoke_by c p x written r =
    let answer = begun r p x (c.rows + 1) written in
    settled (invoke_checks c p.0 x r.crashed (is_idle r.phase) answer.refusal)
    (accepted_by c p None answer (Some (c.rows, begun_row p x answer.replica.clock.0 written)))

unfoldable pub deliver_by : Counters → Option ℕ → Message → Replica → Row → Result Plan ℕ
deliver_by c None message r row = Err (missing_checks c)
deliver_by c (Some i) message r row =
    let answer = answer_to c.n (register_asked r.phase row) r message in
    settled (deliver_checks c r.crashed (sent_by c.n answer.sends) answer.refusal)
    (accepted_by c message.to (Some i) answer (row_by row (pointed r.phase) answer.ended))

unfoldable pub crash_by : Counters → Pid → Replica → Result Plan ℕ
crash_by c p r =
    let answer = crashed r in
    settled (crash_checks c p.0 r.crashed answer.refusal) (accepted_by c p None answer None)

-- a lost message changes no replica: the plan only says whether it may be lost, and from which place
unfoldable pub lose_by : Counters → Option ℕ → Bool → Result Plan ℕ
lose_by c None down = Err (missing_checks c)
lose_by c (Some i) down = settled (lose_checks c down) (record { replica = None; taken = Some i; posted = None; row = None })

-- an event, with the message and the row that were gathered for it, and whether one of the message's ends has crashed
unfoldable pub plan_by : Counters → Event → Option ℕ → Message → Bool → Replica → Row → Result Plan ℕ
plan_by c (Read p x) found message down r row = invoke_by c p x None r
plan_by c (Write p x value) found message down r row = invoke_by c p x (Some value) r
plan_by c (Deliver k) found message down r row = deliver_by c found message r row
plan_by c (Crash p) found message down r row = crash_by c p r
plan_by c (Lose k) found message down r row = lose_by c found down

-- ---- what is gathered of a state

abbrev pub counters_of : State → Counters
counters_of s =
    record {
      n = s.n;
      m = s.m;
      accepted = s.accepted;
      sent = s.sent;
      flight = length s.flight;
      rows = length s.rows;
    }

-- the place of the message that is delivered or lost
abbrev pub found_of : State → Event → Option ℕ
found_of s (Read p x) = None
found_of s (Write p x value) = None
found_of s (Deliver k) = seek k 0 s.flight
found_of s (Crash p) = None
found_of s (Lose k) = seek k 0 s.flight

-- the message at the place that was found, the empty one where none was
abbrev pub message_found : List Message → Option ℕ → Message
message_found messages None = empty_message
message_found messages (Some i) = get_or messages i empty_message

-- the process that takes a step: the event's, or the message's recipient
abbrev pub process_of : Event → Message → Pid
process_of (Read p x) message = p
process_of (Write p x value) message = p
process_of (Deliver k) message = message.to
process_of (Crash p) message = p
process_of (Lose k) message = message.to

-- one of the two ends of a message has crashed
abbrev pub down_of : State → Message → Bool
down_of s message = (replica_of s message.from.0).crashed || (replica_of s message.to.0).crashed
