-- The plan of an event: what is to be carried out on the bench and its tables, or the number of the refusal. `StepLaws` of the crate above says
-- that it is what `step` says.
use Rattle.std.specs.Prelude.{ℕ, ◌+◌, ◌-◌, cond, eqb, ℤ, length, get_or, Option, Some, None, Result, Ok, Err}
use Rattle.words.specs.declared.Message.{Message}
use Rattle.words.specs.declared.Pid.{Pid}
use Rattle.words.specs.declared.refusal.Refusal.{Refusal}
use Rattle.words.specs.Refusals.{number}
use Rattle.replica.specs.Answer.{Answer}
use Rattle.replica.specs.declared.Ended.{Ended}
use Rattle.replica.specs.declared.Ended.TheVariants.{Pending, Query as Queried, At}
use Rattle.replica.specs.declared.Replica.{Replica}
use Rattle.replica.specs.declared.Sends.{Sends}
use Rattle.replica.specs.declared.Sends.TheVariants.{Nothing, Reply, Broadcast}
use Rattle.replica.specs.Handlers.{read_begun, write_begun, crashed}
use Rattle.replica.specs.Numbers.{pointed}
use Rattle.tables.specs.declared.Row.{Row}
use Rattle.tables.specs.Tables.{empty_message, seek}
use Rattle.state.specs.declared.Event.{Event}
use Rattle.state.specs.declared.Event.TheVariants.{Read, Write, Deliver, Crash, Lose}
use Rattle.state.specs.State.{State, replica_of, row_of}
use Rattle.state.specs.Step.{message_of, read_row, write_row, completed, queried_row, check, full, invoke_refusal, found_refusal, deliver_refusal, crash_refusal, lose_refusal, heard}
use Rattle.decide.specs.declared.Plan.{Plan}
use Rattle.decide.specs.declared.View.{View}

-- the state that is looked at
abbrev pub seen : View → State
seen v =
    record {
      n = v.bench.now.n;
      m = v.bench.now.m;
      accepted = v.bench.now.accepted;
      sent = v.bench.now.sent;
      delivered = v.bench.now.delivered;
      lost = v.bench.now.lost;
      replicas = v.bench.now.replicas;
      flight = v.flight.now;
      rows = v.rows.now;
    }

-- ---- document 01's numbers

abbrev pub numbered : {A : Type 0} → Result A Refusal → Result A ℕ
numbered (Ok x) = Ok x
numbered (Err e) = Err (number e)

-- the first check that holds, and a later one where none does
abbrev pub checked : {A : Type 0} → Result A Refusal → ℕ → ℕ
checked (Ok x) later = later
checked (Err e) later = number e

-- by the number of a refusal, 0 if it is accepted
abbrev pub settled : ℕ → Plan → Result Plan ℕ
settled number plan = cond (eqb number 0) (Ok plan) (Err number)

-- ---- the parts

-- the first of the messages that are sent, and how many they are: the others follow it
abbrev pub posted_by : State → Pid → Sends → Option (Message × ℕ)
posted_by s from Nothing = None
posted_by s from (Reply to letter) = Some (message_of (s.sent + 1) from.0 to.0 letter, 1)
posted_by s from (Broadcast letter) = Some (message_of (s.sent + 1) from.0 1 letter, s.n)

-- the row that an answer writes: none where no phase ended, else the one that the replica pointed to
abbrev pub written_by : State → ℕ → Ended → Option (ℕ × Row)
written_by s number Pending = None
written_by s number (Queried who) = Some (number - 1, queried_row (row_of s number) who)
written_by s number (At time pair who) = Some (number - 1, completed (row_of s number) time pair who)

-- p's answer, the place of the message that it answers, if it answers one, and the row that is written
abbrev pub accepted_plan : State → Pid → Option ℕ → Answer → Option (ℕ × Row) → Plan
accepted_plan s p taken answer row =
    record {
      replica = Some (p, answer.replica);
      taken = taken;
      posted = posted_by s p answer.sends;
      row = row;
    }

-- ---- the events

-- a read is begun, or the write of a value
abbrev pub begun : Replica → Pid → ℕ → ℕ → Option ℤ → Answer
begun r p x number None = read_begun r x number
begun r p x number (Some value) = write_begun r p x value number

abbrev pub begun_row : Pid → ℕ → ℕ → Option ℤ → Row
begun_row p x clock None = read_row p.0 x clock
begun_row p x clock (Some value) = write_row p.0 x value clock

unfoldable pub invoke_plan : State → Pid → ℕ → Option ℤ → Result Plan ℕ
invoke_plan s p x written =
    let answer = begun (replica_of s p.0) p x (length s.rows + 1) written in
    settled (invoke_refusal s p.0 x answer.refusal)
    (accepted_plan s p None answer (Some (length s.rows, begun_row p x answer.replica.clock.0 written)))

unfoldable pub deliver_plan : State → Option ℕ → Result Plan ℕ
deliver_plan s None = Err (check (full s) 17 (found_refusal None))
deliver_plan s (Some i) =
    let message = get_or s.flight i empty_message in
    let r = replica_of s message.to.0 in
    let answer = heard s r message in
    settled (check (full s) 17 (deliver_refusal s r answer))
    (accepted_plan s message.to (Some i) answer (written_by s (pointed r.phase) answer.ended))

unfoldable pub crash_plan : State → Pid → Result Plan ℕ
crash_plan s p =
    let answer = crashed (replica_of s p.0) in
    settled (crash_refusal s p.0 answer.refusal) (accepted_plan s p None answer None)

-- a lost message changes no replica
unfoldable pub lose_plan : State → Option ℕ → Result Plan ℕ
lose_plan s None = Err (check (full s) 17 (found_refusal None))
lose_plan s (Some i) =
    settled (check (full s) 17 (lose_refusal s (get_or s.flight i empty_message))) (record { replica = None; taken = Some i; posted = None; row = None })

unfoldable pub plan_of : State → Event → Result Plan ℕ
plan_of s (Read p x) = invoke_plan s p x None
plan_of s (Write p x value) = invoke_plan s p x (Some value)
plan_of s (Deliver k) = deliver_plan s (seek k 0 s.flight)
plan_of s (Crash p) = crash_plan s p
plan_of s (Lose k) = lose_plan s (seek k 0 s.flight)
