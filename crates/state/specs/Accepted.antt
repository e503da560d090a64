-- The next states, by the plain rules: what an event comes to where no guard and no check holds.
use Rattle.std.specs.Prelude.{ℕ, ◌+◌, [], ◌∷◌, ◌++◌, ℤ, length, get_or}
use Rattle.words.specs.declared.Body.{Body}
use Rattle.words.specs.declared.Body.TheVariants.{Query, Response, Update, Ack}
use Rattle.words.specs.declared.Message.{Message}
use Rattle.replica.specs.Answer.{Answer}
use Rattle.replica.specs.declared.Replica.{Replica}
use Rattle.replica.specs.Handlers.{read_rule, write_rule}
use Rattle.replica.specs.Handlers.{query_rule, update_rule}
use Rattle.replica.specs.Handlers.{response_rule, ack_rule}
use Rattle.replica.specs.Handlers.{crash_rule}
use Rattle.replica.specs.Numbers.{pointed}
use Rattle.tables.specs.Tables.{empty_message, removed}
use Rattle.state.specs.State.{State, replica_of}
use Rattle.state.specs.Step.{asked_register}
use Rattle.state.specs.Step.{read_row, write_row, answered_rows, moved}

-- what the plain rules answer to a message
abbrev pub plain_by : State → Replica → Message → Body → Answer
plain_by s r message (Query x) = query_rule r message.from message.time message.rid x
plain_by s r message (Response pair) = response_rule r s.n (asked_register s r.phase) message.from message.time message.rid pair
plain_by s r message (Update x pair) = update_rule r message.from message.time message.rid x pair
plain_by s r message Ack = ack_rule r s.n message.from message.time message.rid

abbrev pub plain : State → Replica → Message → Answer
plain s r message = plain_by s r message message.body

abbrev pub read_next : State → ℕ → ℕ → State
read_next s p x =
    let answer = read_rule (replica_of s p) x (length s.rows + 1) in
    moved s p answer s.flight s.delivered (s.rows ++ (read_row p x answer.replica.clock.0 ∷ []))

abbrev pub write_next : State → ℕ → ℕ → ℤ → State
write_next s p x value =
    let answer = write_rule (replica_of s p) (record { 0 = p }) x value (length s.rows + 1) in
    moved s p answer s.flight s.delivered (s.rows ++ (write_row p x value answer.replica.clock.0 ∷ []))

-- the message at place i of the flight, and the replica that it goes to
abbrev pub message_at : State → ℕ → Message
message_at s i = get_or s.flight i empty_message

abbrev pub recipient_at : State → ℕ → Replica
recipient_at s i = replica_of s (message_at s i).to.0

abbrev pub deliver_next : State → ℕ → State
deliver_next s i =
    let answer = plain s (recipient_at s i) (message_at s i) in
    moved s (message_at s i).to.0 answer (removed i s.flight) (s.delivered + 1)
    (answered_rows s.rows (pointed (recipient_at s i).phase) answer.ended)

abbrev pub crash_next : State → ℕ → State
crash_next s p = moved s p (crash_rule (replica_of s p)) s.flight s.delivered s.rows
