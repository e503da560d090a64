-- What an accepted event does: its rule, with no guard left. Laws of accepted events are proved over the cases of `Follows`.
use Rattle.std.specs.Prelude.{ℕ, ◌+◌, ◌≡◌, [], ◌∷◌, ◌++◌, ℤ, length, Some}
use Rattle.words.specs.declared.Pid.{Pid}
use Rattle.replica.specs.Answer.{Answer}
use Rattle.replica.specs.Handlers.{read_rule, write_rule, crash_rule}
use Rattle.replica.specs.Numbers.{pointed}
use Rattle.tables.specs.Tables.{seek, removed}
use Rattle.state.specs.declared.Event.{Event}
use Rattle.state.specs.declared.Event.TheVariants.{Read, Write, Deliver, Crash, Lose}
use Rattle.state.specs.State.{State, replica_of}
pub use Rattle.state.specs.Accepted.{message_at, recipient_at as receiver_of, plain_by as rule_by}
use Rattle.state.specs.Step.{moved, without_message, read_row, write_row, answered_rows}

-- ---- the next state, from what the process answered

abbrev pub after_read : State → ℕ → ℕ → Answer → State
after_read s p x answer = moved s p answer s.flight s.delivered (s.rows ++ (read_row p x answer.replica.clock.0 ∷ []))

abbrev pub after_write : State → ℕ → ℕ → ℤ → Answer → State
after_write s p x value answer = moved s p answer s.flight s.delivered (s.rows ++ (write_row p x value answer.replica.clock.0 ∷ []))

abbrev pub after_crash : State → ℕ → Answer → State
after_crash s p answer = moved s p answer s.flight s.delivered s.rows

-- the recipient of the message at place i; the message and the recipient's replica are those of `Accepted`
abbrev pub recipient_of : State → ℕ → ℕ
recipient_of s i = (message_at s i).to.0

abbrev pub after_deliver : State → ℕ → Answer → State
after_deliver s i answer =
    moved s (recipient_of s i) answer (removed i s.flight) (s.delivered + 1)
    (answered_rows s.rows (pointed (receiver_of s i).phase) answer.ended)

-- ---- the rule of an invocation, of a crash, and of a message

abbrev pub read_of : State → Pid → ℕ → Answer
read_of s p x = read_rule (replica_of s p.0) x (length s.rows + 1)

abbrev pub write_of : State → Pid → ℕ → ℤ → Answer
write_of s p x value = write_rule (replica_of s p.0) p x value (length s.rows + 1)

abbrev pub crash_of : State → Pid → Answer
crash_of s p = crash_rule (replica_of s p.0)

abbrev pub rule_at : State → ℕ → Answer
rule_at s i = rule_by s (receiver_of s i) (message_at s i) (message_at s i).body

pub data Follows (s : State) : Event → State → Type 0 where
  reads : (p : Pid) (x : ℕ) → Follows s (Read p x) (after_read s p.0 x (read_of s p x))
  writes : (p : Pid) (x : ℕ) (value : ℤ) → Follows s (Write p x value) (after_write s p.0 x value (write_of s p x value))
  delivers : (k i : ℕ) → seek k 0 s.flight ≡ Some i → Follows s (Deliver k) (after_deliver s i (rule_at s i))
  crashes : (p : Pid) → Follows s (Crash p) (after_crash s p.0 (crash_of s p))
  loses : (k i : ℕ) → seek k 0 s.flight ≡ Some i → Follows s (Lose k) (without_message s i)
