-- One event, the limit of 12,000 set aside: the checks of document 01 but 17, and the plain rules, without the guards by which a handler keeps to the ranges that
-- follow from the limit.
use Rattle.std.specs.Prelude.{ℕ, ◌+◌, ◌-◌, ◌≡◌, true, not, leb, length, Option, Some, None}
use Rattle.words.specs.Limits.{most_rows}
use Rattle.words.specs.Ranges.{within}
use Rattle.replica.specs.Handlers.{is_idle}
use Rattle.replica.specs.Numbers.{sent_by}
use Rattle.tables.specs.Tables.{seek}
use Rattle.state.specs.declared.Event.{Event}
use Rattle.state.specs.declared.Event.TheVariants.{Read, Write, Deliver, Crash, Lose}
use Rattle.state.specs.State.{State, replica_of, fresh}
use Rattle.state.specs.Step.{Outcome, outcome, check, no_room, lose_at}
use Rattle.state.specs.Accepted.{message_at, recipient_at, plain, read_next, write_next, deliver_next, crash_next}

abbrev pub free_invoke : State → ℕ → ℕ → ℕ
free_invoke s p x =
    check (not (within p s.n)) 8
    (check (not (within x s.m)) 9
    (check (replica_of s p).crashed 10
    (check (not (is_idle (replica_of s p).phase)) 11
    (check (leb most_rows (length s.rows)) 16
    (check (no_room (length s.flight + s.n)) 15 0)))))

abbrev pub free_receive : State → ℕ → ℕ
free_receive s i =
    check (recipient_at s i).crashed 13
    (check (no_room (length s.flight - 1 + sent_by s.n (plain s (recipient_at s i) (message_at s i)).sends)) 15 0)

abbrev pub free_deliver : State → Option ℕ → Outcome
free_deliver s None = outcome s 12 s
free_deliver s (Some i) = outcome s (free_receive s i) (deliver_next s i)

abbrev pub free_crash : State → ℕ → ℕ
free_crash s p = check (not (within p s.n)) 8 (check (replica_of s p).crashed 10 0)

unfoldable pub free_step : State → Event → Outcome
free_step s (Read p x) = outcome s (free_invoke s p.0 x) (read_next s p.0 x)
free_step s (Write p x value) = outcome s (free_invoke s p.0 x) (write_next s p.0 x value)
free_step s (Deliver k) = free_deliver s (seek k 0 s.flight)
free_step s (Crash p) = outcome s (free_crash s p.0) (crash_next s p.0)
free_step s (Lose k) = lose_at s (seek k 0 s.flight)

-- the states that such events give from a fresh start
pub data FreelyReached : State → Type 0 where
  start : (n m : ℕ) → within n 7 ≡ true → within m 16 ≡ true → FreelyReached (fresh n m)
  next : (s : State) (e : Event) → FreelyReached s → (free_step s e).refusal ≡ 0 → FreelyReached (free_step s e).state
