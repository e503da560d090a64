-- The invariant of request numbers. A request and the reply to it are one exchange: an asker, an asked process and a request number. No message has a
-- number that its asker has not yet reached; one with its asker's present number is of the asker's present phase; and with each process the asker has
-- at most one exchange of its present number, which is a message in flight or a counted reply.
use Rattle.std.specs.Prelude.{ℕ, ◌+◌, ◌≤◌, ◌≡◌, Bool, ◌&&◌, eqb}
use Rattle.words.specs.declared.Message.{Message}
use Rattle.words.specs.Quorum.{member}
use Rattle.replica.specs.declared.Replica.{Replica}
use Rattle.state.specs.State.{State, replica_of}
use Rattle.moves.specs.Lists.{one, All, count_if}
use Rattle.moves.specs.Stages.{asker, asked, stage_of, stage_for}

-- a message, against the replica of its asker
pub record Timely (r : Replica) (m : Message) : Type 0 where
  pub reached : m.rid.0 ≤ r.rid.0
  pub present : m.rid.0 ≡ r.rid.0 → stage_of r.phase ≡ stage_for m.body

-- a message of the exchange of p with j of this number
abbrev pub is_of : ℕ → ℕ → ℕ → Message → Bool
is_of p j rid m = eqb (asker m) p && (eqb (asked m) j && eqb m.rid.0 rid)

-- the messages in flight of the exchange of p with j of p's present number, and 1 if j's reply is counted
abbrev pub exchanged : State → ℕ → ℕ → ℕ
exchanged s p j = count_if (is_of p j (replica_of s p).rid.0) s.flight + one (member (replica_of s p).repliers j)

abbrev pub Known : State → Message → Type 0
Known s m = (1 ≤ asker m) × Timely (replica_of s (asker m)) m

pub record Numbered (s : State) : Type 0 where
  pub timely : All (Known s) s.flight
  pub once : (p j : ℕ) → 1 ≤ p → exchanged s p j ≤ 1
