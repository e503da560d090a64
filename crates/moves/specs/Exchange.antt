-- The exchange, both ways: a live process that waits has with every live process exactly one message in flight or counted reply of its present number.
-- (`Numbered` says at most one, of any two processes.)
use Rattle.std.specs.Prelude.{ℕ, zero, suc, ◌+◌, ◌<◌, ◌≡◌, Bool, true, false, not, length}
use Rattle.words.specs.Quorum.{member}
use Rattle.replica.specs.Handlers.{is_idle}
use Rattle.state.specs.State.{State, replica_of}
use Rattle.state.specs.Accepted.{message_at}
use Rattle.state.specs.Within.{Within}
use Rattle.moves.specs.Lists.{one}
use Rattle.moves.specs.RequestNumbers.{exchanged}
use Rattle.moves.specs.Stages.{is_reply, stage_of, stage_for}

pub record Live (s : State) (p : ℕ) : Type 0 where
  pub process : Within p s.n
  pub up : (replica_of s p).crashed ≡ false

pub record Waits (s : State) (p : ℕ) : Type 0 where
  pub live : Live s p
  pub busy : is_idle (replica_of s p).phase ≡ false

abbrev pub Exchanging : State → Type 0
Exchanging s = (p j : ℕ) → Waits s p → Live s j → exchanged s p j ≡ 1

-- ---- how the exchange of p with j stands, told in three cases

-- the message at place i goes from one to the other, with p's present number and of p's present phase
pub record Flies (s : State) (p i from to : ℕ) : Type 0 where
  pub inside : i < length s.flight
  pub sender : (message_at s i).from.0 ≡ from
  pub recipient : (message_at s i).to.0 ≡ to
  pub present : (message_at s i).rid.0 ≡ (replica_of s p).rid.0
  pub stage : stage_of (replica_of s p).phase ≡ stage_for (message_at s i).body

pub data Stands (s : State) (p j : ℕ) : Type 0 where
  -- j's reply is counted
  counted : member (replica_of s p).repliers j ≡ true → Stands s p j
  -- j's reply is in flight
  replied : (i : ℕ) → Flies s p i j p → is_reply (message_at s i).body ≡ true → Stands s p j
  -- the request to j is in flight
  requested : (i : ℕ) → Flies s p i p j → is_reply (message_at s i).body ≡ false → Stands s p j

-- ---- how many are up

-- how many numbers pass a test, from a on, as many as are left
abbrev pub how_many : (ℕ → Bool) → ℕ → ℕ → ℕ
how_many f a zero = 0
how_many f a (suc left) = one (f a) + how_many f (suc a) left

abbrev pub is_up : State → ℕ → Bool
is_up s p = not (replica_of s p).crashed

abbrev pub up_count : State → ℕ
up_count s = how_many (is_up s) 1 s.n
