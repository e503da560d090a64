-- What a move makes of the exchange of p with j, and of the messages in flight.
use Rattle.std.specs.Prelude.{ℕ, ◌+◌, ◌≤◌, ◌≡◌, true, false, ◌||◌}
use Rattle.replica.specs.declared.Phase.TheVariants.{Idle}
use Rattle.state.specs.State.{State, replica_of}
use Rattle.state.specs.Within.{Within}
use Rattle.moves.specs.Lists.{All}
use Rattle.moves.specs.Stages.{stage_of}
use Rattle.moves.specs.RequestNumbers.{exchanged, Known}

-- p is at the number and in the phase in which it was
abbrev pub Stays : State → State → ℕ → Type 0
Stays s t p = ((replica_of t p).rid.0 ≡ (replica_of s p).rid.0) × (stage_of (replica_of t p).phase ≡ stage_of (replica_of s p).phase)

-- p is at the next number
abbrev pub GoesOn : State → State → ℕ → Type 0
GoesOn s t p = (replica_of t p).rid.0 ≡ (replica_of s p).rid.0 + 1

pub data Effect (s t : State) (p j : ℕ) : Type 0 where
  -- nothing
  kept : Stays s t p → exchanged t p j ≡ exchanged s p j → Effect s t p j
  -- p asks all
  asked : GoesOn s t p → exchanged t p j ≤ 1 → (Within j s.n → exchanged t p j ≡ 1) → Effect s t p j
  -- p is done
  ended : GoesOn s t p → (replica_of t p).phase ≡ Idle → exchanged t p j ≡ 0 → Effect s t p j
  -- a message of it may be lost, since one of the two is down
  lost : Stays s t p → ((replica_of s p).crashed || (replica_of s j).crashed) ≡ true → exchanged t p j ≤ exchanged s p j → Effect s t p j

pub record After (s t : State) : Type 0 where
  pub processes : t.n ≡ s.n
  pub down : (p : ℕ) → 1 ≤ p → (replica_of t p).crashed ≡ false → (replica_of s p).crashed ≡ false
  pub timely : All (Known t) t.flight
  pub effect : (p j : ℕ) → 1 ≤ p → Effect s t p j
