-- The part of well-formedness that no limit of events has a share in: seven replicas, senders and recipients 1..N, and of each process a set of
-- repliers inside 1..N, with fewer than its phase needs, and none while it is idle.
use Rattle.std.specs.Prelude.{ℕ, ◌<◌, ◌≡◌, length}
use Rattle.words.specs.declared.Message.{Message}
use Rattle.words.specs.Quorum.{counted}
use Rattle.words.specs.QuorumLaws.{Inside}
use Rattle.replica.specs.declared.Phase.TheVariants.{Idle}
use Rattle.replica.specs.declared.Replica.{Replica}
use Rattle.state.specs.State.{State, replica_of}
use Rattle.state.specs.Within.{Within}
use Rattle.moves.specs.Lists.{All}
use Rattle.state.specs.Needed.{needed}

pub record Ends (n : ℕ) (m : Message) : Type 0 where
  pub sender : Within m.from.0 n
  pub recipient : Within m.to.0 n

pub record SetFits (s : State) (r : Replica) : Type 0 where
  pub inside : Inside s.n r.repliers
  pub few : counted r.repliers < needed s r.phase
  pub empty : r.phase ≡ Idle → r.repliers ≡ 0

pub record Placed (s : State) : Type 0 where
  pub processes : Within s.n 7
  pub seven : length s.replicas ≡ 7
  pub messages : All (Ends s.n) s.flight
  pub sets : (p : ℕ) → Within p s.n → SetFits s (replica_of s p)
