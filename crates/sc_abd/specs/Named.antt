-- Whose replies a row names (document 02, "Wish 4"), told from the run alone: at some moment of it a reply from j was counted for the operation in the row.
use Rattle.std.specs.Prelude.{ℕ, ◌≤◌, ◌≡◌, true, List, ◌∷◌, Some}
use Rattle.words.specs.Quorum.{counted}
use Rattle.words.specs.QuorumLaws.{Inside}
use Rattle.replica.specs.Numbers.{pointed}
use Rattle.tables.specs.declared.Row.{Row}
use Rattle.tables.specs.Tables.{seek}
use Rattle.state.specs.declared.Event.TheVariants.{Deliver}
use Rattle.state.specs.Accepted.{message_at, recipient_at}
use Rattle.state.specs.Counting.{Moment}
use Rattle.moves.specs.Stages.{Stage, is_reply, stage_of, stage_for}

-- at this moment a reply from j was counted for the operation in this row, in this phase: it was delivered to the process that waits for the row, is of
-- the phase that this process is in, and bears its present request number
pub record CountsFor (row j : ℕ) (stage : Stage) (moment : Moment) : Type 0 where
  pub number : ℕ
  pub place : ℕ
  pub event : moment.event ≡ Deliver number
  pub found : seek number 0 moment.before.flight ≡ Some place
  pub reply : is_reply (message_at moment.before place).body ≡ true
  pub of-stage : stage_for (message_at moment.before place).body ≡ stage
  pub sender : (message_at moment.before place).from.0 ≡ j
  pub waits : pointed (recipient_at moment.before place).phase ≡ row
  pub in-stage : stage_of (recipient_at moment.before place).phase ≡ stage
  pub present : (message_at moment.before place).rid.0 ≡ (recipient_at moment.before place).rid.0

pub data CountedFor (row j : ℕ) (stage : Stage) : List Moment → Type 0 where
  now : {moment : Moment} {run : List Moment} → CountsFor row j stage moment → CountedFor row j stage (moment ∷ run)
  earlier : {moment : Moment} {run : List Moment} → CountedFor row j stage run → CountedFor row j stage (moment ∷ run)

-- those whom a row names for a phase; an idle process waits for nobody
abbrev pub named : Row → Stage → ℕ
named r Stage.idle = 0
named r Stage.querying = r.replied.query
named r Stage.updating = r.replied.update

-- one exactly where the other
abbrev pub Exactly : Type 0 → Type 0 → Type 0
Exactly A B = (A → B) × (B → A)

-- at least so many of the processes 1..n
pub record IsQuorum (n least who : ℕ) : Type 0 where
  pub inside : Inside n who
  pub enough : least ≤ counted who
