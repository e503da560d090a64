-- Who has replied, told from the run alone: at some moment of it a message from j to p was delivered, a reply of this request number and this phase.
use Rattle.std.specs.Prelude.{ℕ, ◌+◌, ◌-◌, ◌≤◌, ◌≡◌, true, List, ◌∷◌, get_or, Some}
use Rattle.words.specs.Quorum.{member, counted}
use Rattle.words.specs.QuorumLaws.{Inside}
use Rattle.replica.specs.declared.Phase.{Phase}
use Rattle.replica.specs.declared.Phase.TheVariants.{Idle, Querying, Updating}
use Rattle.replica.specs.declared.Replica.{Replica}
use Rattle.tables.specs.declared.Kind.{Kind}
use Rattle.tables.specs.declared.Kind.TheVariants.{Read}
use Rattle.tables.specs.declared.Row.{Row}
use Rattle.tables.specs.Tables.{empty_row, seek}
use Rattle.state.specs.declared.Event.{Event}
use Rattle.state.specs.declared.Event.TheVariants.{Deliver}
use Rattle.state.specs.Needed.{responses_needed, acks_needed}
use Rattle.state.specs.State.{State, replica_of}
use Rattle.state.specs.Accepted.{message_at}
use Rattle.state.specs.Counting.{Moment}
use Rattle.state.specs.Within.{Within}
use Rattle.moves.specs.Stages.{Stage, is_reply, stage_of, stage_for}

-- at this moment a reply from j was delivered to p
pub record Receives (p j rid : ℕ) (stage : Stage) (moment : Moment) : Type 0 where
  pub number : ℕ
  pub place : ℕ
  pub event : moment.event ≡ Deliver number
  pub found : seek number 0 moment.before.flight ≡ Some place
  pub reply : is_reply (message_at moment.before place).body ≡ true
  pub of-stage : stage_for (message_at moment.before place).body ≡ stage
  pub sender : (message_at moment.before place).from.0 ≡ j
  pub recipient : (message_at moment.before place).to.0 ≡ p
  pub request : (message_at moment.before place).rid.0 ≡ rid

pub data Replied (p j rid : ℕ) (stage : Stage) : List Moment → Type 0 where
  now : {moment : Moment} {run : List Moment} → Receives p j rid stage moment → Replied p j rid stage (moment ∷ run)
  earlier : {moment : Moment} {run : List Moment} → Replied p j rid stage run → Replied p j rid stage (moment ∷ run)

-- at least so many of the processes 1..n have replied to p's request of this number and phase, each at a moment of the run
pub record QuorumReplied (n least p rid : ℕ) (stage : Stage) (run : List Moment) : Type 0 where
  pub processes : ℕ
  pub inside : Inside n processes
  pub enough : least ≤ counted processes
  pub each : (j : ℕ) → member processes j ≡ true → Replied p j rid stage run

-- p's request before the one of this number was a query, and so many have responded to it
pub record Queried (n least p rid : ℕ) (run : List Moment) : Type 0 where
  pub query : ℕ
  pub next : rid ≡ query + 1
  pub responded : QuorumReplied n least p query Stage.querying run

-- an operation of p that completes at the last moment, with this request number: as many as end an update phase (a majority) have acked it, and before
-- that, of a read, as many as end a query phase (a majority) have responded to its query
pub record Majorities (s : State) (p rid : ℕ) (kind : Kind) (run : List Moment) (last : Moment) : Type 0 where
  pub responses : kind ≡ Read → Queried s.n (responses_needed s) p rid run
  pub acks : QuorumReplied s.n (acks_needed s) p rid Stage.updating (last ∷ run)

-- ---- what is kept over a run

-- each member of p's set has replied to p's present request
abbrev pub Filled : ℕ → Replica → List Moment → Type 0
Filled p r run = (j : ℕ) → member r.repliers j ≡ true → Replied p j r.rid.0 (stage_of r.phase) run

pub record AllFilled (s : State) (run : List Moment) : Type 0 where
  pub each : (p : ℕ) → 1 ≤ p → Filled p (replica_of s p) run

-- p updates for a read
abbrev pub UpdatesRead : List Row → Phase → Type 0
UpdatesRead rows Idle = ⊥
UpdatesRead rows (Querying row gathered) = ⊥
UpdatesRead rows (Updating row sent) = (get_or rows (row - 1) empty_row).kind ≡ Read

-- then it has queried before
pub record AllQueried (s : State) (run : List Moment) : Type 0 where
  pub each : (p : ℕ) → Within p s.n → UpdatesRead s.rows (replica_of s p).phase → Queried s.n (responses_needed s) p (replica_of s p).rid.0 run

-- one moment more
abbrev pub longer : State → Event → List Moment → List Moment
longer s e run = record { before = s; event = e } ∷ run
