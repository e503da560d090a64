-- Document 01: "At every moment the messages sent (N for each invocation, 1 for each request delivered, N for each query majority) equal those
-- delivered, plus those lost, plus those in flight; the first three are counted over the events, the last over the table." Here they are counted
-- over the events: nothing below reads a counter of the state or what a handler sends. The rule is asked of any bench f, so that it is a promise and
-- not a description of ours.
use Rattle.std.specs.Prelude.{ℕ, ◌+◌, ◌≡◌, Bool, true, false, cond, ◌&&◌, List, [], ◌∷◌, eqb, leb, length, Option, Some, None}
use Rattle.words.specs.declared.Body.{Body}
use Rattle.words.specs.declared.Body.TheVariants.{Query, Response, Update, Ack}
use Rattle.words.specs.declared.Message.{Message}
use Rattle.words.specs.Quorum.{joined, counted}
use Rattle.words.specs.Ranges.{within}
use Rattle.replica.specs.declared.Phase.{Phase}
use Rattle.replica.specs.declared.Phase.TheVariants.{Idle, Querying, Updating}
use Rattle.replica.specs.declared.Replica.{Replica}
use Rattle.tables.specs.Tables.{seek}
use Rattle.state.specs.declared.Event.{Event}
use Rattle.state.specs.declared.Event.TheVariants.{Read, Write, Deliver, Crash, Lose}
use Rattle.state.specs.Needed.{needed}
use Rattle.state.specs.State.{State, fresh}
use Rattle.state.specs.Step.{Outcome, step}
use Rattle.state.specs.Follows.{message_at, receiver_of}

-- ---- a run of a bench: the accepted events from a fresh start, each with the state before it, the latest first

pub record Moment : Type 0 where
  pub before : State
  pub event : Event

pub data RunBy (f : State → Event → Outcome) : State → List Moment → Type 0 where
  begun : (n m : ℕ) → within n 7 ≡ true → within m 16 ≡ true → RunBy f (fresh n m) []
  then : (s : State) (e : Event) (run : List Moment) → RunBy f s run → (f s e).refusal ≡ 0
      → RunBy f (f s e).state (record { before = s; event = e } ∷ run)

-- of our bench
abbrev pub Run : State → List Moment → Type 0
Run = RunBy step

-- ---- what one event sends, delivers, loses

abbrev pub is_querying : Phase → Bool
is_querying Idle = false
is_querying (Querying row gathered) = true
is_querying (Updating row sent) = false

-- with the sender the repliers are as many as end the phase: a majority
abbrev pub makes_majority : State → Replica → Message → Bool
makes_majority s r message = leb (needed s r.phase) (counted (joined r.repliers message.from.0))

-- a response counts while querying and with the present request number; this one counts and makes a majority
abbrev pub makes_query_majority : State → Replica → Message → Bool
makes_query_majority s r message = is_querying r.phase && eqb message.rid.0 r.rid.0 && makes_majority s r message

abbrev pub sent_on_receipt : State → Replica → Message → Body → ℕ
sent_on_receipt s r message (Query x) = 1
sent_on_receipt s r message (Response pair) = cond (makes_query_majority s r message) s.n 0
sent_on_receipt s r message (Update x pair) = 1
sent_on_receipt s r message Ack = 0

abbrev pub sent_on_found : State → Option ℕ → ℕ
sent_on_found s None = 0
sent_on_found s (Some i) = sent_on_receipt s (receiver_of s i) (message_at s i) (message_at s i).body

abbrev pub sent_at : State → Event → ℕ
sent_at s (Read p x) = s.n
sent_at s (Write p x value) = s.n
sent_at s (Deliver k) = sent_on_found s (seek k 0 s.flight)
sent_at s (Crash p) = 0
sent_at s (Lose k) = 0

abbrev pub delivered_at : Event → ℕ
delivered_at (Read p x) = 0
delivered_at (Write p x value) = 0
delivered_at (Deliver k) = 1
delivered_at (Crash p) = 0
delivered_at (Lose k) = 0

abbrev pub lost_at : Event → ℕ
lost_at (Read p x) = 0
lost_at (Write p x value) = 0
lost_at (Deliver k) = 0
lost_at (Crash p) = 0
lost_at (Lose k) = 1

-- ---- over a run

abbrev pub sent_over : List Moment → ℕ
sent_over [] = 0
sent_over (moment ∷ run) = sent_over run + sent_at moment.before moment.event

abbrev pub delivered_over : List Moment → ℕ
delivered_over [] = 0
delivered_over (moment ∷ run) = delivered_over run + delivered_at moment.event

abbrev pub lost_over : List Moment → ℕ
lost_over [] = 0
lost_over (moment ∷ run) = lost_over run + lost_at moment.event

-- the counters are the sums, and what was sent is delivered, lost or in the table
pub record Counted (s : State) (run : List Moment) : Type 0 where
  pub accepted : s.accepted ≡ length run
  pub sent : s.sent ≡ sent_over run
  pub delivered : s.delivered ≡ delivered_over run
  pub lost : s.lost ≡ lost_over run
  pub balance : sent_over run ≡ delivered_over run + lost_over run + length s.flight

-- the counting rule: so it is at every moment of every run
abbrev pub CountingRule : (State → Event → Outcome) → Type 0
CountingRule f = (s : State) (run : List Moment) → RunBy f s run → Counted s run
