-- What an accepted event does: one case for each thing that can happen, with what it needed, the place in the flight that was taken off, what the process
-- became, what it sent, and what became of the rows. The limit of 12,000 events stands apart (`Free`).
use Rattle.std.specs.Prelude.{ℕ, ◌+◌, ◌-◌, ◌≤◌, ◌<◌, ◌≡◌, true, false, ◌||◌, List, [], ◌∷◌, ◌++◌, ℤ, length, set, Some}
use Rattle.words.specs.declared.Body.{Body}
use Rattle.words.specs.declared.Body.TheVariants.{Query, Response, Update, Ack}
use Rattle.words.specs.declared.Pair.{Pair}
use Rattle.words.specs.declared.Pid.{Pid}
use Rattle.words.specs.Limits.{most_flight, most_rows}
use Rattle.words.specs.Quorum.{joined, counted}
use Rattle.words.specs.Stamps.{stamp_of, newer}
use Rattle.replica.specs.declared.Ended.TheVariants.{Pending}
use Rattle.replica.specs.declared.Gathered.{Gathered}
use Rattle.replica.specs.declared.Phase.{Phase}
use Rattle.replica.specs.declared.Phase.TheVariants.{Idle, Querying, Updating}
use Rattle.replica.specs.declared.Replica.{Replica}
use Rattle.replica.specs.declared.Sends.{Sends}
use Rattle.replica.specs.declared.Sends.TheVariants.{Nothing}
use Rattle.replica.specs.Clock.{after}
use Rattle.replica.specs.Gathering.{nothing_gathered, gathered_with}
use Rattle.replica.specs.Handlers.{broadcast_of, reply_of, stored, became as placed}
use Rattle.replica.specs.Answer.{accepted}
use Rattle.tables.specs.declared.Row.{Row}
use Rattle.tables.specs.Tables.{seek, removed}
use Rattle.state.specs.declared.Event.{Event}
use Rattle.state.specs.declared.Event.TheVariants.{Read, Write, Deliver, Crash, Lose}
use Rattle.state.specs.State.{State, replica_of, row_of}
use Rattle.state.specs.Step.{read_row, write_row, queried_row, completed, moved, without_message}
use Rattle.state.specs.Accepted.{message_at, recipient_at}
use Rattle.state.specs.Within.{Within}
use Rattle.state.specs.Needed.{needed}
use Rattle.moves.specs.Stages.{is_reply, stage_of, stage_for}

-- ---- an operation begins: its process takes the next clock and the next request number, and sends its request to all

-- p may begin an operation on x
pub record Begins (s : State) (p x : ℕ) : Type 0 where
  pub actor : Within p s.n
  pub register : Within x s.m
  pub up : (replica_of s p).crashed ≡ false
  pub idle : (replica_of s p).phase ≡ Idle
  pub rows : length s.rows < most_rows
  pub room : length s.flight + s.n ≤ most_flight

abbrev pub new_row : State → ℕ
new_row s = length s.rows + 1

abbrev pub next_clock : State → ℕ → ℕ
next_clock s p = (replica_of s p).clock.0 + 1

abbrev pub next_rid : State → ℕ → ℕ
next_rid s p = (replica_of s p).rid.0 + 1

abbrev pub beginning : State → ℕ → Phase → Replica
beginning s p phase = placed (replica_of s p) (next_clock s p) (next_rid s p) phase (replica_of s p).repliers (replica_of s p).pairs

abbrev pub asking : State → ℕ → Body → Sends
asking s p request = broadcast_of (next_clock s p) (next_rid s p) request

-- p has this phase and sends this request, and the row is new
abbrev pub begun : State → ℕ → Phase → Body → Row → State
begun s p phase request row =
    moved s p (accepted (beginning s p phase) (asking s p request) Pending) s.flight s.delivered (s.rows ++ (row ∷ []))

-- the pair of a write
abbrev pub written_by : State → ℕ → ℤ → Pair
written_by s p value = record { stamp = stamp_of (next_clock s p) p; value = value }

-- ---- the message at place i is delivered

-- message k is at place i, its recipient is up, and there is room for as many as are sent
pub record Delivers (s : State) (k i count : ℕ) : Type 0 where
  pub found : seek k 0 s.flight ≡ Some i
  pub up : (recipient_at s i).crashed ≡ false
  pub room : length s.flight - 1 + count ≤ most_flight

abbrev pub clock_then : State → ℕ → ℕ
clock_then s i = after (recipient_at s i).clock.0 (message_at s i).time.0

-- the repliers when its sender is counted
abbrev pub repliers_then : State → ℕ → ℕ
repliers_then s i = joined (recipient_at s i).repliers (message_at s i).from.0

-- the recipient: at a later clock, with these pairs
abbrev pub hearing : State → ℕ → List Pair → Replica
hearing s i pairs =
    placed (recipient_at s i) (clock_then s i) (recipient_at s i).rid.0 (recipient_at s i).phase (recipient_at s i).repliers pairs

-- the sender is counted, and the phase has not ended
abbrev pub counting : State → ℕ → Phase → Replica
counting s i phase = placed (recipient_at s i) (clock_then s i) (recipient_at s i).rid.0 phase (repliers_then s i) (recipient_at s i).pairs

-- the phase has ended: the set is emptied, and the next request number taken
abbrev pub ending : State → ℕ → Phase → Replica
ending s i phase = placed (recipient_at s i) (clock_then s i) ((recipient_at s i).rid.0 + 1) phase 0 (recipient_at s i).pairs

-- a reply bears the request's number and the new clock
abbrev pub replying : State → ℕ → Body → Sends
replying s i body = reply_of (message_at s i).from (clock_then s i) (message_at s i).rid.0 body

-- the update with the pair that was chosen
abbrev pub telling : State → ℕ → ℕ → Pair → Sends
telling s i x pair = broadcast_of (clock_then s i) ((recipient_at s i).rid.0 + 1) (Update x pair)

-- the recipient becomes r and sends these, the message is taken off, and these are the rows
abbrev pub arrived : State → ℕ → Replica → Sends → List Row → State
arrived s i r sends rows =
    moved s (message_at s i).to.0 (accepted r sends Pending) (removed i s.flight) (s.delivered + 1) rows

-- a response that counts for the operation in row `row`
pub record Responds (s : State) (i row : ℕ) (gathered : Gathered) (pair : Pair) : Type 0 where
  pub body : (message_at s i).body ≡ Response pair
  pub phase : (recipient_at s i).phase ≡ Querying row gathered
  pub present : (message_at s i).rid.0 ≡ (recipient_at s i).rid.0

-- an ack that counts for it
pub record Acks (s : State) (i row : ℕ) (sent : Pair) : Type 0 where
  pub body : (message_at s i).body ≡ Ack
  pub phase : (recipient_at s i).phase ≡ Updating row sent
  pub present : (message_at s i).rid.0 ≡ (recipient_at s i).rid.0

-- a reply of another phase or another request number than its recipient's present one
pub record Discarded (s : State) (i : ℕ) : Type 0 where
  pub reply : is_reply (message_at s i).body ≡ true
  pub another : stage_of (recipient_at s i).phase ≡ stage_for (message_at s i).body → (message_at s i).rid.0 ≡ (recipient_at s i).rid.0 → ⊥

-- ---- a process crashes

abbrev pub down_now : Replica → Replica
down_now r = record { crashed = true; clock = r.clock; rid = r.rid; phase = r.phase; repliers = r.repliers; pairs = r.pairs }

abbrev pub crashed_now : State → ℕ → State
crashed_now s p = moved s p (accepted (down_now (replica_of s p)) Nothing Pending) s.flight s.delivered s.rows

-- ---- the moves

pub data Move (s : State) : Event → State → Type 0 where
  -- a read begins: it queries
  reads : (p : Pid) (x : ℕ) → Begins s p.0 x
      → Move s (Read p x) (begun s p.0 (Querying (new_row s) nothing_gathered) (Query x) (read_row p.0 x (next_clock s p.0)))
  -- a write begins: it updates with its own stamp
  writes : (p : Pid) (x : ℕ) (value : ℤ) → Begins s p.0 x
      → Move s (Write p x value)
      (begun s p.0 (Updating (new_row s) (written_by s p.0 value)) (Update x (written_by s p.0 value)) (write_row p.0 x value (next_clock s p.0)))
  -- a query is replied to with the stored pair
  responds : (k i x : ℕ) → Delivers s k i 1 → (message_at s i).body ≡ Query x
      → Move s (Deliver k) (arrived s i (hearing s i (recipient_at s i).pairs) (replying s i (Response (stored (recipient_at s i) x))) s.rows)
  -- an update is stored where its stamp is greater, and acked
  stores : (k i x : ℕ) (pair : Pair) → Delivers s k i 1 → (message_at s i).body ≡ Update x pair
      → Move s (Deliver k)
      (arrived s i (hearing s i (set (recipient_at s i).pairs (x - 1) (newer (stored (recipient_at s i) x) pair))) (replying s i Ack) s.rows)
  -- a reply that does not count is taken off, and nothing else changes
  discards : (k i : ℕ) → Delivers s k i 0 → Discarded s i → Move s (Deliver k) (arrived s i (recipient_at s i) Nothing s.rows)
  -- a response is counted, and more are needed
  counts : (k i row : ℕ) (gathered : Gathered) (pair : Pair) → Delivers s k i 0 → Responds s i row gathered pair
      → counted (repliers_then s i) < needed s (Querying row gathered)
      → Move s (Deliver k) (arrived s i (counting s i (Querying row (gathered_with gathered pair))) Nothing s.rows)
  -- a response ends the query phase: the greatest pair is chosen, all are told, and the row names those who replied
  chooses : (k i row : ℕ) (gathered : Gathered) (pair : Pair) → Delivers s k i s.n → Responds s i row gathered pair
      → needed s (Querying row gathered) ≤ counted (repliers_then s i)
      → Move s (Deliver k)
      (arrived s i (ending s i (Updating row (newer gathered.best pair))) (telling s i (row_of s row).register (newer gathered.best pair))
      (set s.rows (row - 1) (queried_row (row_of s row) (repliers_then s i))))
  -- an ack is counted, and more are needed
  gathers : (k i row : ℕ) (sent : Pair) → Delivers s k i 0 → Acks s i row sent → counted (repliers_then s i) < needed s (Updating row sent)
      → Move s (Deliver k) (arrived s i (counting s i (Updating row sent)) Nothing s.rows)
  -- an ack ends the update phase: the operation completes at this clock, and the row names those who acked
  completes : (k i row : ℕ) (sent : Pair) → Delivers s k i 0 → Acks s i row sent → needed s (Updating row sent) ≤ counted (repliers_then s i)
      → Move s (Deliver k)
      (arrived s i (ending s i Idle) Nothing (set s.rows (row - 1) (completed (row_of s row) (record { 0 = clock_then s i }) sent (repliers_then s i))))
  -- a process crashes, and takes no further step
  crashes : (p : Pid) → Within p.0 s.n → (replica_of s p.0).crashed ≡ false → Move s (Crash p) (crashed_now s p.0)
  -- a message from or to a crashed process is lost
  loses : (k i : ℕ) → seek k 0 s.flight ≡ Some i → ((replica_of s (message_at s i).from.0).crashed || (recipient_at s i).crashed) ≡ true
      → Move s (Lose k) (without_message s i)
