-- The moves of a run: what an accepted event does, as the proof looks at it. One process takes its turn; some messages may be new, and the rows
-- are as before, one more, or one completed. Which messages were taken off does not matter, nor do the rows' sets (`Unnamed`): they are empty.
use Rattle.std.specs.Prelude.{ℕ, ◌+◌, ◌-◌, ◌≤◌, ◌≡◌, Bool, ◌⊎◌, ℤ, length, set}
use Rattle.std.proofs.Common.{ap}
use mathlib.Core.List.{List, [], ◌∷◌, ◌++◌, Memᴰ}
use Rattle.words.specs.declared.Body.TheVariants.{Query, Response, Update, Ack}
use Rattle.words.specs.declared.Message.{Message}
use Rattle.words.specs.declared.Pair.{Pair}
use Rattle.words.specs.Quorum.{joined, counted}
use Rattle.words.specs.Stamps.{stamp_of, newer}
use Rattle.replica.specs.declared.Gathered.{Gathered}
use Rattle.replica.specs.declared.Letter.{Letter}
use Rattle.replica.specs.declared.Phase.{Phase}
use Rattle.replica.specs.declared.Phase.TheVariants.{Idle, Querying, Updating}
use Rattle.replica.specs.declared.Replica.{Replica}
use Rattle.replica.specs.declared.Sends.{Sends}
use Rattle.replica.specs.declared.Sends.TheVariants.{Nothing, Reply, Broadcast}
use Rattle.replica.specs.Clock.{after}
use Rattle.replica.specs.Gathering.{nothing_gathered, gathered_with}
use Rattle.replica.specs.Handlers.{became, stored, broadcast_of, reply_of}
use Rattle.tables.specs.declared.Row.{Row}
use Rattle.state.specs.Needed.{needed}
use Rattle.state.specs.State.{State, replica_of, row_of}
use Rattle.state.specs.Step.{read_row, write_row, completed}

-- ---- the messages of a turn

-- a message of p that bears a letter
pub record Bears (message : Message) (p : ℕ) (letter : Letter) : Type 0 where
  pub sender : message.from.0 ≡ p
  pub time : message.time.0 ≡ letter.time.0
  pub rid : message.rid.0 ≡ letter.rid.0
  pub body : message.body ≡ letter.body

abbrev pub Sent : ℕ → ℕ → Sends → Message → Type 0
Sent n p Nothing message = ⊥
Sent n p (Reply to letter) message = Bears message p letter × (message.to.0 ≡ to.0)
Sent n p (Broadcast letter) message = Bears message p letter × (1 ≤ message.to.0) × (message.to.0 ≤ n)

-- p has become r, some messages may be new, and these are the rows
pub record Turn (s t : State) (p : ℕ) (r : Replica) (sends : Sends) (rows_then : List Row) : Type 0 where
  pub processes : t.n ≡ s.n
  pub registers : t.m ≡ s.m
  pub replicas : length t.replicas ≡ length s.replicas
  pub own : replica_of t p ≡ r
  pub others : (q : ℕ) → 1 ≤ q → (q ≡ p → ⊥) → replica_of t q ≡ replica_of s q
  pub flight : (message : Message) → Memᴰ message t.flight → Memᴰ message s.flight ⊎ Sent s.n p sends message
  pub rows : t.rows ≡ rows_then

-- what p has become, field by field
module _ {s t : State} {p : ℕ} {r : Replica} {sends : Sends} {rows : List Row} (turn : Turn s t p r sends rows) where
  pub own-clock : (replica_of t p).clock.0 ≡ r.clock.0
  own-clock = ap (λ (r : Replica). r.clock.0) turn.own

  pub own-rid : (replica_of t p).rid.0 ≡ r.rid.0
  own-rid = ap (λ (r : Replica). r.rid.0) turn.own

  pub own-phase : (replica_of t p).phase ≡ r.phase
  own-phase = ap (λ (r : Replica). r.phase) turn.own

  pub own-repliers : (replica_of t p).repliers ≡ r.repliers
  own-repliers = ap (λ (r : Replica). r.repliers) turn.own

  pub own-pairs : (replica_of t p).pairs ≡ r.pairs
  own-pairs = ap (λ (r : Replica). r.pairs) turn.own

-- ---- what a move rests on

-- p may begin an operation on x
pub record Ready (s : State) (p x : ℕ) : Type 0 where
  pub least : 1 ≤ p
  pub most : p ≤ s.n
  pub first : 1 ≤ x
  pub last : x ≤ s.m
  pub idle : (replica_of s p).phase ≡ Idle

-- the replica that a message reaches, and its clock then
abbrev pub reached : State → Message → Replica
reached s message = replica_of s message.to.0

abbrev pub clock_then : State → Message → ℕ
clock_then s message = after (reached s message).clock.0 message.time.0

-- the repliers when the message is counted
abbrev pub repliers_then : State → Message → ℕ
repliers_then s message = joined (reached s message).repliers message.from.0

-- a response that counts for row i
pub record Responds (s : State) (message : Message) (i : ℕ) (gathered : Gathered) (pair : Pair) : Type 0 where
  pub flying : Memᴰ message s.flight
  pub body : message.body ≡ Response pair
  pub phase : (reached s message).phase ≡ Querying i gathered
  pub rid : (reached s message).rid.0 ≡ message.rid.0

-- an ack that counts for row i
pub record Acks (s : State) (message : Message) (i : ℕ) (sent : Pair) : Type 0 where
  pub flying : Memᴰ message s.flight
  pub body : message.body ≡ Ack
  pub phase : (reached s message).phase ≡ Updating i sent
  pub rid : (reached s message).rid.0 ≡ message.rid.0

-- ---- the replicas after a move

abbrev pub crashed_as : Bool → Replica → Replica
crashed_as c r =
    record { crashed = c; clock = r.clock; rid = r.rid; phase = r.phase; repliers = r.repliers; pairs = r.pairs }

abbrev pub asking : Replica → ℕ → Replica
asking r i = became r (r.clock.0 + 1) (r.rid.0 + 1) (Querying i nothing_gathered) r.repliers r.pairs

abbrev pub telling : Replica → ℕ → Pair → Replica
telling r i pair = became r (r.clock.0 + 1) (r.rid.0 + 1) (Updating i pair) r.repliers r.pairs

abbrev pub written_pair : Replica → ℕ → ℤ → Pair
written_pair r p value = record { stamp = stamp_of (r.clock.0 + 1) p; value = value }

-- at another clock
abbrev pub later : Replica → ℕ → List Pair → Replica
later r clock pairs = became r clock r.rid.0 r.phase r.repliers pairs

-- a reply was counted
abbrev pub counting : State → Message → Phase → Replica
counting s message phase =
    became (reached s message) (clock_then s message) (reached s message).rid.0 phase (repliers_then s message) (reached s message).pairs

-- the phase has ended: the set is emptied, and the next request number taken
abbrev pub ending : State → Message → Phase → Replica
ending s message phase = became (reached s message) (clock_then s message) ((reached s message).rid.0 + 1) phase 0 (reached s message).pairs

pub data Move (s t : State) : Type 0 where
  -- a crash, a loss, or a message that does not count
  rests : (p : ℕ) (c : Bool) → Turn s t p (crashed_as c (replica_of s p)) Nothing s.rows → Move s t
  reads : (p x : ℕ) → Ready s p x
      → Turn s t p (asking (replica_of s p) (length s.rows + 1))
      (broadcast_of ((replica_of s p).clock.0 + 1) ((replica_of s p).rid.0 + 1) (Query x))
      (s.rows ++ (read_row p x ((replica_of s p).clock.0 + 1) ∷ []))
      → Move s t
  writes : (p x : ℕ) (value : ℤ) → Ready s p x
      → Turn s t p (telling (replica_of s p) (length s.rows + 1) (written_pair (replica_of s p) p value))
      (broadcast_of ((replica_of s p).clock.0 + 1) ((replica_of s p).rid.0 + 1) (Update x (written_pair (replica_of s p) p value)))
      (s.rows ++ (write_row p x value ((replica_of s p).clock.0 + 1) ∷ []))
      → Move s t
  responds : (message : Message) (x : ℕ) → Memᴰ message s.flight → message.body ≡ Query x
      → Turn s t message.to.0 (later (reached s message) (clock_then s message) (reached s message).pairs)
      (reply_of message.from (clock_then s message) message.rid.0 (Response (stored (reached s message) x)))
      s.rows
      → Move s t
  stores : (message : Message) (x : ℕ) (pair : Pair) → Memᴰ message s.flight → message.body ≡ Update x pair
      → Turn s t message.to.0
      (later (reached s message) (clock_then s message) (set (reached s message).pairs (x - 1) (newer (stored (reached s message) x) pair)))
      (reply_of message.from (clock_then s message) message.rid.0 Ack)
      s.rows
      → Move s t
  counts : (message : Message) (i : ℕ) (gathered : Gathered) (pair : Pair) → Responds s message i gathered pair
      → Turn s t message.to.0 (counting s message (Querying i (gathered_with gathered pair))) Nothing s.rows
      → Move s t
  chooses : (message : Message) (i : ℕ) (gathered : Gathered) (pair : Pair) → Responds s message i gathered pair
      → needed s (Querying i gathered) ≤ counted (repliers_then s message)
      → Turn s t message.to.0 (ending s message (Updating i (newer gathered.best pair)))
      (broadcast_of (clock_then s message) ((reached s message).rid.0 + 1) (Update (row_of s i).register (newer gathered.best pair)))
      s.rows
      → Move s t
  gathers : (message : Message) (i : ℕ) (sent : Pair) → Acks s message i sent
      → Turn s t message.to.0 (counting s message (Updating i sent)) Nothing s.rows
      → Move s t
  completes : (message : Message) (i : ℕ) (sent : Pair) → Acks s message i sent
      → needed s (Updating i sent) ≤ counted (repliers_then s message)
      → Turn s t message.to.0 (ending s message Idle) Nothing
      (set s.rows (i - 1) (completed (row_of s i) (record { 0 = clock_then s message }) sent 0))
      → Move s t
