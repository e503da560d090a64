-- What holds of every state of a run, beside what its processes held: the invariant. It is said of each process, message and row by itself, so
-- that a move has to be looked at only where it changes one. A message is bound only while its request is the one that its process waits for.
use Rattle.std.specs.Prelude.{ℕ, suc, ◌≤◌, ◌<◌, ◌≡◌, true, cond, ◌⊎◌, length, get_or}
use Rattle.std.proofs.Common.{subst}
use mathlib.Core.List.{List, Memᴰ}
use Rattle.words.specs.declared.Body.{Body}
use Rattle.words.specs.declared.Body.TheVariants.{Query, Response, Update, Ack}
use Rattle.words.specs.declared.Message.{Message}
use Rattle.words.specs.declared.Pair.{Pair}
use Rattle.words.specs.declared.Stamp.{Stamp}
use Rattle.words.specs.Quorum.{member, counted}
use Rattle.words.specs.QuorumLaws.{Inside}
use Rattle.words.specs.Stamps.{stamp_of, start_pair, AtMost}
use Rattle.replica.specs.declared.Gathered.{Gathered}
use Rattle.replica.specs.declared.Phase.TheVariants.{Idle, Querying, Updating}
use Rattle.replica.specs.Numbers.{pointed}
use Rattle.tables.specs.declared.Kind.TheVariants.{Read, Write}
use Rattle.tables.specs.declared.Row.{Row}
use Rattle.tables.specs.Tables.{empty_row}
use Rattle.state.specs.Needed.{responses_needed, acks_needed}
use Rattle.state.specs.State.{State, replica_of, row_of}
use Rattle.moves.specs.Stages.{is_reply}
use Rattle.consistency.specs.Held.{Held, Recalls, clock_at}

-- ---- where a pair comes from

pub record Wrote (w : Row) (x : ℕ) (pair : Pair) : Type 0 where
  pub kind : w.kind ≡ Write
  pub register : w.register ≡ x
  pub stamp : w.stamp ≡ pair.stamp
  pub value : w.value ≡ pair.value

-- the starting pair, or the pair of a write of register x
abbrev pub From : List Row → ℕ → Pair → Type 0
From rows x pair = (pair ≡ start_pair) ⊎ ((j : ℕ) × (j < length rows) × Wrote (get_or rows j empty_row) x pair)

abbrev pub pair_of : Row → Pair
pair_of r = record { stamp = r.stamp; value = r.value }

-- ---- what repliers are good for

-- a set of 1..n with at least so many processes, all of which have something
pub record Quorum (n least : ℕ) (Has : ℕ → Type 0) : Type 0 where
  pub set : ℕ
  pub inside : Inside n set
  pub enough : least ≤ counted set
  pub all : (k : ℕ) → member set k ≡ true → Has k

-- k's clock has passed r's invocation, when it held no stamp above this one for r's register
abbrev pub Below : State → Held → Row → Stamp → ℕ → Type 0
Below s held r stamp k = (r.invoked.0 ≤ clock_at s k) × AtMost (held k r.invoked.0 r.register) stamp

-- at this time k held no stamp below this one for r's register
abbrev pub Above : Held → Row → Stamp → ℕ → ℕ → Type 0
Above held r stamp time k = AtMost stamp (held k time r.register)

-- ---- a process

pub record Shaped (s : State) : Type 0 where
  pub few : s.n ≤ 7
  pub registers : s.m ≤ 16
  pub seven : length s.replicas ≡ 7

-- what process q stores: by place, register x being at x - 1
pub record Stores (s : State) (q : ℕ) : Type 0 where
  pub sixteen : length (replica_of s q).pairs ≡ 16
  pub early : (j : ℕ) → (get_or (replica_of s q).pairs j start_pair).stamp.time.0 ≤ clock_at s q
  pub source : (j : ℕ) → From s.rows (suc j) (get_or (replica_of s q).pairs j start_pair)

-- q waits on behalf of the row r, with this pair
pub record Serves (s : State) (q : ℕ) (r : Row) (pair : Pair) : Type 0 where
  pub own : r.process.0 ≡ q
  pub pending : r.answered.0 ≡ 0
  pub early : pair.stamp.time.0 ≤ clock_at s q
  pub source : From s.rows r.register pair

-- q queries for the read r: no replier held a stamp above the best pair's when r was invoked
pub record Asking (s : State) (held : Held) (q : ℕ) (r : Row) (best : Pair) (repliers : ℕ) : Type 0 where
  pub serves : Serves s q r best
  pub kind : r.kind ≡ Read
  pub counted : (k : ℕ) → member repliers k ≡ true → Below s held r best.stamp k

-- q updates for r: by now every replier holds no stamp below the sent one; of a read the query phase has ended
pub record Telling (s : State) (held : Held) (q : ℕ) (r : Row) (sent : Pair) (repliers : ℕ) : Type 0 where
  pub serves : Serves s q r sent
  pub counted : (k : ℕ) → member repliers k ≡ true → Above held r sent.stamp (clock_at s q) k
  pub written : r.kind ≡ Write → r.stamp ≡ sent.stamp
  pub asked : r.kind ≡ Read → Quorum s.n (responses_needed s) (Below s held r sent.stamp)

abbrev pub IsRow : State → ℕ → Type 0
IsRow s i = (1 ≤ i) × (i ≤ length s.rows)

pub record Waits (s : State) (held : Held) (q : ℕ) : Type 0 where
  pub inside : Inside s.n (replica_of s q).repliers
  pub idle : (replica_of s q).phase ≡ Idle → (replica_of s q).repliers ≡ 0
  pub asking : (i : ℕ) (gathered : Gathered) → (replica_of s q).phase ≡ Querying i gathered
      → IsRow s i × Asking s held q (row_of s i) gathered.best (replica_of s q).repliers
  pub telling : (i : ℕ) (sent : Pair) → (replica_of s q).phase ≡ Updating i sent
      → IsRow s i × Telling s held q (row_of s i) sent (replica_of s q).repliers

-- ---- a message in flight, by its body. `p` is the process whose request it is

abbrev pub WhileAsking : State → ℕ → ℕ → (Row → Type 0) → Type 0
WhileAsking s p rid Holds = (i : ℕ) (gathered : Gathered) → (replica_of s p).phase ≡ Querying i gathered → (replica_of s p).rid.0 ≡ rid → Holds (row_of s i)

abbrev pub WhileTelling : State → ℕ → ℕ → (Row → Pair → Type 0) → Type 0
WhileTelling s p rid Holds = (i : ℕ) (sent : Pair) → (replica_of s p).phase ≡ Updating i sent → (replica_of s p).rid.0 ≡ rid → Holds (row_of s i) sent

abbrev pub QueryOf : Message → ℕ → Row → Type 0
QueryOf message x r = (r.register ≡ x) × (r.invoked.0 ≤ message.time.0)

abbrev pub UpdateOf : ℕ → Pair → Row → Pair → Type 0
UpdateOf x pair r sent = (r.register ≡ x) × (sent ≡ pair)

abbrev pub ResponseOf : State → Held → Message → Pair → Row → Type 0
ResponseOf s held message pair r = Below s held r pair.stamp message.from.0 × From s.rows r.register pair

abbrev pub AckOf : Held → Message → Row → Pair → Type 0
AckOf held message r sent = Above held r sent.stamp message.time.0 message.from.0

pub record Asks (s : State) (message : Message) (x : ℕ) : Type 0 where
  pub first : 1 ≤ x
  pub last : x ≤ 16
  pub meant : WhileAsking s message.from.0 message.rid.0 (QueryOf message x)

pub record Tells (s : State) (message : Message) (x : ℕ) (pair : Pair) : Type 0 where
  pub first : 1 ≤ x
  pub last : x ≤ 16
  pub early : pair.stamp.time.0 ≤ message.time.0
  pub source : From s.rows x pair
  pub meant : WhileTelling s message.from.0 message.rid.0 (UpdateOf x pair)

pub record Responded (s : State) (held : Held) (message : Message) (pair : Pair) : Type 0 where
  pub early : pair.stamp.time.0 ≤ message.time.0
  pub meant : WhileAsking s message.to.0 message.rid.0 (ResponseOf s held message pair)

pub record Acked (s : State) (held : Held) (message : Message) : Type 0 where
  pub meant : WhileTelling s message.to.0 message.rid.0 (AckOf held message)

abbrev pub Says : State → Held → Message → Body → Type 0
Says s held message (Query x) = Asks s message x
Says s held message (Response pair) = Responded s held message pair
Says s held message (Update x pair) = Tells s message x pair
Says s held message Ack = Acked s held message

pub record Carried (s : State) (held : Held) (message : Message) : Type 0 where
  pub from_first : 1 ≤ message.from.0
  pub from_last : message.from.0 ≤ s.n
  pub to-first : 1 ≤ message.to.0
  pub to_last : message.to.0 ≤ s.n
  pub says : Says s held message message.body

-- its number is one that its asker has reached, by the body that it has
abbrev pub Begun : State → Message → Body → Type 0
Begun s message body = message.rid.0 ≤ (replica_of s (cond (is_reply body) message.to.0 message.from.0)).rid.0

-- what a message says, by the body that it has
pub said : {s : State} {held : Held} {message : Message} {body : Body} → Carried s held message → message.body ≡ body → Says s held message body
said {s} {held} {message} c e = subst (Says s held message) e c.says

-- ---- a row

-- a completed operation: its stamp is below its response; a quorum held no stamp below its own then; and of a read, a quorum held none above
-- when it was invoked
pub record Done (s : State) (held : Held) (r : Row) : Type 0 where
  pub later : r.invoked.0 < r.answered.0
  pub past : r.answered.0 ≤ clock_at s r.process.0
  pub early : r.stamp.time.0 < r.answered.0
  pub told : Quorum s.n (acks_needed s) (Above held r r.stamp r.answered.0)
  pub asked : r.kind ≡ Read → Quorum s.n (responses_needed s) (Below s held r r.stamp)
  pub source : r.kind ≡ Read → From s.rows r.register (pair_of r)

pub record Entered (s : State) (held : Held) (r : Row) : Type 0 where
  pub first : 1 ≤ r.process.0
  pub last : r.process.0 ≤ s.n
  pub begun : 1 ≤ r.invoked.0
  pub past : r.invoked.0 ≤ clock_at s r.process.0
  pub written : r.kind ≡ Write → r.stamp ≡ stamp_of r.invoked.0 r.process.0
  pub done : (r.answered.0 ≡ 0 → ⊥) → Done s held r
  pub register-first : 1 ≤ r.register
  pub register-last : r.register ≤ 16

-- a process has one operation at a time: the row it points to is its only pending one, and an operation is begun when the one before is answered
pub record Turns (s : State) : Type 0 where
  pub pending : (j : ℕ) → j < length s.rows → (get_or s.rows j empty_row).answered.0 ≡ 0
      → pointed (replica_of s (get_or s.rows j empty_row).process.0).phase ≡ suc j
  pub in_turn : (i j : ℕ) → i < j → j < length s.rows
      → (get_or s.rows i empty_row).process.0 ≡ (get_or s.rows j empty_row).process.0
      → (0 < (get_or s.rows i empty_row).answered.0) × ((get_or s.rows i empty_row).answered.0 ≤ (get_or s.rows j empty_row).invoked.0)

-- ---- all of it

pub record Sound (s : State) (held : Held) : Type 0 where
  pub sized : Shaped s
  pub recalls : Recalls s held
  pub stores : (q : ℕ) → 1 ≤ q → Stores s q
  pub waits : (q : ℕ) → 1 ≤ q → Waits s held q
  pub flight : (message : Message) → Memᴰ message s.flight → Carried s held message
  -- of the invariant of request numbers, which demand 2 has
  pub begun : (message : Message) → Memᴰ message s.flight → Begun s message message.body
  pub rows : (j : ℕ) → j < length s.rows → Entered s held (get_or s.rows j empty_row)
  pub turns : Turns s

-- by a body that it is known to have
pub begun-by : {s : State} {held : Held} → Sound s held → (message : Message) → Memᴰ message s.flight → (body : Body) → message.body ≡ body → Begun s message body
begun-by {s} sound message flying body e = subst (Begun s message) e (sound.begun message flying)
