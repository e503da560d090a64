-- When a bench's state and a system that runs Algorithm 1 are the same: one fixed definition, process by process, message by message, row by row.
use Rattle.std.specs.Prelude.{ℕ, zero, suc, ◌/◌, ◌%◌, ◌^◌, ◌≤◌, ◌≡◌, Bool, true, false, List, [], ◌∷◌, map, eqb, length}
use Rattle.words.specs.declared.Body.{Body}
use Rattle.words.specs.declared.Body.TheVariants.{Query, Response, Update, Ack}
use Rattle.words.specs.declared.Message.{Message}
use Rattle.words.specs.declared.Pair.{Pair}
use Rattle.words.specs.Quorum.{member, counted}
use Rattle.replica.specs.declared.Phase.{Phase}
use Rattle.replica.specs.declared.Phase.TheVariants.{Idle, Querying, Updating}
use Rattle.replica.specs.declared.Replica.{Replica}
use Rattle.replica.specs.Handlers.{stored}
use Rattle.tables.specs.declared.Kind.{Kind}
use Rattle.tables.specs.declared.Kind.TheVariants.{Read, Write}
use Rattle.tables.specs.declared.Row.{Row}
use Rattle.state.specs.State.{State, replica_of, row_of}
use Rattle.state.specs.WellFormed.{pending_of}
use Rattle.sc_abd.specs.Algorithm1.{Tsv, Content, Packet, Process, Reply, Return, max_of}
use Rattle.sc_abd.specs.System.{Call, Operation, System, has_replied, those}

abbrev pub tsv_of : Pair → Tsv
tsv_of p = record { ts = record { time = p.stamp.time.0; process = p.stamp.process.0 }; value = p.value }

-- ---- messages

abbrev pub content_of : ℕ → ℕ → Body → Content
content_of lt rid (Query x) = Content.query lt rid x
content_of lt rid (Response pair) = Content.response lt rid (tsv_of pair)
content_of lt rid (Update x pair) = Content.update lt rid x (tsv_of pair)
content_of lt rid Ack = Content.ack lt rid

abbrev pub packet_of : Message → Packet
packet_of m = record { from = m.from.0; to = m.to.0; content = content_of m.time.0 m.rid.0 m.body }

-- ---- rows: the call, its times and its pair, and its result exactly when the algorithm has RETURNed it

abbrev pub call_of : Kind → Row → Call
call_of Read r = Call.READ r.register
call_of Write r = Call.WRITE r.register r.value

-- a read gives the chosen value, a write gives only "done"
abbrev pub result_of : Kind → Row → Return
result_of Read r = Return.value r.value
result_of Write r = Return.OK

abbrev pub returned_of : ℕ → Row → Return
returned_of zero r = Return.none
returned_of (suc t) r = result_of r.kind r

-- the pair in a row
abbrev pub tsv_in : Row → Tsv
tsv_in r = tsv_of (record { stamp = r.stamp; value = r.value })

-- the processes in a set: the places of the ones of its number, which has none at its own place or above
abbrev pub in_set : ℕ → ℕ → Bool
in_set set j = eqb (set / 2 ^ j % 2) 1

abbrev pub processes_in : ℕ → List ℕ
processes_in set = those (in_set set) 0 set

-- (`operation-once`: no other row is the same operation)
abbrev pub operation_of : Row → Operation
operation_of r =
    record {
      process = r.process.0;
      call = call_of r.kind r;
      invoked = r.invoked.0;
      answered = r.answered.0;
      tsv = tsv_in r;
      returned = returned_of r.answered.0 r;
      queried = processes_in r.replied.query;
      acked = processes_in r.replied.update;
    }

-- ---- the counted repliers are the processes in `responses`

pub record SameReplies (repliers : ℕ) (responses : List Reply) : Type 0 where
  pub each : (j : ℕ) → j ≤ 7 → member repliers j ≡ has_replied j responses
  pub many : counted repliers ≡ length responses

-- ---- the phase

-- the rows that a phase points to
abbrev pub pointed_rows : Phase → List ℕ
pointed_rows Idle = []
pointed_rows (Querying row gathered) = row ∷ []
pointed_rows (Updating row sent) = row ∷ []

abbrev pub is_read : Kind → Bool
is_read Read = true
is_read Write = false

-- waiting for responses (lines 8 to 15), for the read in this row
pub record SameQuery (row : Row) (best : Pair) (q : Process) (asks : Bool) : Type 0 where
  pub asking : asks ≡ true
  pub reading : q.reading ≡ true
  pub register : q.rreg ≡ row.register
  pub best-so-far : max_of q.responses ≡ tsv_of best

-- waiting for acks (lines 24 to 30), for the operation in this row: a read will give the value of the pair that was sent, a write's pair is in its row
pub record SameUpdate (row : Row) (sent : Pair) (q : Process) (asks : Bool) : Type 0 where
  pub asking : asks ≡ false
  pub reading : q.reading ≡ is_read row.kind
  pub pair-sent : q.tsv ≡ tsv_of sent
  pub gives : q.reading ≡ true → q.rval ≡ sent.value
  pub written : q.reading ≡ false → tsv_in row ≡ q.tsv

abbrev pub SamePhase : State → Phase → Process → Bool → Type 0
SamePhase s Idle q asks = q.responses ≡ []
SamePhase s (Querying row gathered) q asks = SameQuery (row_of s row) gathered.best q asks
SamePhase s (Updating row sent) q asks = SameUpdate (row_of s row) sent q asks

pub record SameProcess (s : State) (p : ℕ) (r : Replica) (q : Process) (asks : Bool) : Type 0 where
  pub clock : r.clock.0 ≡ q.lt
  pub number : r.rid.0 ≡ q.rid
  pub store : (x : ℕ) → 1 ≤ x → x ≤ s.m → tsv_of (stored r x) ≡ q.tvps x
  pub replies : SameReplies r.repliers q.responses
  -- idle exactly when p has no operation outstanding, and otherwise pointing to the one that is
  pub waits : pending_of p 1 s.rows ≡ pointed_rows r.phase
  pub phase : SamePhase s r.phase q asks

pub record Same (s : State) (a : System) : Type 0 where
  pub size : s.n ≡ a.n
  pub processes : (p : ℕ) → 1 ≤ p → p ≤ s.n → SameProcess s p (replica_of s p) (a.processes p) (a.asking p)
  pub down : (p : ℕ) → 1 ≤ p → p ≤ s.n → (replica_of s p).crashed ≡ a.crashed p
  pub flight : map packet_of s.flight ≡ a.transit
  -- row by row: a row and its operation tell one another (`operation-once`)
  pub history : map operation_of s.rows ≡ a.history
