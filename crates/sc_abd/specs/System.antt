-- The system that runs Algorithm 1: processes 1 to n, reliable links, crash-stop, and the history of the calls with their times, their pairs, what
-- was RETURNed, and whose replies they had when they went on. A step is one handler at one live process, a crash, or the loss of a message of a dead
-- process (a crash in the middle of a broadcast).
use Rattle.std.specs.Prelude.{ℕ, zero, suc, ◌≤◌, ◌<◌, ◌≡◌, Bool, true, false, cond, not, ◌&&◌, ◌||◌, List, [], ◌∷◌, ◌++◌, eqb, ℤ, length, get_or}
use Rattle.sc_abd.specs.Algorithm1.{Tsv, Process, Packet, Content, Reply, Return, Done, initial, at_first, join, on_read, on_write, on_receipt}

pub data Call : Type 0 where
  READ : (r : ℕ) → Call
  WRITE : (r : ℕ) → (v : ℤ) → Call

-- a call of a process
pub record Operation : Type 0 where
  pub process : ℕ
  pub call : Call
  -- its lt at the invocation (lines 1 and 16), and at the RETURN; 0 before that
  pub invoked : ℕ
  pub answered : ℕ
  -- the pair that it wrote (line 18) or chose (line 11); the initial one while a read is outstanding
  pub tsv : Tsv
  -- what it was RETURNed, if anything
  pub returned : Return
  -- the processes, in rising number, whose replies it had when it went on from line 10, and when it went on from line 26; none before
  pub queried : List ℕ
  pub acked : List ℕ

pub record System : Type 0 where
  pub n : ℕ
  pub processes : ℕ → Process
  -- whether what p_i broadcast last was a query (line 5), and not an update (lines 15 and 20)
  pub asking : ℕ → Bool
  pub crashed : ℕ → Bool
  pub transit : List Packet
  pub history : List Operation

abbrev pub started : ℕ → System
started n = record { n = n; processes = λ i. at_first; asking = λ i. false; crashed = λ i. false; transit = []; history = [] }

abbrev pub is_open : Return → Bool
is_open Return.none = true
is_open Return.OK = false
is_open (Return.value v) = false

-- p_i has an operation outstanding
abbrev pub outstanding : ℕ → List Operation → Bool
outstanding i [] = false
outstanding i (o ∷ rest) = (eqb o.process i && is_open o.returned) || outstanding i rest

-- the outstanding operation of p_i, changed
abbrev pub changing : ℕ → (Operation → Operation) → List Operation → List Operation
changing i change [] = []
changing i change (o ∷ rest) = cond (eqb o.process i && is_open o.returned) (change o ∷ rest) (o ∷ changing i change rest)

-- an operation that is RETURNed what its process's handler says, at the lt and with the tsv that the process then has; these have acked
abbrev pub returned_by : List ℕ → Done → Operation → Operation
returned_by had done o =
    record {
      process = o.process;
      call = o.call;
      invoked = o.invoked;
      answered = done.process.lt;
      tsv = done.process.tsv;
      returned = done.return;
      queried = o.queried;
      acked = had;
    }

-- an operation that goes on from its query to its update; these have responded
abbrev pub gone_on : List ℕ → Operation → Operation
gone_on had o =
    record {
      process = o.process;
      call = o.call;
      invoked = o.invoked;
      answered = o.answered;
      tsv = o.tsv;
      returned = o.returned;
      queried = had;
      acked = o.acked;
    }

abbrev pub asks_for : Bool → Content → Bool
asks_for before (Content.query lt rid r) = true
asks_for before (Content.response lt rid tsv) = before
asks_for before (Content.update lt rid r tsv) = false
asks_for before (Content.ack lt rid) = before

-- whether what was broadcast last is a query, once this is sent too. (A handler sends one broadcast, one reply or nothing.)
abbrev pub asks_after : Bool → List Packet → Bool
asks_after before [] = before
asks_after before (m ∷ rest) = asks_for before m.content

abbrev pub without : {A : Type 0} → ℕ → List A → List A
without i [] = []
without zero (a ∷ rest) = rest
without (suc i) (a ∷ rest) = a ∷ without i rest

-- ---- whose replies a process has

abbrev pub replier : Reply → ℕ
replier (Reply.pair tsv j) = j
replier (Reply.only j) = j

abbrev pub has_replied : ℕ → List Reply → Bool
has_replied j [] = false
has_replied j (a ∷ rest) = eqb (replier a) j || has_replied j rest

-- the numbers that pass a test, in rising order: from j on, as many as are left
abbrev pub those : (ℕ → Bool) → ℕ → ℕ → List ℕ
those test j zero = []
those test j (suc left) = cond (test j) (j ∷ those test (suc j) left) (those test (suc j) left)

-- the processes 1 to n that are in `responses`
abbrev pub repliers_of : ℕ → List Reply → List ℕ
repliers_of n responses = those (λ j. has_replied j responses) 1 n

-- `responses` with this message of p_j, as lines 10 and 26 find it
abbrev pub joined_by : List Reply → ℕ → Content → List Reply
joined_by responses j (Content.query lt rid r) = responses
joined_by responses j (Content.response lt rid tsv) = join responses (Reply.pair tsv j)  -- 9
joined_by responses j (Content.update lt rid r tsv) = responses
joined_by responses j (Content.ack lt rid) = join responses (Reply.only j)  -- 25

-- ---- steps

-- a query was broadcast last, and now an update is (line 15)
abbrev pub ends_query : Bool → List Packet → Bool
ends_query asking sends = asking && not (asks_after asking sends)

-- p_i has received a message and does this: its outstanding operation is RETURNed, if the handler RETURNs anything; it goes on to its update, if its
-- query ends; these have replied to it. (What is invoked RETURNs nothing.)
abbrev pub history_after : ℕ → Bool → List ℕ → Done → List Operation → List Operation
history_after i asking had done history =
    cond (is_open done.return)
    (cond (ends_query asking done.sends) (changing i (gone_on had) history) history)
    (changing i (returned_by had done) history)

-- p_i does what its handler says, and this is the history
abbrev pub doing : System → ℕ → Done → List Packet → List Operation → System
doing a i done transit history =
    record {
      n = a.n;
      processes = λ j. cond (eqb j i) done.process (a.processes j);
      asking = λ j. cond (eqb j i) (asks_after (a.asking i) done.sends) (a.asking j);
      crashed = a.crashed;
      transit = transit ++ done.sends;
      history = history;
    }

pub data Action : Type 0 where
  invoke : (i : ℕ) → Call → Action
  receive : (place : ℕ) → Action
  crash : (i : ℕ) → Action
  lose : (place : ℕ) → Action

abbrev pub nowhere : Packet
nowhere = record { from = 0; to = 0; content = Content.ack 0 0 }

abbrev pub at : System → ℕ → Packet
at a place = get_or a.transit place nowhere

abbrev pub handled : ℕ → ℕ → Process → Call → Done
handled n i p (READ r) = on_read n i p r
handled n i p (WRITE r v) = on_write n i p r v

-- what is allowed: a live process with no operation outstanding invokes one; a message reaches a live process; a live process crashes; a message
-- to or from a crashed process is lost
abbrev pub Enabled : System → Action → Type 0
Enabled a (invoke i call) = (1 ≤ i) × (i ≤ a.n) × (a.crashed i ≡ false) × (outstanding i a.history ≡ false)
Enabled a (receive place) = (place < length a.transit) × (a.crashed (at a place).to ≡ false)
Enabled a (crash i) = (1 ≤ i) × (i ≤ a.n) × (a.crashed i ≡ false)
Enabled a (lose place) = (place < length a.transit) × ((a.crashed (at a place).from || a.crashed (at a place).to) ≡ true)

abbrev pub on_arrival : System → ℕ → Done
on_arrival a place =
    let m = at a place in
    on_receipt a.n m.to (a.processes m.to) m.from m.content

-- the pair that a call writes: a read has chosen none yet
abbrev pub written_by : Call → Process → Tsv
written_by (READ r) p = initial
written_by (WRITE r v) p = p.tsv

-- a call of p_i, which is p once lines 1 to 5 or 16 to 20 are done
abbrev pub called : ℕ → Call → Process → Operation
called i call p =
    record {
      process = i;
      call = call;
      invoked = p.lt;
      answered = 0;
      tsv = written_by call p;
      returned = Return.none;
      queried = [];
      acked = [];
    }

-- the packet at this place was received, and its recipient has done this
abbrev pub receiving : System → ℕ → Packet → Done → System
receiving a place m done =
    let p = a.processes m.to in
    let had = repliers_of a.n (joined_by p.responses m.from m.content) in
    doing a m.to done (without place a.transit) (history_after m.to (a.asking m.to) had done a.history)

abbrev pub taken : System → Action → System
taken a (invoke i call) =
    let done = handled a.n i (a.processes i) call in
    doing a i done a.transit (a.history ++ (called i call done.process ∷ []))
taken a (receive place) = receiving a place (at a place) (on_arrival a place)
taken a (crash i) =
    record {
      n = a.n;
      processes = a.processes;
      asking = a.asking;
      crashed = λ j. eqb j i || a.crashed j;
      transit = a.transit;
      history = a.history;
    }
taken a (lose place) =
    record {
      n = a.n;
      processes = a.processes;
      asking = a.asking;
      crashed = a.crashed;
      transit = without place a.transit;
      history = a.history;
    }
