-- The state of a bench: document 01, "State". The messages in flight and the rows of the history are lists without unused places; the lent
-- tables are these lists with empty places behind them.
use Rattle.std.specs.Prelude.{ℕ, ◌-◌, false, List, [], ◌++◌, length, get_or, replicate, take}
use Rattle.words.specs.declared.Message.{Message}
use Rattle.words.specs.Limits.{most_flight, most_rows}
use Rattle.words.specs.Stamps.{start_pair}
use Rattle.replica.specs.declared.Replica.{Replica}
use Rattle.replica.specs.declared.Phase.TheVariants.{Idle}
use Rattle.tables.specs.declared.Row.{Row}
use Rattle.tables.specs.Tables.{empty_message, empty_row}
use Rattle.state.specs.declared.Bench.{Bench}

pub record State : Type 0 where
  -- processes and registers
  pub n : ℕ
  pub m : ℕ
  -- accepted events; messages sent, delivered, lost
  pub accepted : ℕ
  pub sent : ℕ
  pub delivered : ℕ
  pub lost : ℕ
  pub replicas : List Replica
  pub flight : List Message
  pub rows : List Row

-- a replica at the start: up and idle, all numbers 0
abbrev pub fresh_replica : Replica
fresh_replica =
    record {
      crashed = false;
      clock = record { 0 = 0 };
      rid = record { 0 = 0 };
      phase = Idle;
      repliers = 0;
      pairs = replicate 16 start_pair;
    }

-- process p's replica, and the replicas with another one at p. Processes are numbered from 1
abbrev pub replica_of : State → ℕ → Replica
replica_of s p = get_or s.replicas (p - 1) fresh_replica

-- row number i, counted from 1
abbrev pub row_of : State → ℕ → Row
row_of s i = get_or s.rows (i - 1) empty_row

-- a bench that was just started
abbrev pub fresh : ℕ → ℕ → State
fresh n m =
    record {
      n = n;
      m = m;
      accepted = 0;
      sent = 0;
      delivered = 0;
      lost = 0;
      replicas = replicate 7 fresh_replica;
      flight = [];
      rows = [];
    }

-- the state that a bench and the two lent tables hold
abbrev pub view : Bench → List Message → List Row → State
view b messages rows =
    record {
      n = b.n;
      m = b.m;
      accepted = b.accepted;
      sent = b.sent;
      delivered = b.delivered;
      lost = b.lost;
      replicas = b.replicas;
      flight = take b.flight messages;
      rows = take b.rows rows;
    }

-- the tables that hold a state: 512 messages, 1,024 rows
abbrev pub laid_messages : State → List Message
laid_messages s = s.flight ++ replicate (most_flight - length s.flight) empty_message

abbrev pub laid_rows : State → List Row
laid_rows s = s.rows ++ replicate (most_rows - length s.rows) empty_row
