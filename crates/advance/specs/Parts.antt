-- The parts of one step: the bench and its two tables once a plan is carried out.
use Rattle.std.specs.Prelude.{ℕ, ◌+◌, ◌-◌, ◌≤◌, ◌<◌, List, ◌∷◌, ◌++◌, set, take, drop, Option, Some, None}
use Rattle.words.specs.declared.Message.{Message}
use Rattle.words.specs.declared.Pid.{Pid}
use Rattle.replica.specs.declared.Replica.{Replica}
use Rattle.tables.specs.declared.Row.{Row}
use Rattle.tables.specs.Tables.{empty_message, removed, copies, laid_at}
use Rattle.state.specs.declared.Bench.{Bench}
use Rattle.state.specs.declared.Event.{Event}
use Rattle.state.specs.declared.Event.TheVariants.{Read, Write, Deliver, Crash, Lose}
use Rattle.decide.specs.declared.Plan.{Plan}

-- ---- the tables

-- of the first n messages, the one at a place is taken off
abbrev pub taken_off : Option ℕ → ℕ → List Message → List Message
taken_off None n messages = messages
taken_off (Some at) n messages = removed at (take n messages) ++ (empty_message ∷ drop n messages)

-- how many are left of them
abbrev pub left_of : Option ℕ → ℕ → ℕ
left_of None n = n
left_of (Some at) n = n - 1

-- what is sent is laid from a place on
abbrev pub posted_at : ℕ → Option (Message × ℕ) → List Message → List Message
posted_at from None messages = messages
posted_at from (Some (first, count)) messages = laid_at from (copies first count) messages

abbrev pub carried_messages : Plan → ℕ → List Message → List Message
carried_messages plan n messages = posted_at (left_of plan.taken n) plan.posted (taken_off plan.taken n messages)

abbrev pub carried_rows : Option (ℕ × Row) → List Row → List Row
carried_rows None rows = rows
carried_rows (Some (place, row)) rows = set rows place row

-- ---- the bench

abbrev pub count_of : Option (Message × ℕ) → ℕ
count_of None = 0
count_of (Some (first, count)) = count

abbrev pub put_back : Option (Pid × Replica) → List Replica → List Replica
put_back None replicas = replicas
put_back (Some (p, r)) replicas = set replicas (p.0 - 1) r

-- what an accepted event of a kind adds to the counts
abbrev pub tallied : Event → Bench → Bench
tallied (Read p x) b = record b { rows = b.rows + 1 }
tallied (Write p x value) b = record b { rows = b.rows + 1 }
tallied (Deliver k) b = record b { delivered = b.delivered + 1 }
tallied (Crash p) b = b
tallied (Lose k) b = record b { lost = b.lost + 1 }

abbrev pub carried_bench : Plan → Event → Bench → Bench
carried_bench plan event b =
    tallied event
    (record {
      n = b.n;
      m = b.m;
      accepted = b.accepted + 1;
      sent = b.sent + count_of plan.posted;
      delivered = b.delivered;
      lost = b.lost;
      flight = left_of plan.taken b.flight + count_of plan.posted;
      rows = b.rows;
      replicas = put_back plan.replica b.replicas;
    })

-- ---- what it takes to carry a plan out

-- the sums of the counts fit their words
pub record Bounded (b : Bench) : Type 0 where
  pub accepted : b.accepted ≤ 12000
  pub sent : b.sent ≤ 84000
  pub delivered : b.delivered ≤ 84000
  pub lost : b.lost ≤ 84000
  pub flight : b.flight ≤ 512
  pub rows : b.rows ≤ 1024

-- a message that is taken off is one of the first n
abbrev pub Takes : Option ℕ → ℕ → Type 0
Takes None n = Unit {0}
Takes (Some at) n = at < n

-- what is sent has room on a table of n messages, and so have its numbers and its recipients
abbrev pub Posts : ℕ → Option (Message × ℕ) → ℕ → Type 0
Posts from None n = Unit {0}
Posts from (Some (first, count)) n = (from + count ≤ n) × (first.number + count < 4294967296) × (first.to.0 + count < 256)
