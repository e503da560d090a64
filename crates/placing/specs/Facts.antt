-- What the placing theorem needs to know of a history: the few facts that the protocol has to bring. That an invocation is below its response is
-- `settled` of an operation and itself. That invocation stamps are distinct is not needed: operations of one point go by register, then by the
-- register's order.
use Rattle.std.specs.Prelude.{ℕ, ◌<◌, ◌≤◌, ◌≡◌, ◌⊎◌, T}
use mathlib.Core.List.{List, Memᴰ}
use Rattle.std.proofs.Math.Option.{some}
use Rattle.words.specs.Stamps.{start_stamp}
use Rattle.placing.specs.Operation.{Operation, Kind, listed}
use Rattle.placing.specs.OneOrder.{Entry, numbered, earlier}

module _ {Value : Type 0} where
  -- e is a row of the history
  abbrev pub Row : List (Operation Value) → Entry Value → Type 0
  Row os e = Memᴰ e (numbered 1 os)

  -- a has the starting pair, or the pair of a write w of its register
  abbrev pub Sourced : Value → List (Operation Value) → Entry Value → Type 0
  Sourced nought os a =
      ((a.operation.stamp ≡ start_stamp) × (a.operation.value ≡ nought))
      ⊎ ((w : Entry Value)
      × Row os w
      × (w.operation.kind ≡ Kind.Write)
      × (w.operation.register ≡ a.operation.register)
      × (w.operation.stamp ≡ a.operation.stamp)
      × (w.operation.value ≡ a.operation.value))

pub record Facts {Value : Type 0} (nought : Value) (os : List (Operation Value)) : Type 0 where
  -- of one register: a listed operation that was invoked at or after another's response is placed after it in the register's order; as none is
  -- placed after itself, each completed operation was invoked before its response
  pub settled : (a b : Entry Value) (t : ℕ) → Row os a → Row os b → T (listed b.operation)
      → a.operation.register ≡ b.operation.register
      → a.operation.answered ≡ some t
      → t ≤ b.operation.invoked
      → T (earlier a b)
  -- a process's operations are complete but for the last, and none begins before the one before it has been answered
  pub in_turn : (a b : Entry Value) → Row os a → Row os b
      → a.operation.process ≡ b.operation.process
      → a.row < b.row
      → (t : ℕ) × (a.operation.answered ≡ some t) × (t ≤ b.operation.invoked)
  -- a write's stamp is not the starting stamp: its time is above 0
  pub stamped : (a : Entry Value) → Row os a → a.operation.kind ≡ Kind.Write → a.operation.stamp.time.0 ≡ 0 → ⊥
  -- no two writes of one register share a stamp
  pub apart : (a b : Entry Value) → Row os a → Row os b
      → a.operation.kind ≡ Kind.Write
      → b.operation.kind ≡ Kind.Write
      → a.operation.register ≡ b.operation.register
      → a.operation.stamp ≡ b.operation.stamp
      → a.row ≡ b.row
  -- a completed read has its pair from one of the two
  pub sourced : (a : Entry Value) (t : ℕ) → Row os a → a.operation.kind ≡ Kind.Read → a.operation.answered ≡ some t → Sourced nought os a
