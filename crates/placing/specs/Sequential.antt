-- What demand 3 promises, for a reader who knows nothing of the method. A history is the list of operations in the order in which they were
-- begun; its rows are numbered from 1. An order is a list of row numbers. It is sequential when running the operations one after another in
-- that order, on registers that hold zero at first, explains everything that the processes saw.
use Rattle.std.specs.Prelude.{ℕ, suc, zero, ◌+◌, ◌<◌, ◌≡◌, cond, ◌&&◌, List, [], ◌∷◌, ◌++◌, eqb}
use Rattle.std.proofs.Math.Option.{Option, none, some}
use Rattle.placing.specs.Operation.{Operation, Kind, is_write, listed}

module _ {Value : Type 0} where
  -- row i, counted from 1
  abbrev pub row_at : List (Operation Value) → ℕ → Option (Operation Value)
  row_at [] i = none
  row_at (o ∷ os) zero = none
  row_at (o ∷ os) (suc zero) = some o
  row_at (o ∷ os) (suc (suc i)) = row_at os (suc i)

  -- how often row i has to stand: once if it is listed, else never
  abbrev pub due : Option (Operation Value) → ℕ
  due none = 0
  due (some o) = cond (listed o) 1 0

  -- what register x holds when the operations of an order have run, one after another
  abbrev pub wrote : ℕ → Option (Operation Value) → Value → Value
  wrote x none held = held
  wrote x (some o) held = cond (is_write o.kind && eqb o.register x) o.value held

  abbrev pub holds : List (Operation Value) → ℕ → Value → List ℕ → Value
  holds rows x held [] = held
  holds rows x held (i ∷ order) = holds rows x (wrote x (row_at rows i) held) order

-- how often i stands in an order
abbrev pub times : ℕ → List ℕ → ℕ
times i [] = 0
times i (j ∷ order) = cond (eqb i j) 1 0 + times i order

pub record Sequential {Value : Type 0} (nought : Value) (rows : List (Operation Value)) (order : List ℕ) : Type 0 where
  -- every completed operation and every write begun stands once; nothing else stands
  pub once : (i : ℕ) → times i order ≡ due (row_at rows i)
  -- each process's operations keep the sequence in which it began them
  pub sequence : (front middle back : List ℕ) (i j : ℕ) (a b : Operation Value)
      → order ≡ front ++ (i ∷ (middle ++ (j ∷ back)))
      → row_at rows i ≡ some a
      → row_at rows j ≡ some b
      → a.process ≡ b.process
      → i < j
  -- every completed read gives the value of the nearest earlier write to its register, or zero if there is none
  pub reads : (front back : List ℕ) (i : ℕ) (a : Operation Value)
      → order ≡ front ++ (i ∷ back)
      → row_at rows i ≡ some a
      → a.kind ≡ Kind.Read
      → a.value ≡ holds rows a.register nought front
