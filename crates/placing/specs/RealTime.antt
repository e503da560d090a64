-- Real time: an order keeps it when an operation that was answered no later than another was invoked stands before that other.
use Rattle.std.specs.Prelude.{ℕ, ◌≤◌, ◌≡◌, List, ◌∷◌, ◌++◌, T}
use Rattle.std.proofs.Math.Option.{some}
use Rattle.placing.specs.Operation.{Operation, listed}
use Rattle.placing.specs.Sequential.{row_at}

pub record RealTime {Value : Type 0} (rows : List (Operation Value)) (order : List ℕ) : Type 0 where
  pub kept : (i j : ℕ) (a b : Operation Value) (t : ℕ)
      → row_at rows i ≡ some a
      → row_at rows j ≡ some b
      → T (listed b)
      → a.answered ≡ some t
      → t ≤ b.invoked
      → (front : List ℕ) × (middle : List ℕ) × (back : List ℕ) × (order ≡ front ++ (i ∷ (middle ++ (j ∷ back))))
