-- When a proposed order explains a history: document 02, "Wish 10", for a reader who knows nothing of our method. A history is a list of rows, each process's rows in the sequence in which the
-- process began them; its rows are numbered from 1. An order is a list of row numbers. It explains the history when running the rows one after another in that order, on
-- registers that hold 0 at first, gives every completed read the value that it saw.
use Rattle.std.specs.Prelude.{ℕ, suc, zero, ◌≤◌, ◌<◌, ◌≡◌, cond, ◌&&◌, List, [], ◌∷◌, ◌++◌, eqb}
use Rattle.std.proofs.Math.Option.{Option, none, some}
use Rattle.placing.specs.Sequential.{times}

pub record Row : Type 0 where
  pub process : ℕ
  -- 1 a read, 2 a write
  pub kind : ℕ
  pub register : ℕ
  -- eight bytes as one number: two values are the same exactly when their bytes are
  pub value : ℕ
  -- 1 completed, 0 unfinished
  pub complete : ℕ

abbrev pub IsRead : Row → Type 0
IsRead a = a.kind ≡ 1

abbrev pub IsWrite : Row → Type 0
IsWrite a = a.kind ≡ 2

abbrev pub Completed : Row → Type 0
Completed a = a.complete ≡ 1

abbrev pub Unfinished : Row → Type 0
Unfinished a = a.complete ≡ 0

-- row i, counted from 1
abbrev pub row_at : List Row → ℕ → Option Row
row_at [] i = none
row_at (a ∷ rows) zero = none
row_at (a ∷ rows) (suc zero) = some a
row_at (a ∷ rows) (suc (suc i)) = row_at rows (suc i)

-- what register x holds when the rows of an order have run, one after another
abbrev pub wrote : ℕ → Option Row → ℕ → ℕ
wrote x none held = held
wrote x (some a) held = cond (eqb a.kind 2 && eqb a.register x) a.value held

abbrev pub holds : List Row → ℕ → ℕ → List ℕ → ℕ
holds rows x held [] = held
holds rows x held (i ∷ order) = holds rows x (wrote x (row_at rows i) held) order

-- `times i order`: how often i stands in the order
pub record Explains (rows : List Row) (order : List ℕ) : Type 0 where
  -- what stands in the order is a row
  pub known : (i : ℕ) → row_at rows i ≡ none → times i order ≡ 0
  -- every completed row stands once
  pub completed : (i : ℕ) (a : Row) → row_at rows i ≡ some a → Completed a → times i order ≡ 1
  -- unfinished writes stand at most once
  pub unfinished-writes : (i : ℕ) (a : Row) → row_at rows i ≡ some a → Unfinished a → IsWrite a → times i order ≤ 1
  -- unfinished reads never
  pub unfinished-reads : (i : ℕ) (a : Row) → row_at rows i ≡ some a → Unfinished a → IsRead a → times i order ≡ 0
  -- each process keeps its sequence
  pub sequence : (front middle back : List ℕ) (i j : ℕ) (a b : Row)
      → order ≡ front ++ (i ∷ (middle ++ (j ∷ back)))
      → row_at rows i ≡ some a
      → row_at rows j ≡ some b
      → a.process ≡ b.process
      → i < j
  -- each completed read has the value of the nearest earlier write to its register, or 0 if there is none
  pub reads : (front back : List ℕ) (i : ℕ) (a : Row)
      → order ≡ front ++ (i ∷ back)
      → row_at rows i ≡ some a
      → Completed a
      → IsRead a
      → a.value ≡ holds rows a.register 0 front
