-- When a file is accepted, and when it is refused by 22 to 27: document 02, "Wish 10", each number's words. `Acceptance.antt` has that the verdict is the first number whose condition holds,
-- and 0 exactly when the file is accepted.
use Rattle.std.specs.Prelude.{ℕ, ◌≤◌, ◌<◌, ◌≡◌, List, ◌∷◌, ◌++◌}
use Rattle.std.proofs.Math.Option.{none, some}
use Rattle.placing.specs.Sequential.{times}
use Rattle.verdicts.specs.Explains.{Row, IsRead, Completed, Unfinished, row_at, holds, Explains}
use Rattle.verdicts.specs.File.{IsFile}

module _ (rows : List Row) (order : List ℕ) where
  -- 23: row number unknown or repeated
  pub data NumberWrong : Type 0 where
    unknown : (i : ℕ) → 1 ≤ times i order → row_at rows i ≡ none → NumberWrong
    repeated : (i : ℕ) → 2 ≤ times i order → NumberWrong

  -- 24: unfinished read named
  pub record ReadNamed : Type 0 where
    pub i : ℕ
    pub a : Row
    pub here : row_at rows i ≡ some a
    pub unfinished : Unfinished a
    pub read : IsRead a
    pub named : 1 ≤ times i order

  -- 25: completed row missing
  pub record RowMissing : Type 0 where
    pub i : ℕ
    pub a : Row
    pub here : row_at rows i ≡ some a
    pub complete : Completed a
    pub missing : times i order ≡ 0

  -- 26: process sequence broken
  pub record SequenceBroken : Type 0 where
    pub front : List ℕ
    pub middle : List ℕ
    pub back : List ℕ
    pub i : ℕ
    pub j : ℕ
    pub a : Row
    pub b : Row
    pub stand : order ≡ front ++ (i ∷ (middle ++ (j ∷ back)))
    pub here : row_at rows i ≡ some a
    pub there : row_at rows j ≡ some b
    pub together : a.process ≡ b.process
    pub back-to-front : j ≤ i

  -- 27: read value wrong
  pub record ReadWrong : Type 0 where
    pub front : List ℕ
    pub back : List ℕ
    pub i : ℕ
    pub a : Row
    pub stand : order ≡ front ++ (i ∷ back)
    pub here : row_at rows i ≡ some a
    pub complete : Completed a
    pub read : IsRead a
    pub other : a.value ≡ holds rows a.register 0 front → ⊥

-- the bytes are the file of a history and an order that explains it
pub record Accepted (bytes : List ℕ) : Type 0 where
  pub file : IsFile bytes
  pub explained : Explains file.rows file.order

-- the condition of each number
pub data Refused (bytes : List ℕ) : ℕ → Type 0 where
  -- a file that breaks the layout or its limits or has bytes left over, or a row after an unfinished one of its process
  no-file : (IsFile bytes → ⊥) → Refused bytes 22
  number-wrong : (f : IsFile bytes) → NumberWrong f.rows f.order → Refused bytes 23
  read_named : (f : IsFile bytes) → ReadNamed f.rows f.order → Refused bytes 24
  row-missing : (f : IsFile bytes) → RowMissing f.rows f.order → Refused bytes 25
  sequence-broken : (f : IsFile bytes) → SequenceBroken f.rows f.order → Refused bytes 26
  read-wrong : (f : IsFile bytes) → ReadWrong f.rows f.order → Refused bytes 27

-- a number is given exactly when its condition holds and no smaller one's does
abbrev pub First : List ℕ → ℕ → Type 0
First bytes n = Refused bytes n × ((m : ℕ) → m < n → Refused bytes m → ⊥)
