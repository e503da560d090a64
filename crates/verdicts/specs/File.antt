-- The file that bears a history and a proposed order: document 02, "Wish 10". All numbers are big-endian.
use Rattle.std.specs.Prelude.{ℕ, ◌/◌, ◌%◌, ◌<◌, ◌≤◌, ◌≡◌, List, [], ◌∷◌, ◌++◌, ◌⊎◌, length, get_or}
use Rattle.std.proofs.Math.Option.{some}
use Rattle.placing.specs.Sequential.{times}
use Rattle.verdicts.specs.Explains.{Row, IsRead, IsWrite, Completed, Unfinished, row_at}

-- ---- from rows and an order to bytes

-- two, four and eight bytes of a number
abbrev pub two : ℕ → List ℕ
two n = n / 256 ∷ (n % 256 ∷ [])

abbrev pub four : ℕ → List ℕ
four n = two (n / 65536) ++ two (n % 65536)

abbrev pub eight : ℕ → List ℕ
eight n = four (n / 4294967296) ++ four (n % 4294967296)

-- process, kind, register, value, complete: twelve bytes
abbrev pub row_bytes : Row → List ℕ
row_bytes a = a.process ∷ (a.kind ∷ (a.register ∷ (eight a.value ++ (a.complete ∷ []))))

abbrev pub rows_bytes : List Row → List ℕ
rows_bytes [] = []
rows_bytes (a ∷ rows) = row_bytes a ++ rows_bytes rows

abbrev pub numbers_bytes : List ℕ → List ℕ
numbers_bytes [] = []
numbers_bytes (i ∷ order) = two i ++ numbers_bytes order

-- version 1, the rows' count and the rows, the order's count and its row numbers
abbrev pub body : List Row → List ℕ → List ℕ
body rows order = 1 ∷ (two (length rows) ++ (rows_bytes rows ++ (two (length order) ++ numbers_bytes order)))

-- the length of what follows, and that
unfoldable pub history_file : List Row → List ℕ → List ℕ
history_file rows order = four (length (body rows order)) ++ body rows order

-- ---- the limits

-- each field within its bytes, and its kind and its mark of completion one of two
pub record Formed (a : Row) : Type 0 where
  pub process : a.process < 256
  pub kind : IsRead a ⊎ IsWrite a
  pub register : a.register < 256
  pub value : a.value < 18446744073709551616
  pub complete : Completed a ⊎ Unfinished a

pub record History (rows : List Row) (order : List ℕ) : Type 0 where
  -- at most 1,024 rows, and at most 1,024 row numbers of two bytes
  pub few : length rows ≤ 1024
  pub short : length order ≤ 1024
  pub numbers : (i : ℕ) → 1 ≤ times i order → i < 65536
  pub formed : (i : ℕ) (a : Row) → row_at rows i ≡ some a → Formed a
  -- no row after an unfinished one of its process
  pub ended : (i j : ℕ) (a b : Row) → row_at rows i ≡ some a → row_at rows j ≡ some b → a.process ≡ b.process → i < j → Completed a

-- every number of a list is a byte
abbrev pub Bytes : List ℕ → Type 0
Bytes bytes = (at : ℕ) → get_or bytes at 0 < 256

-- the bytes are the file of some history and order within the limits
pub record IsFile (bytes : List ℕ) : Type 0 where
  pub rows : List Row
  pub order : List ℕ
  pub history : History rows order
  pub written : bytes ≡ history_file rows order
