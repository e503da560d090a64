-- The rows of a history and the entries that `Facts` speaks of: entry number j + 1 is the operation of the row at place j.
use Rattle.std.specs.Prelude.{ℕ, zero, suc, ◌<◌, ◌≡◌, refl, List, [], ◌∷◌, map, ℤ, length, get_or}
use Rattle.std.proofs.Common.{sym, ap, subst, arith}
use Rattle.std.proofs.Math.Option.{some, some-injective, none-ne-some}
use Rattle.placing.specs.Operation.{Operation, Kind}
use Rattle.placing.specs.OneOrder.{Entry}
use Rattle.placing.specs.Sequential.{row_at}
use Rattle.placing.specs.Facts.{Row as IsRow}
use Rattle.placing.proofs.RowLaws.{row-at, row_of}
use Rattle.tables.specs.declared.Kind.{Kind as RowKind}
use Rattle.tables.specs.declared.Kind.TheVariants.{Read, Write}
use Rattle.tables.specs.declared.Row.{Row}
use Rattle.tables.specs.Tables.{empty_row}
use Rattle.order.specs.Operations.{kind_of, answered_of, operation_of}

abbrev pub entry_at : List Row → ℕ → Entry ℤ
entry_at rows j = record { row = suc j; operation = operation_of (get_or rows j empty_row) }

abbrev At : List Row → ℕ → Operation ℤ → Type 0
At rows i o = (j : ℕ) × (j < length rows) × (i ≡ suc j) × (o ≡ operation_of (get_or rows j empty_row))

row-place : (rows : List Row) (i : ℕ) (o : Operation ℤ) → row_at (map operation_of rows) i ≡ some o → At rows i o
row-place [] i o e = absurd (none-ne-some o e)
row-place (r ∷ rows) zero o e = absurd (none-ne-some o e)
row-place (r ∷ rows) (suc zero) o e = (0, omega arith, refl, sym (some-injective (operation_of r) o e))
row-place (r ∷ rows) (suc (suc i)) o e =
    let (j, l, f, g) = row-place rows (suc i) o e in
    (suc j, omega arith, ap suc f, g)

place-row : (rows : List Row) (j : ℕ) → j < length rows → row_at (map operation_of rows) (suc j) ≡ some (operation_of (get_or rows j empty_row))
place-row [] j l = absurd (omega arith)
place-row (r ∷ rows) zero l = refl
place-row (r ∷ rows) (suc j) l = place-row rows j (omega arith)

pub is_row : (rows : List Row) (j : ℕ) → j < length rows → IsRow (map operation_of rows) (entry_at rows j)
is_row rows j l = row_of (map operation_of rows) (suc j) (operation_of (get_or rows j empty_row)) (place-row rows j l)

-- what holds of the entries of all places holds of all rows
pub every-entry : (rows : List Row) (P : Entry ℤ → Type 0) → ((j : ℕ) → j < length rows → P (entry_at rows j))
    → (a : Entry ℤ) → IsRow (map operation_of rows) a → P a
every-entry rows P each a m =
    let (j, l, e, f) = row-place rows a.row a.operation (row-at (map operation_of rows) a m) in
    let same : entry_at rows j ≡ a = λ i. record { row = sym e i; operation = sym f i } in
    subst P same (each j l)

pub every_two : (rows : List Row) (P : Entry ℤ → Entry ℤ → Type 0)
    → ((i j : ℕ) → i < length rows → j < length rows → P (entry_at rows i) (entry_at rows j))
    → (a b : Entry ℤ) → IsRow (map operation_of rows) a → IsRow (map operation_of rows) b → P a b
every_two rows P each a b m n =
    every-entry rows (λ a. P a b) (λ i l. every-entry rows (P (entry_at rows i)) (λ j k. each i j l k) b n) a m

-- ---- an operation's response and kind, and its row's

pub answered-some : (n t : ℕ) → answered_of n ≡ some t → (0 < n) × (n ≡ t)
answered-some zero t e = absurd (none-ne-some t e)
answered-some (suc n) t e = (omega arith, some-injective (suc n) t e)

pub some-answered : (n : ℕ) → 0 < n → answered_of n ≡ some n
some-answered zero l = absurd (omega arith)
some-answered (suc n) l = refl

pub kind-write : (k : RowKind) → kind_of k ≡ Kind.Write → k ≡ Write
kind-write Read e = let z : ◌≡◌ {A = ℕ} 0 1 = cc in absurd (omega arith)
kind-write Write e = refl

pub kind-read : (k : RowKind) → kind_of k ≡ Kind.Read → k ≡ Read
kind-read Read e = refl
kind-read Write e = let z : ◌≡◌ {A = ℕ} 0 1 = cc in absurd (omega arith)
