-- The row of an operation that was begun: it is the last, and a write's pair comes from it.
use Rattle.std.specs.Prelude.{ℕ, ◌+◌, ◌-◌, ◌≤◌, ◌≡◌, refl, List, [], ◌∷◌, ◌++◌, ℤ, length, get_or}
use Rattle.std.proofs.Common.{ap, ◌∙◌, inr, arith, length-append}
use Rattle.std.proofs.Math.Seq.{get_or-append_seam}
use Rattle.words.specs.Stamps.{stamp_of}
use Rattle.tables.specs.declared.Row.{Row}
use Rattle.tables.specs.Tables.{empty_row}
use Rattle.state.specs.Step.{write_row}
use Rattle.consistency.specs.Sound.{From}

-- the last row by its number
pub last_row : (rows after : List Row) (r : Row) → after ≡ rows ++ (r ∷ [])
    → ((1 ≤ length rows + 1) × (length rows + 1 ≤ length after)) × (get_or after (length rows + 1 - 1) empty_row ≡ r)
last_row rows after r e =
    let grown = ap length e ∙ length-append rows (r ∷ []) in
    let place : length rows + 1 - 1 ≡ length rows = omega arith in
    (omega arith, rw (e, place) (get_or-append_seam rows r [] empty_row))

pub written-source : (rows after : List Row) (p x : ℕ) (value : ℤ) (clock : ℕ) → after ≡ rows ++ (write_row p x value clock ∷ [])
    → From after x (record { stamp = stamp_of clock p; value = value })
written-source rows after p x value clock e =
    let grown = ap length e ∙ length-append rows (write_row p x value clock ∷ []) in
    inr (
      length rows,
      omega arith,
      rw (e, get_or-append_seam rows (write_row p x value clock) [] empty_row) (record { kind = refl; register = refl; stamp = refl; value = refl }),
    )
