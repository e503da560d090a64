-- The bytes of a row of ours: its mark of completion, and its value's bits.
use Rattle.std.specs.Prelude.{ℕ, zero, suc, ◌-◌, ◌%◌, ◌<◌, ◌≡◌, refl, cond, ℤ, pos, negsuc}
use Rattle.std.proofs.Common.{sym, ap, ◌∙◌, arith}
use Rattle.placing.specs.Operation.{is_write, is_some}
use Rattle.tables.specs.declared.Row.{Row}
use Rattle.order.specs.Operations.{kind_of, answered_of, operation_of}
use Rattle.verdicts.specs.File.{row_bytes}
use Rattle.verdicts.specs.Operations.{as_row}
use Rattle.histories.specs.OwnFile.{bits_of}

pub answered-mark : (time : ℕ) → (time ≡ 0 → ⊥) → ◌≡◌ {A = ℕ} 1 (cond (is_some (answered_of time)) 1 0)
answered-mark zero h = absurd (h refl)
answered-mark (suc time) h = refl

pub bits-negative : (value : ℤ) (k : ℕ) → value ≡ negsuc k → k < 9223372036854775808 → 18446744073709551615 - k ≡ bits_of value
bits-negative value k e h =
    let same : 18446744073709551615 - k ≡ (18446744073709551616 - suc k) % 18446744073709551616 = omega arith in
    same ∙ sym (ap bits_of e)

pub bits_positive : (value : ℤ) (k : ℕ) → value ≡ pos k → k < 9223372036854775808 → k ≡ bits_of value
bits_positive value k e h =
    let same : k ≡ k % 18446744073709551616 = omega arith in
    same ∙ sym (ap bits_of e)

-- a row from its fields as bytes
pub fields-row : (row : Row) (kind complete value : ℕ) → kind ≡ cond (is_write (kind_of row.kind)) 2 1 → complete ≡ cond (is_some (answered_of row.answered.0)) 1 0 → value ≡ bits_of row.value
    → row_bytes (record { process = row.process.0; kind = kind; register = row.register; value = value; complete = complete }) ≡ row_bytes (as_row bits_of (operation_of row))
fields-row row kind complete value ek ec ev = rw (ek, ec, ev) refl
