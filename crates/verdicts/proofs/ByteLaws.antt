-- std's big-endian bytes of a number are those of document 02.
use Rattle.std.specs.Prelude.{ℕ, ◌^◌, ◌<◌, ◌≡◌, refl, cond, List, [], ◌∷◌, get_or}
use Rattle.std.specs.Int.{w16, w32, w64, to_be_bytes}
use Rattle.std.proofs.Common.{arith, ap₂, ◌∙◌}
use Rattle.verdicts.specs.declared.rows.Row.{Row as CodeRow}
use Rattle.verdicts.specs.Rows.{kind_byte, told}
use Rattle.verdicts.specs.File.{two, four, eight, row_bytes}

pub two-bytes : (n : ℕ) → n < 2 ^ 16 → to_be_bytes w16 n ≡ two n
two-bytes n h = ap₂ ◌∷◌ (omega arith) refl

pub four-bytes : (n : ℕ) → n < 2 ^ 32 → to_be_bytes w32 n ≡ four n
four-bytes n h = ap₂ ◌∷◌ (omega arith) (ap₂ ◌∷◌ (omega arith) (ap₂ ◌∷◌ (omega arith) (ap₂ ◌∷◌ (omega arith) refl)))

pub eight-bytes : (n : ℕ) → n < 2 ^ 64 → to_be_bytes w64 n ≡ eight n
eight-bytes n h =
    ap₂ ◌∷◌ (omega arith)
    (ap₂ ◌∷◌ (omega arith)
    (ap₂ ◌∷◌ (omega arith)
    (ap₂ ◌∷◌ (omega arith) (ap₂ ◌∷◌ (omega arith) (ap₂ ◌∷◌ (omega arith) (ap₂ ◌∷◌ (omega arith) (ap₂ ◌∷◌ (omega arith) refl)))))))

-- a row's bytes, one by one
pub row-laid : (a : CodeRow) (value : List ℕ) (kind mark : ℕ) → a.value < 2 ^ 64 → value ≡ to_be_bytes w64 a.value → kind ≡ kind_byte a.kind → mark ≡ cond a.complete 1 0
    → ◌≡◌ {A = List ℕ}
    (a.process ∷ kind ∷ a.register ∷ get_or value 0 0 ∷ get_or value 1 0 ∷ get_or value 2 0 ∷ get_or value 3 0 ∷ get_or value 4 0 ∷ get_or value 5 0 ∷ get_or value 6 0 ∷ get_or value 7 0 ∷ mark ∷ [])
    (row_bytes (told a))
row-laid a value kind mark fits bytes is-kind is-mark =
    let v : value ≡ eight a.value = bytes ∙ eight-bytes a.value fits in
    rw (v, is-kind, is-mark) refl
