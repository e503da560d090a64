-- Numbers of four and eight bytes: read from what was written they are the same, and written from what was read they are the same bytes.
use Rattle.std.specs.Prelude.{ℕ, ◌+◌, ◌*◌, ◌/◌, ◌%◌, ◌<◌, ◌≡◌, [], ◌∷◌, ◌++◌, ℤ}
use Rattle.std.proofs.Common.{ap, ◌∙◌, arith, SFits, to_z, of_z, to_z-of_z}
use Rattle.std.specs.Int.{w64}
use Rattle.std.proofs.Math.Facts.{of_z-to_z}
use mir.ValLaws.{to_z-Fits}
use Rattle.writing.specs.Bytes.{word_bytes, value_bytes}

-- four bytes as one number, as `word_at` has it
abbrev pub joined : ℕ → ℕ → ℕ → ℕ → ℕ
joined a b c d = ((a * 256 + b) * 256 + c) * 256 + d

pub word_back : (k : ℕ) → joined (k / 16777216) (k / 65536 % 256) (k / 256 % 256) (k % 256) ≡ k
word_back k = omega arith

pub word_below : (a b c d : ℕ) → a < 256 → b < 256 → c < 256 → d < 256 → joined a b c d < 4294967296
word_below a b c d fa fb fc fd = omega arith

pub word-again : (a b c d : ℕ) → a < 256 → b < 256 → c < 256 → d < 256 → word_bytes (joined a b c d) ≡ a ∷ (b ∷ (c ∷ (d ∷ [])))
unfolding word_bytes
word-again a b c d fa fb fc fd =
    let first : joined a b c d / 16777216 ≡ a = omega arith in
    let second : joined a b c d / 65536 % 256 ≡ b = omega arith in
    let third : joined a b c d / 256 % 256 ≡ c = omega arith in
    let fourth : joined a b c d % 256 ≡ d = omega arith in
    ap (λ (x : ℕ). x ∷ (joined a b c d / 65536 % 256 ∷ (joined a b c d / 256 % 256 ∷ (joined a b c d % 256 ∷ [])))) first
    ∙ ap (λ (x : ℕ). a ∷ (x ∷ (joined a b c d / 256 % 256 ∷ (joined a b c d % 256 ∷ [])))) second
    ∙ ap (λ (x : ℕ). a ∷ (b ∷ (x ∷ (joined a b c d % 256 ∷ [])))) third
    ∙ ap (λ (x : ℕ). a ∷ (b ∷ (c ∷ (x ∷ [])))) fourth

-- two words as one number
abbrev pub twice : ℕ → ℕ → ℕ
twice high low = high * 4294967296 + low

pub value-back : (v : ℤ) → SFits w64 v → to_z w64 (twice (of_z w64 v / 4294967296) (of_z w64 v % 4294967296)) ≡ v
value-back v fits = ap (to_z w64) (same (of_z w64 v)) ∙ to_z-of_z {w = w64} {z = v} fits
  where
    same : (bits : ℕ) → twice (bits / 4294967296) (bits % 4294967296) ≡ bits
    same bits = omega arith

pub value-fits : (high low : ℕ) → high < 4294967296 → low < 4294967296 → SFits w64 (to_z w64 (twice high low))
value-fits high low fh fl = to_z-Fits w64 (twice high low) (record { fits = omega arith })

pub value-again : (high low : ℕ) → high < 4294967296 → low < 4294967296 → value_bytes (to_z w64 (twice high low)) ≡ word_bytes high ++ word_bytes low
unfolding value_bytes
value-again high low fh fl =
    ap (λ (bits : ℕ). word_bytes (bits / 4294967296) ++ word_bytes (bits % 4294967296)) (of_z-to_z {w = w64} {n = twice high low} (record { fits = omega arith }))
    ∙ ap (λ (k : ℕ). word_bytes k ++ word_bytes (twice high low % 4294967296)) first
    ∙ ap (λ (k : ℕ). word_bytes high ++ word_bytes k) second
  where
    first : twice high low / 4294967296 ≡ high
    first = omega arith

    second : twice high low % 4294967296 ≡ low
    second = omega arith
