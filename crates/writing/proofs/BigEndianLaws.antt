-- The bytes of a number as the library gives them, from the highest on, are those of document 01.
use Rattle.std.specs.Prelude.{ℕ, ◌<◌, ◌^◌, ◌≡◌, refl, ℤ, [], ◌∷◌, ◌++◌, ◌/◌, ◌%◌}
use Rattle.std.specs.Int.{w32, w64, to_be_bytes, cast_unsigned}
use Rattle.std.proofs.Common.{ap, arith, of_z}
use Rattle.writing.specs.Bytes.{word_bytes, value_bytes}

pub word_is : (k : ℕ) → k < 2 ^ 32 → to_be_bytes w32 k ≡ word_bytes k
unfolding word_bytes
word_is k small =
    let top : k / 16777216 % 256 ≡ k / 16777216 = omega (arith, small) in
    ap (λ b. b ∷ (k / 65536 % 256 ∷ (k / 256 % 256 ∷ (k % 256 ∷ [])))) top

eight : (n : ℕ) → n < 2 ^ 64 → to_be_bytes w64 n ≡ word_bytes (n / 4294967296) ++ word_bytes (n % 4294967296)
unfolding word_bytes
eight n small =
    let a : n / 72057594037927936 % 256 ≡ n / 4294967296 / 16777216 = omega (arith, small) in
    let b : n / 281474976710656 % 256 ≡ n / 4294967296 / 65536 % 256 = omega arith in
    let c : n / 1099511627776 % 256 ≡ n / 4294967296 / 256 % 256 = omega arith in
    let d : n / 4294967296 % 256 ≡ n / 4294967296 % 256 = omega arith in
    let e : n / 16777216 % 256 ≡ n % 4294967296 / 16777216 = omega arith in
    let f : n / 65536 % 256 ≡ n % 4294967296 / 65536 % 256 = omega arith in
    let g : n / 256 % 256 ≡ n % 4294967296 / 256 % 256 = omega arith in
    let h : n % 256 ≡ n % 4294967296 % 256 = omega arith in
    rw (a, b, c, e, f, g, h) refl

pub value-is : (v : ℤ) → of_z w64 v < 2 ^ 64 → to_be_bytes w64 (cast_unsigned w64 v) ≡ value_bytes v
unfolding value_bytes
value-is v small = eight (of_z w64 v) small
