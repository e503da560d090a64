-- What a file that is refused by none of 1 to 5 has: all its seven first bytes, and N and M in range.
use Rattle.std.specs.Prelude.{ℕ, ◌-◌, ◌≤◌, ◌≡◌, refl, Bool, true, false, cond, not, ◌||◌, List, eqb, ltb, length}
use Rattle.std.proofs.Common.{true≢false, ltb-false}
use Rattle.std.proofs.lemmas.Bool.{eqb-false}
use Rattle.words.specs.Ranges.{within}
use Rattle.format.specs.Format.{byte_at, word_at, file_refusal}

pub record Opens (bytes : List ℕ) : Type 0 where
  pub long : 7 ≤ length bytes
  pub processes : within (byte_at bytes 5) 7 ≡ true
  pub registers : within (byte_at bytes 6) 16 ≡ true

-- no check holds
none : (a b c d e : Bool) → ◌≡◌ {A = ℕ} (cond a 1 (cond (not b) 2 (cond (not c) 3 (cond (not d) 4 (cond (not e) 5 0))))) 0 → (a ≡ false) × ((d ≡ true) × (e ≡ true))
none true b c d e z = absurd (eqb-false 1 0 refl z)
none false false c d e z = absurd (eqb-false 2 0 refl z)
none false true false d e z = absurd (eqb-false 3 0 refl z)
none false true true false e z = absurd (eqb-false 4 0 refl z)
none false true true true false z = absurd (eqb-false 5 0 refl z)
none false true true true true z = (refl, (refl, refl))

neither_left : (a b : Bool) → (a || b) ≡ false → a ≡ false
neither_left true b e = absurd (true≢false e)
neither_left false b e = refl

pub file-opens : (bytes : List ℕ) → file_refusal bytes ≡ 0 → Opens bytes
unfolding file_refusal
file-opens bytes z =
    let held = none (ltb (length bytes) 7 || ltb 65536 (length bytes)) (eqb (word_at bytes 0) (length bytes - 4)) (eqb (byte_at bytes 4) 1) (within (byte_at bytes 5) 7) (within (byte_at bytes 6) 16) z in
    record {
      long = ltb-false (length bytes) 7 (neither_left (ltb (length bytes) 7) (ltb 65536 (length bytes)) held.0);
      processes = held.1.0;
      registers = held.1.1;
    }
