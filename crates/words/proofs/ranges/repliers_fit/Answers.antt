-- Up to process 7 the bit above the last lies within two bytes; for more processes every byte is below.
use Rattle.std.specs.Prelude.{ℕ, ◌≡◌, ◌+◌, ◌*◌, ◌%◌, ◌^◌, ◌<◌, ◌≤◌, min, ◌&&◌, eqb, ltb}
use Rattle.std.proofs.Common.{arith, ap, ◌∙◌, lt-ltb}
use Rattle.std.proofs.Math.Decide.{dec_le}
use native.Mathlib.Nat.{one-mul}
use lib.Dec.{lit<}
use lib.Pow.{shl_exact}
use Rattle.words.specs.RangeLaws.{below_power}
use Rattle.words.proofs.ranges.repliers_fit.Goals as goal

capped : (s n : ℕ) → s < 256 → {t m : ℕ} → t ≡ s → m ≡ min n 7 → ltb t (1 * 2 ^ (m + 1) % 65536) ≡ ltb s (2 ^ (n + 1))
capped s n byte t m =
    rw (t, m) (elim (dec_le n 7) [
      | yes few ↦ ap (ltb s) (rw (few-min few) (shl_exact {a = 1} 1 (n + 1) 16 (lit< tt) (omega arith) ∙ one-mul _))
      | no more ↦ rw (more-min more) (lt-ltb s 256 byte ∙ below_power s n byte (omega arith))
    ])
  where
    few-min : n ≤ 7 → min n 7 ≡ n
    few-min l = omega arith

    more-min : (n ≤ 7 → ⊥) → min n 7 ≡ 7
    more-min l = omega arith

pub returns : goal.returns
returns c = ap (λ b. eqb (c.args.repliers % 2) 0 && b) (capped c.args.repliers c.args.n (omega arith) c.from.ensures c.min.ensures)
