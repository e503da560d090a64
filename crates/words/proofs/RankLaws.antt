-- The laws of `rank`: for processes below 8 the numbers compare as the stamps do, and equal numbers are equal stamps. From 8 on they lie: (1, 9) and
-- (2, 1) are both 17.
use Rattle.std.specs.Prelude.{◌<◌, ◌≡◌, true, ◌&&◌, ltb}
use Rattle.std.proofs.Math.Path.{refl}
use Rattle.std.proofs.Math.Logic.{inl, inr}
use Rattle.std.proofs.Math.Decide.{dec_lt}
use Rattle.std.proofs.Common.{arith}
use borrow.Author.Tests.{ltb-true, lt-ltb, le-ltb, eq-eqb, ne_eqb}
use Rattle.words.specs.declared.Stamp.{Stamp}
use Rattle.words.specs.RangeLaws.{and_left, and_right}
use Rattle.words.specs.Stamps.{stamp_of, below}
use Rattle.words.proofs.StampLaws.{same-stamp, three_ways}
use Rattle.words.specs.Rank.{rank}

module _ (a b : Stamp) (few : a.process.0 < 8) (some : b.process.0 < 8) where
  same-time : a.time.0 ≡ b.time.0 → ltb (rank a) (rank b) ≡ below a b
  unfolding below
  same-time e =
      elim (dec_lt a.process.0 b.process.0) [
        | yes p ↦ rw (lt-ltb (rank a) (rank b) (omega arith), le-ltb a.time.0 b.time.0 (omega arith), eq-eqb _ _ e, lt-ltb _ _ p) refl
        | no p ↦ rw (le-ltb (rank a) (rank b) (omega arith), le-ltb a.time.0 b.time.0 (omega arith), eq-eqb _ _ e, le-ltb a.process.0 b.process.0 (omega arith)) refl
      ]

  pub rank_below : ltb (rank a) (rank b) ≡ below a b
  unfolding below
  rank_below =
      elim (three_ways a.time.0 b.time.0) [
        | inl p ↦ rw (lt-ltb (rank a) (rank b) (omega arith), lt-ltb _ _ p) refl
        | inr (inl e) ↦ same-time e
        | inr (inr p) ↦ rw (le-ltb (rank a) (rank b) (omega arith), le-ltb a.time.0 b.time.0 (omega arith), ne_eqb a.time.0 b.time.0 (λ e. omega arith)) refl
      ]

  pub rank-once : rank a ≡ rank b → a ≡ b
  rank-once e = same-stamp a b (omega arith) (omega arith)

-- the same, from the test that the code makes
pub rank-tested : (a b : Stamp) → (ltb a.process.0 8 && ltb b.process.0 8) ≡ true → ltb (rank a) (rank b) ≡ below a b
rank-tested a b t =
    rank_below a b
    (ltb-true a.process.0 8 (and_left (ltb a.process.0 8) (ltb b.process.0 8) t))
    (ltb-true b.process.0 8 (and_right (ltb a.process.0 8) (ltb b.process.0 8) t))

-- why `few` and `some` are needed
pub rank-lies : rank (stamp_of 1 9) ≡ rank (stamp_of 2 1)
rank-lies = refl
