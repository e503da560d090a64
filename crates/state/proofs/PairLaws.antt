-- Laws of pairs inside the ranges: of wider ranges, of the newer of two, of the starting pair and of a write's own; and of the sixteen of a replica.
use Rattle.std.specs.Prelude.{ℕ, zero, suc, ◌≤◌, ◌<◌, ◌≡◌, refl, Bool, true, ◌&&◌, List, [], ◌∷◌, leb, eqb, ℤ, length, get_or, set}
use Rattle.std.proofs.Common.{inl, inr, not-suc-le-zero, le_of_suc-le-suc, arith, leb-true, le-leb, ne_eqb}
use Rattle.std.specs.Bool.{beq}
use Rattle.words.specs.declared.Pair.{Pair}
use Rattle.words.specs.Ranges.{within, stamp_fits, pair_fits}
use Rattle.words.specs.RangeLaws.{and_left, and_right, within-least, within-most}
use Rattle.words.specs.Stamps.{stamp_of, start_pair, newer}
use Rattle.words.proofs.StampLaws.{newer-one}
use Rattle.state.specs.State.{State}
use Rattle.state.specs.Within.{Within}
use Rattle.state.specs.WellFormed.{pairs_fit}
use Rattle.state.proofs.EveryLaws.{both}

pub within-ok : (x most : ℕ) → within x most ≡ true → Within x most
within-ok x most e = record { least = within-least x most e; most = within-most x most e }

pub ok-within : {x most : ℕ} → Within x most → within x most ≡ true
ok-within {x} {most} w = let n : x ≡ 0 → ⊥ = λ e. omega (arith, w.least) in simp (ne_eqb x 0 n, le-leb x most w.most)

pub pair-wider : (a b n k : ℕ) (p : Pair) → a ≤ b → n ≤ k → pair_fits a n p ≡ true → pair_fits b k p ≡ true
pair-wider a b n k p l o e =
    let time : ℕ = p.stamp.time.0 in
    let process : ℕ = p.stamp.process.0 in
    let zeros : Bool = beq (eqb time 0) (eqb process 0) in
    let f : stamp_fits a n p.stamp ≡ true = and_left _ _ e in
    let t : time ≤ a = leb-true time a (and_left (leb time a) zeros (and_left (leb time a && zeros) (leb process n) f)) in
    let q : process ≤ n = leb-true process n (and_right (leb time a && zeros) (leb process n) f) in
    both
    (both (both (le-leb time b (omega arith)) (and_right (leb time a) zeros (and_left (leb time a && zeros) (leb process n) f)))
    (le-leb process k (omega arith)))
    (and_right (stamp_fits a n p.stamp) _ e)

pub pair-newer : (a n : ℕ) (p q : Pair) → pair_fits a n p ≡ true → pair_fits a n q ≡ true → pair_fits a n (newer p q) ≡ true
pair-newer a n p q e f = elim (newer-one p q) [ inl h ↦ rw h e | inr h ↦ rw h f ]

pub pair-start : (a n : ℕ) → pair_fits a n start_pair ≡ true
pair-start a n = rw (le-leb 0 a (omega arith), le-leb 0 n (omega arith)) refl

pub pair-own : (a n time process : ℕ) (value : ℤ) → Within time a → Within process n → pair_fits a n (record { stamp = stamp_of time process; value = value }) ≡ true
pair-own a n time process value t p =
    let k : time ≡ 0 → ⊥ = λ e. omega (arith, t.least) in
    let l : process ≡ 0 → ⊥ = λ e. omega (arith, p.least) in
    simp (ne_eqb time 0 k, ne_eqb process 0 l, le-leb time a t.most, le-leb process n p.most)

-- ---- the pairs of registers 1..M

module _ (s : State) where
  pub pairs-at : (k : ℕ) (ps : List Pair) (i : ℕ) (d : Pair) → pairs_fit s k ps ≡ true → i < k → i < length ps → pair_fits s.accepted s.n (get_or ps i d) ≡ true
  pairs-at zero ps i d e l h = absurd (not-suc-le-zero l)
  pairs-at (suc k) [] i d e l h = absurd (not-suc-le-zero h)
  pairs-at (suc k) (p ∷ ps) zero d e l h = and_left (pair_fits s.accepted s.n p) (pairs_fit s k ps) e
  pairs-at (suc k) (p ∷ ps) (suc i) d e l h =
      pairs-at k ps i d (and_right (pair_fits s.accepted s.n p) (pairs_fit s k ps) e) (le_of_suc-le-suc l) (le_of_suc-le-suc h)

  pub pairs_set : (k : ℕ) (ps : List Pair) (i : ℕ) (q : Pair) → pairs_fit s k ps ≡ true → i < k → pair_fits s.accepted s.n q ≡ true → pairs_fit s k (set ps i q) ≡ true
  pairs_set zero ps i q e l f = absurd (not-suc-le-zero l)
  pairs_set (suc k) [] i q e l f = refl
  pairs_set (suc k) (p ∷ ps) zero q e l f = both f (and_right (pair_fits s.accepted s.n p) (pairs_fit s k ps) e)
  pairs_set (suc k) (p ∷ ps) (suc i) q e l f =
      both (and_left (pair_fits s.accepted s.n p) (pairs_fit s k ps) e)
      (pairs_set k ps i q (and_right (pair_fits s.accepted s.n p) (pairs_fit s k ps) e) (le_of_suc-le-suc l) f)
