-- The byte of repliers and the set `responses`: a process that has not replied yet joins both, the greatest pair counted is the max of the set, and
-- one has a majority just when the other has.
use Rattle.std.specs.Prelude.{ℕ, ◌+◌, ◌≤◌, ◌<◌, ◌≡◌, refl, Bool, true, false, ◌||◌, List, [], ◌∷◌, ◌++◌, eqb, leb, length}
use Rattle.std.proofs.Common.{sym, ap, ◌∙◌, true≢false, arith, length-append, eq-eqb, ne_eqb, le-leb}
use Rattle.std.proofs.Math.Bool.{and-false, or-false, or-true}
use Rattle.std.proofs.Math.Decide.{ℕ_discrete}
use Rattle.std.proofs.lemmas.Bool.{eqb-false, lt-leb}
use Rattle.words.specs.Quorum.{member, joined, counted, majority_of}
use Rattle.words.specs.QuorumLaws.{joined-has, joined-counted-new, counted-empty}
use Rattle.sc_abd.specs.Algorithm1.{Tsv, Reply, same_tsv, same_reply, is_in, join, max_tsv, max_from, max_of, majority}
use Rattle.sc_abd.specs.System.{replier, has_replied}
use Rattle.sc_abd.specs.Same.{SameReplies}
use Rattle.moves.specs.OfLaws.{joined-other, member-empty}

pub none-replied : SameReplies 0 []
none-replied = record { each = λ j l. member-empty j; many = counted-empty }

-- ---- a reply from a process that has not replied is not in the set

either-false : (a b : Bool) → (a || b) ≡ false → (a ≡ false) × (b ≡ false)
either-false true b e = absurd (true≢false e)
either-false false b e = (refl, e)

flipped : (i j : ℕ) → eqb j i ≡ false → eqb i j ≡ false
flipped i j e = ne_eqb i j (λ f. eqb-false j i e (sym f))

other-reply : (a b : Reply) → eqb (replier b) (replier a) ≡ false → same_reply a b ≡ false
other-reply (Reply.pair x i) (Reply.pair y j) e = rw (flipped i j e) (and-false (same_tsv x y))
other-reply (Reply.pair x i) (Reply.only j) e = refl
other-reply (Reply.only i) (Reply.pair y j) e = refl
other-reply (Reply.only i) (Reply.only j) e = flipped i j e

not_in : (a : Reply) (responses : List Reply) → has_replied (replier a) responses ≡ false → is_in a responses ≡ false
not_in a [] e = refl
not_in a (b ∷ rest) e =
    let both = either-false (eqb (replier b) (replier a)) (has_replied (replier a) rest) e in
    rw (other-reply a b both.0) (not_in a rest both.1)

-- ---- one more

replied-append : (q : ℕ) (responses : List Reply) (a : Reply) → has_replied q (responses ++ (a ∷ [])) ≡ (has_replied q responses || eqb (replier a) q)
replied-append q [] a = or-false (eqb (replier a) q)
replied-append q (b ∷ rest) a = go (eqb (replier b) q) (replied-append q rest a)
  where
    go : (t : Bool) → has_replied q (rest ++ (a ∷ [])) ≡ (has_replied q rest || eqb (replier a) q)
        → (t || has_replied q (rest ++ (a ∷ []))) ≡ ((t || has_replied q rest) || eqb (replier a) q)
    go true e = refl
    go false e = e

module _ (repliers : ℕ) (responses : List Reply) (same : SameReplies repliers responses) (a : Reply) (l : replier a ≤ 7)
    (new : member repliers (replier a) ≡ false) where
  pub joins : join responses a ≡ responses ++ (a ∷ [])
  joins = rw (not_in a responses (sym (same.each (replier a) l) ∙ new)) refl

  pub one_more : SameReplies (joined repliers (replier a)) (responses ++ (a ∷ []))
  one_more =
      record {
        each = λ q h. rw (replied-append q responses a) (elim (ℕ_discrete (replier a) q) [
          | yes e ↦ rw (eq-eqb (replier a) q e, or-true) (ap (member (joined repliers (replier a))) (sym e) ∙ joined-has repliers (replier a) l)
          | no n ↦ rw (ne_eqb (replier a) q n, or-false) (joined-other repliers (replier a) q n ∙ same.each q h)
        ]);
        many = joined-counted-new repliers (replier a) l new ∙ ap (λ k. k + 1) same.many ∙ sym (length-append responses (a ∷ []));
      }

  -- with fewer than a majority before, our test 'at least' is the algorithm's 'equal'
  pub majority-test : (n : ℕ) → counted repliers < majority_of n
      → eqb (length (responses ++ (a ∷ []))) (majority n) ≡ leb (majority_of n) (counted (joined repliers (replier a)))
  majority-test n few =
      let one = joined-counted-new repliers (replier a) l new in
      let all = one_more.many in
      elim (ℕ_discrete (length (responses ++ (a ∷ []))) (majority n)) [
        | yes e ↦ eq-eqb _ _ e ∙ sym (le-leb (majority_of n) (counted (joined repliers (replier a))) (omega arith))
        | no f ↦ ne_eqb _ _ f ∙ sym (lt-leb (majority_of n) (counted (joined repliers (replier a))) (omega (arith, f)))
      ]

-- ---- the greatest of the set

max-append : (best : Tsv) (responses : List Reply) (tsv : Tsv) (j : ℕ)
    → max_from best (responses ++ (Reply.pair tsv j ∷ [])) ≡ max_tsv (max_from best responses) tsv
max-append best [] tsv j = refl
max-append best (Reply.pair x i ∷ rest) tsv j = max-append (max_tsv best x) rest tsv j
max-append best (Reply.only i ∷ rest) tsv j = max-append best rest tsv j

pub max-more : (responses : List Reply) (tsv : Tsv) (j : ℕ) → max_of (responses ++ (Reply.pair tsv j ∷ [])) ≡ max_tsv (max_of responses) tsv
max-more responses tsv j = max-append _ responses tsv j
