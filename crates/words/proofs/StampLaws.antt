-- Laws of `below` and `newer`: stamps are in one strict order, and a kept pair's stamp never falls (document 01, "State").
use Rattle.std.specs.Prelude.{ℕ, ◌≤◌, ◌<◌, Bool, true, false, not, cond, ◌&&◌, ◌||◌, ◌⊎◌, ◌≡◌, refl, T, ltb, eqb}
use Rattle.std.proofs.Math.Bool.{or-true}
use Rattle.std.proofs.Common.{inl, inr, ap, sym, arith, T_not, ltb→lt, eqb→eq, lt-ltb, eq-eqb}
use Rattle.std.proofs.Math.Decide.{dec_lt}
use Rattle.std.proofs.Math.Dec.{not_T}
use Rattle.words.specs.declared.Stamp.{Stamp}
use Rattle.words.specs.declared.Pair.{Pair}
use Rattle.words.specs.Stamps.{start_stamp, below, newer, AtMost}

-- ---- `below`, read as a fact and said from one

-- what the test says: an earlier time, or the same time and a smaller process
abbrev Earlier : Stamp → Stamp → Type 0
Earlier a b = (a.time.0 < b.time.0) ⊎ ((a.time.0 ≡ b.time.0) × (a.process.0 < b.process.0))

read-test : (x y z : Bool) → T (x || (y && z)) → T x ⊎ (T y × T z)
read-test true y z h = inl tt
read-test false true z h = inr (tt, h)
read-test false false z h = absurd h

pub below-read : (a b : Stamp) → T (below a b) → Earlier a b
unfolding below
below-read a b h =
    elim (read-test (ltb a.time.0 b.time.0) (eqb a.time.0 b.time.0) (ltb a.process.0 b.process.0) h) [
      | inl p ↦ inl (ltb→lt _ _ p)
      | inr p ↦ inr (eqb→eq _ _ p.0, ltb→lt _ _ p.1)
    ]

pub below-time : (a b : Stamp) → a.time.0 < b.time.0 → T (below a b)
unfolding below
below-time a b h = rw (lt-ltb _ _ h) tt

pub below-process : (a b : Stamp) → a.time.0 ≡ b.time.0 → a.process.0 < b.process.0 → T (below a b)
unfolding below
below-process a b e h = rw (eq-eqb _ _ e, lt-ltb _ _ h, or-true) tt

pub below-time⁻ : (a b : Stamp) → T (below a b) → a.time.0 ≤ b.time.0
below-time⁻ a b h = elim (below-read a b h) [ inl p ↦ omega arith | inr p ↦ omega arith ]

-- ---- a strict order, in which any two stamps are in one of three ways

pub below-irreflexive : (a : Stamp) → T (below a a) → ⊥
below-irreflexive a h = elim (below-read a a h) [ inl p ↦ omega arith | inr p ↦ omega arith ]

pub below-transitive : (a b c : Stamp) → T (below a b) → T (below b c) → T (below a c)
below-transitive a b c h l = go (below-read a b h) (below-read b c l)
  where
    go : Earlier a b → Earlier b c → T (below a c)
    go (inl p) (inl q) = below-time a c (omega arith)
    go (inl p) (inr q) = below-time a c (omega arith)
    go (inr p) (inl q) = below-time a c (omega arith)
    go (inr p) (inr q) = below-process a c (omega arith) (omega arith)

pub below-asymmetric : (a b : Stamp) → T (below a b) → T (below b a) → ⊥
below-asymmetric a b h l = below-irreflexive a (below-transitive a b a h l)

pub three_ways : (m n : ℕ) → (m < n) ⊎ ((m ≡ n) ⊎ (n < m))
three_ways m n =
    elim (dec_lt m n) [
      | yes p ↦ inl p
      | no p ↦ elim (dec_lt n m) [ yes q ↦ inr (inr q) | no q ↦ inr (inl (omega arith)) ]
    ]

-- a stamp is its two numbers
pub same-stamp : (a b : Stamp) → a.time.0 ≡ b.time.0 → a.process.0 ≡ b.process.0 → a ≡ b
same-stamp a b p q = λ i. record { time = record { 0 = p i }; process = record { 0 = q i } }

pub below_total : (a b : Stamp) → T (below a b) ⊎ ((a ≡ b) ⊎ T (below b a))
below_total a b = go (three_ways a.time.0 b.time.0) (three_ways a.process.0 b.process.0)
  where
    go : (a.time.0 < b.time.0) ⊎ ((a.time.0 ≡ b.time.0) ⊎ (b.time.0 < a.time.0))
        → (a.process.0 < b.process.0) ⊎ ((a.process.0 ≡ b.process.0) ⊎ (b.process.0 < a.process.0))
        → T (below a b) ⊎ ((a ≡ b) ⊎ T (below b a))
    go (inl p) q = inl (below-time a b p)
    go (inr (inl e)) (inl q) = inl (below-process a b e q)
    go (inr (inl e)) (inr (inl f)) = inr (inl (same-stamp a b e f))
    go (inr (inl e)) (inr (inr q)) = inr (inr (below-process b a (sym e) q))
    go (inr (inr p)) q = inr (inr (below-time b a p))

-- ---- `AtMost`: the order that goes with it

either_way : (t : Bool) → T t ⊎ T (not t)
either_way true = inl tt
either_way false = inr tt

pub below_or : (a b : Stamp) → T (below a b) ⊎ AtMost b a
below_or a b = either_way (below a b)

pub below→at_most : (a b : Stamp) → T (below a b) → AtMost a b
below→at_most a b h = not_T (below b a) (below-asymmetric a b h)

pub at_most-cases : (a b : Stamp) → AtMost a b → T (below a b) ⊎ (a ≡ b)
at_most-cases a b h =
    elim (below_total a b) [ inl p ↦ inl p | inr (inl e) ↦ inr e | inr (inr q) ↦ absurd (T_not (below b a) h q) ]

pub at_most-reflexive : (a : Stamp) → AtMost a a
at_most-reflexive a = not_T (below a a) (below-irreflexive a)

pub at_most-below : (a b c : Stamp) → AtMost a b → T (below b c) → T (below a c)
at_most-below a b c h l = elim (at_most-cases a b h) [ inl p ↦ below-transitive a b c p l | inr e ↦ rw e l ]

pub below-at_most : (a b c : Stamp) → T (below a b) → AtMost b c → T (below a c)
below-at_most a b c h l = elim (at_most-cases b c l) [ inl p ↦ below-transitive a b c h p | inr e ↦ rw (← e) h ]

pub at_most-transitive : (a b c : Stamp) → AtMost a b → AtMost b c → AtMost a c
at_most-transitive a b c h l = not_T (below c a) (λ t. T_not (below c b) l (below-at_most c a b t h))

pub at_most-antisymmetric : (a b : Stamp) → AtMost a b → AtMost b a → a ≡ b
at_most-antisymmetric a b h l = elim (at_most-cases a b h) [ inl p ↦ absurd (T_not (below a b) l p) | inr e ↦ e ]

pub at_most-time : (a b : Stamp) → AtMost a b → a.time.0 ≤ b.time.0
at_most-time a b h = elim (at_most-cases a b h) [ inl p ↦ below-time⁻ a b p | inr e ↦ omega (arith, ap (λ (s : Stamp). s.time.0) e) ]

pub at_most-total : (a b : Stamp) → AtMost a b ⊎ AtMost b a
at_most-total a b = elim (below_or a b) [ inl p ↦ inl (below→at_most a b p) | inr q ↦ inr q ]

pub start-least : (s : Stamp) → AtMost start_stamp s
start-least s =
    not_T (below s start_stamp) (λ t. elim (below-read s start_stamp t) [ inl p ↦ omega arith | inr p ↦ omega arith ])

-- ---- `newer`: the greater of two stamps, and the first of equals

pick_first : (t : Bool) (x y : Pair) → T t → cond t x y ≡ x
pick_first true x y h = refl
pick_first false x y h = absurd h

pick_second : (t : Bool) (x y : Pair) → T (not t) → cond t x y ≡ y
pick_second true x y h = absurd h
pick_second false x y h = refl

pub newer-other : (kept other : Pair) → T (below kept.stamp other.stamp) → newer kept other ≡ other
unfolding newer
newer-other kept other h = pick_first (below kept.stamp other.stamp) other kept h

pub newer-kept : (kept other : Pair) → AtMost other.stamp kept.stamp → newer kept other ≡ kept
unfolding newer
newer-kept kept other h = pick_second (below kept.stamp other.stamp) other kept h

pub newer-equal : (kept other : Pair) → kept.stamp ≡ other.stamp → newer kept other ≡ kept
newer-equal kept other e = newer-kept kept other (rw e (at_most-reflexive other.stamp))

pub newer-one : (kept other : Pair) → (newer kept other ≡ kept) ⊎ (newer kept other ≡ other)
newer-one kept other =
    elim (below_or kept.stamp other.stamp) [ inl p ↦ inr (newer-other kept other p) | inr q ↦ inl (newer-kept kept other q) ]

pub newer-left : (kept other : Pair) → AtMost kept.stamp (newer kept other).stamp
newer-left kept other =
    elim (below_or kept.stamp other.stamp) [
      | inl p ↦ rw (newer-other kept other p) (below→at_most kept.stamp other.stamp p)
      | inr q ↦ rw (newer-kept kept other q) (at_most-reflexive kept.stamp)
    ]

pub newer-right : (kept other : Pair) → AtMost other.stamp (newer kept other).stamp
newer-right kept other =
    elim (below_or kept.stamp other.stamp) [
      | inl p ↦ rw (newer-other kept other p) (at_most-reflexive other.stamp)
      | inr q ↦ rw (newer-kept kept other q) q
    ]

-- so no bound on the two stamps is passed
pub newer-least : (kept other : Pair) (s : Stamp) → AtMost kept.stamp s → AtMost other.stamp s → AtMost (newer kept other).stamp s
newer-least kept other s h l = elim (newer-one kept other) [ inl e ↦ rw e h | inr e ↦ rw e l ]

pub newer-monotone : (a b p : Pair) → AtMost a.stamp b.stamp → AtMost (newer a p).stamp (newer b p).stamp
newer-monotone a b p h =
    newer-least a p (newer b p).stamp
    (at_most-transitive a.stamp b.stamp (newer b p).stamp h (newer-left b p)) (newer-right b p)
