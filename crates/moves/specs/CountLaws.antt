-- The count of a set of processes is how many of 1..N are in it.
use Rattle.std.specs.Prelude.{ℕ, zero, suc, ◌+◌, ◌/◌, ◌%◌, ◌^◌, ◌≤◌, ◌<◌, ◌≡◌, refl, Bool, true, false, eqb}
use Rattle.std.proofs.Common.{ap, ◌∙◌, div-one, add-one, one-add, arith, shr-shr, shr_lt, le-leb, ne_eqb}
use Rattle.std.proofs.Math.Decide.{ℕ_discrete}
use Rattle.std.specs.Int.Count.{ones, ones_step}
use Rattle.std.proofs.lemmas.Nat.{ones-le}
use Rattle.words.specs.Quorum.{member, counted}
use Rattle.words.specs.QuorumLaws.{Inside}
use Rattle.moves.specs.Exchange.{how_many}
use Rattle.moves.specs.Lists.{one}

-- ---- two tests over the same numbers

many-same : (f g : ℕ → Bool) (a left : ℕ) → ((q : ℕ) → a ≤ q → q < a + left → f q ≡ g q) → how_many f a left ≡ how_many g a left
many-same f g a zero h = refl
many-same f g a (suc left) h =
    let rest = many-same f g (suc a) left (λ q l k. h q (omega arith) (omega arith)) in
    let first : one (f a) ≡ one (g a) = ap one (h a (omega arith) (omega arith)) in
    omega arith

pub many_more : (f g : ℕ → Bool) (a left : ℕ) → ((q : ℕ) → a ≤ q → q < a + left → f q ≡ true → g q ≡ true) → how_many f a left ≤ how_many g a left
many_more f g a zero h = omega arith
many_more f g a (suc left) h =
    let rest = many_more f g (suc a) left (λ q l k. h q (omega arith) (omega arith)) in
    let first = by (f a) (g a) (h a (omega arith) (omega arith)) in
    omega arith
  where
    by : (x y : Bool) → (x ≡ true → y ≡ true) → one x ≤ one y
    by true y i = let e : one y ≡ 1 = ap one (i refl) in omega arith
    by false y i = omega arith

many-shift : (f : ℕ → Bool) (a left : ℕ) → how_many f (suc a) left ≡ how_many (λ q. f (suc q)) a left
many-shift f a zero = refl
many-shift f a (suc left) = ap (λ k. one (f (suc a)) + k) (many-shift f (suc a) left)

-- ---- the ones of a number, place by place

abbrev pub is_set : ℕ → ℕ → Bool
is_set s q = eqb (s / 2 ^ q % 2) 1

pub set_first : (s : ℕ) → one (is_set s 0) ≡ s % 2
set_first s = rw (div-one s) (elim (ℕ_discrete (s % 2) 1) [ yes e ↦ rw e refl | no n ↦ rw (ne_eqb _ _ n) (omega arith) ])

pub set_next : (s q : ℕ) → is_set s (suc q) ≡ is_set (s / 2) q
set_next s q = rw (← one-add q, ← shr-shr s 1 q)

ones-many : (k s : ℕ) → s < 2 ^ k → ones s ≡ how_many (is_set s) 0 k
ones-many zero s l = let a = ones-le 0 s l in omega arith
ones-many (suc k) s l =
    let rest = ones-many k (s / 2) (shr_lt k 1 (rw (add-one k) l)) in
    let shifted = many-shift (is_set s) 0 k ∙ many-same (λ q. is_set s (suc q)) (is_set (s / 2)) 0 k (λ q a b. set_next s q) in
    omega (arith, ones_step s, set_first s)

-- ---- members

member-set : (s q : ℕ) → q ≤ 7 → member s q ≡ is_set s q
unfolding member
member-set s q l = rw (le-leb q 7 l)

pub counted-many : (n s : ℕ) → n ≤ 7 → Inside n s → counted s ≡ how_many (member s) 1 n
counted-many n s l h =
    let all = ones-many (suc n) s (rw (← add-one n) h.1) in
    let same = many-same (member s) (is_set s) 1 n (λ q a b. member-set s q (omega arith)) in
    omega (arith, set_first s, h.0)
