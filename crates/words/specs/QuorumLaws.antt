-- Laws of the replier set: who is in it, how its count moves, and that two majorities share a process.
use Rattle.std.specs.Prelude.{ℕ, zero, suc, ◌+◌, ◌-◌, ◌/◌, ◌%◌, ◌^◌, ◌≤◌, ◌<◌, max, Bool, true, false, ◌⊎◌, ◌≡◌, refl, eqb}
use Rattle.std.proofs.Common.{true≢false, inl, inr, sym, ap, ◌∙◌, pow-suc, div-one, div-lt_iff_lt-mul, lt_of_lt_of_le, zero-add, add-one, one-add, arith, pow_pos, pow_mono, shr-shr, shr_lt, le-leb, eqb-true, eq-eqb}
use Rattle.std.proofs.Math.Decide.{dec_le, ℕ_discrete}
use Rattle.std.proofs.Math.Nat.{div_self, div-eq_of_lt}
use Rattle.std.specs.Int.Bits.{bit_or, or_step, or_zero_r}
use Rattle.std.proofs.lemmas.Nat.{or_shr, or_lt, ones-le}
use Rattle.std.specs.Int.Count.{ones, ones_step}
use Rattle.std.proofs.Math.Pow.{pow-lt}
use Rattle.std.proofs.lemmas.Bool.{lt-leb, eqb-false}
use Rattle.words.specs.Quorum.{member, joined, counted, majority_of}

-- ---- one bit of a number: bit q + 1 of s is bit q of s / 2, so a law of one bit goes by induction on its place

abbrev bit : ℕ → ℕ → ℕ
bit s q = s / 2 ^ q % 2

bit-first : (s : ℕ) → bit s 0 ≡ s % 2
bit-first s = rw (div-one s)

bit-next : (s q : ℕ) → bit s (suc q) ≡ bit (s / 2) q
bit-next s q = rw (← one-add q, ← shr-shr s 1 q)

bit-beyond : (s q : ℕ) → s < 2 ^ q → bit s q ≡ 0
bit-beyond s q h = rw (div-eq_of_lt h)

-- a bit is set in `a or b` where it is set in one of them
bit-or : (a b q : ℕ) → bit (bit_or a b) q ≡ max (bit a q) (bit b q)
bit-or a b q = rw (or_shr a b q, or_step (a / 2 ^ q) (b / 2 ^ q)) (omega arith)

low_or : (a b : ℕ) → bit_or a b % 2 ≡ max (a % 2) (b % 2)
low_or a b = rw (or_step a b) (omega arith)

half-or : (a b : ℕ) → bit_or a b / 2 ≡ bit_or (a / 2) (b / 2)
half-or a b = or_shr a b 1

half-power : (p : ℕ) → 2 ^ suc p / 2 ≡ 2 ^ p
half-power p = rw (pow-suc 2 p) (omega arith)

even_power : (p : ℕ) → 2 ^ suc p % 2 ≡ 0
even_power p = rw (pow-suc 2 p) (omega arith)

bit-power : (p : ℕ) → bit (2 ^ p) p ≡ 1
bit-power p = rw (div_self (pow_pos p))

bit-power-other : (p q : ℕ) → (p ≡ q → ⊥) → bit (2 ^ p) q ≡ 0
bit-power-other zero zero f = absurd (f refl)
bit-power-other zero (suc q) f = bit-beyond 1 (suc q) (pow-lt {i = 0} {j = suc q} (omega arith))
bit-power-other (suc p) zero f = rw (bit-first (2 ^ suc p), even_power p)
bit-power-other (suc p) (suc q) f = rw (bit-next (2 ^ suc p) q, half-power p) (bit-power-other p q (λ e. f (ap suc e)))

-- to set a bit that is set changes nothing
or_set : (s p : ℕ) → bit s p ≡ 1 → bit_or s (2 ^ p) ≡ s
or_set s zero e = let f : s % 2 ≡ 1 = sym (bit-first s) ∙ e in rw (or_step s 1, or_zero_r) (omega arith)
or_set s (suc p) e =
    let rest : bit_or (s / 2) (2 ^ p) ≡ s / 2 = or_set (s / 2) p (sym (bit-next s p) ∙ e) in
    rw (or_step s (2 ^ suc p), half-power p, even_power p, rest) (omega arith)

-- and one that is not set counts one more
ones-or : (s p : ℕ) → bit s p ≡ 0 → ones (bit_or s (2 ^ p)) ≡ ones s + 1
ones-or s zero e =
    let f : s % 2 ≡ 0 = sym (bit-first s) ∙ e in
    rw (ones_step (bit_or s 1), half-or s 1, low_or s 1, or_zero_r, ones_step s) (omega arith)
ones-or s (suc p) e =
    let rest : ones (bit_or (s / 2) (2 ^ p)) ≡ ones (s / 2) + 1 = ones-or (s / 2) p (sym (bit-next s p) ∙ e) in
    rw (ones_step (bit_or s (2 ^ suc p)), half-or s (2 ^ suc p), low_or s (2 ^ suc p), half-power p, even_power p, rest, ones_step s) (omega arith)

half-below : (s k : ℕ) → s < 2 ^ suc k → s / 2 < 2 ^ k
half-below s k h = shr_lt k 1 (rw (add-one k) h)

-- where more bits are counted in two numbers of k bits than there are places, a place is set in both
meet-bits : (k s t : ℕ) → s < 2 ^ k → t < 2 ^ k → k < ones s + ones t → (q : ℕ) × (q < k) × (bit s q ≡ 1) × (bit t q ≡ 1)
meet-bits zero s t hs ht l = let a = ones-le 0 s hs in let b = ones-le 0 t ht in absurd (omega arith)
meet-bits (suc k) s t hs ht l =
    elim (ℕ_discrete (s % 2 + t % 2) 2) [
      | yes e ↦ (0, omega arith, rw (bit-first s) (omega arith), rw (bit-first t) (omega arith))
      | no f ↦
          let r = meet-bits k (s / 2) (t / 2) (half-below s k hs) (half-below t k ht) (omega (arith, ones_step s, ones_step t)) in
          (suc r.0, omega arith, bit-next s r.0 ∙ r.2, bit-next t r.0 ∙ r.3)
    ]

-- ---- members, as bits: the tests of `member` and `joined` are read here, and the laws below go by bits alone

member-bit-test : (s q : ℕ) → q ≤ 7 → member s q ≡ eqb (bit s q) 1
unfolding member
member-bit-test s q l = rw (le-leb q 7 l)

pub member-small : (s q : ℕ) → member s q ≡ true → q ≤ 7
unfolding member
member-small s q h =
    elim (dec_le q 7) [ yes l ↦ l | no n ↦ let f : 7 < q = omega arith in absurd (true≢false (sym h ∙ rw (lt-leb q 7 f))) ]

member-bit : (s q : ℕ) → member s q ≡ true → bit s q ≡ 1
member-bit s q h = eqb-true _ _ (sym (member-bit-test s q (member-small s q h)) ∙ h)

bit-member : (s q : ℕ) → q ≤ 7 → bit s q ≡ 1 → member s q ≡ true
bit-member s q l e = member-bit-test s q l ∙ eq-eqb _ _ e

absent-bit : (s q : ℕ) → q ≤ 7 → member s q ≡ false → bit s q ≡ 0
absent-bit s q l e = let f = eqb-false (bit s q) 1 (sym (member-bit-test s q l) ∙ e) in omega arith

-- ---- who is in a set that a process has joined

joined-bit : (s p : ℕ) → p ≤ 7 → joined s p ≡ bit_or s (2 ^ p)
unfolding joined
joined-bit s p l = rw (le-leb p 7 l)

joined-outside : (s p : ℕ) → 7 < p → joined s p ≡ s
unfolding joined
joined-outside s p l = rw (lt-leb p 7 l)

joined-bits : (s p q : ℕ) → p ≤ 7 → bit (joined s p) q ≡ max (bit s q) (bit (2 ^ p) q)
joined-bits s p q l = rw (joined-bit s p l) (bit-or s (2 ^ p) q)

pub joined-has : (s p : ℕ) → p ≤ 7 → member (joined s p) p ≡ true
joined-has s p l = bit-member (joined s p) p l (rw (joined-bits s p p l, bit-power p) (omega arith))

pub joined_keeps : (s p q : ℕ) → member s q ≡ true → member (joined s p) q ≡ true
joined_keeps s p q h =
    elim (dec_le p 7) [
      | yes l ↦ bit-member (joined s p) q (member-small s q h) (rw (joined-bits s p q l, member-bit s q h) (omega arith))
      | no n ↦ rw (joined-outside s p (omega arith)) h
    ]

pub joined-only : (s p q : ℕ) → member (joined s p) q ≡ true → (p ≡ q) ⊎ (member s q ≡ true)
joined-only s p q h =
    elim (ℕ_discrete p q) [
      | yes e ↦ inl e
      | no f ↦ inr (elim (dec_le p 7) [
        | yes l ↦
            bit-member s q (member-small (joined s p) q h)
            (omega (arith, member-bit (joined s p) q h, joined-bits s p q l, bit-power-other p q f))
        | no n ↦ rw (joined-outside s p (omega arith)) at h
      ])
    ]

-- a process that answers again changes nothing, so it is not counted twice
pub joined-member : (s p : ℕ) → member s p ≡ true → joined s p ≡ s
joined-member s p h = joined-bit s p (member-small s p h) ∙ or_set s p (member-bit s p h)

pub joined-twice : (s p : ℕ) → joined (joined s p) p ≡ joined s p
joined-twice s p =
    elim (dec_le p 7) [ yes l ↦ joined-member (joined s p) p (joined-has s p l) | no n ↦ joined-outside (joined s p) p (omega arith) ]

-- ---- how the count moves

pub counted-empty : counted 0 ≡ 0
unfolding ones
counted-empty = refl

pub joined-counted-new : (s p : ℕ) → p ≤ 7 → member s p ≡ false → counted (joined s p) ≡ counted s + 1
joined-counted-new s p l h = rw (joined-bit s p l) (ones-or s p (absent-bit s p l h))

-- so a count never falls, and rises by at most one
pub joined-counted : (s p : ℕ) → (counted s ≤ counted (joined s p)) × (counted (joined s p) ≤ counted s + 1)
joined-counted s p = go (member s p) refl
  where
    go : (b : Bool) → member s p ≡ b → (counted s ≤ counted (joined s p)) × (counted (joined s p) ≤ counted s + 1)
    go true e = rw (joined-member s p e) (omega arith)
    go false e =
        elim (dec_le p 7) [ yes l ↦ rw (joined-counted-new s p l e) (omega arith) | no n ↦ rw (joined-outside s p (omega arith)) (omega arith) ]

-- ---- a set of processes from 1 to n

-- a byte stays a byte
pub joined-fits : (s p : ℕ) → s < 256 → joined s p < 256
joined-fits s p h =
    elim (dec_le p 7) [
      | yes l ↦ rw (joined-bit s p l) (or_lt 8 s (2 ^ p) h (pow-lt {i = p} {j = 8} (omega arith)))
      | no n ↦ rw (joined-outside s p (omega arith)) h
    ]

-- Bit 0 is not set, and none above bit n. It is said of the number, since a bound on the number is what `joined` keeps;
-- `inside-members` and `members-inside` say the same of the members.
abbrev pub Inside : ℕ → ℕ → Type 0
Inside n s = (s % 2 ≡ 0) × (s < 2 ^ (n + 1))

pub inside-empty : (n : ℕ) → Inside n 0
inside-empty n = (refl, pow_pos (n + 1))

pub inside-members : (n s : ℕ) → Inside n s → (q : ℕ) → member s q ≡ true → (1 ≤ q) × (q ≤ n)
inside-members n s h q m = (least q (member-bit s q m), most (member-bit s q m))
  where
    least : (k : ℕ) → bit s k ≡ 1 → 1 ≤ k
    least zero e = let f : s % 2 ≡ 1 = sym (bit-first s) ∙ e in omega arith
    least (suc k) e = omega arith

    most : bit s q ≡ 1 → q ≤ n
    most e =
        elim (dec_le q n) [
          | yes l ↦ l
          | no f ↦ let z = bit-beyond s q (lt_of_lt_of_le h.1 (pow_mono {i = n + 1} {j = q} (omega arith))) in absurd (omega arith)
        ]

-- a number whose bits from k up are not set is below 2 ^ k
narrow : (d k s : ℕ) → s < 2 ^ (d + k) → ((q : ℕ) → k ≤ q → q < d + k → bit s q ≡ 0) → s < 2 ^ k
narrow zero k s h f = rw (zero-add k) at h
narrow (suc d) k s h f =
    let e : suc d + k ≡ 1 + (d + k) = omega arith in
    let top : s / 2 ^ (d + k) < 2 = shr_lt 1 (d + k) (rw e at h) in
    let clear : bit s (d + k) ≡ 0 = f (d + k) (omega arith) (omega arith) in
    let none : s / 2 ^ (d + k) < 1 = omega arith in
    narrow d k s (omega (arith, (div-lt_iff_lt-mul (pow_pos (d + k))).0 none)) (λ q a b. f q a (omega arith))

pub members-inside : (n s : ℕ) → n ≤ 7 → s < 256 → ((q : ℕ) → member s q ≡ true → (1 ≤ q) × (q ≤ n)) → Inside n s
members-inside n s l h f = (
  rw (← bit-first s) (clear 0 (omega arith) (λ r. omega arith)),
  narrow (7 - n) (n + 1) s (rw whole h) (λ q a b. clear q (omega arith) (λ r. omega arith)),
)
  where
    whole : 7 - n + (n + 1) ≡ 8
    whole = omega arith

    clear : (q : ℕ) → q ≤ 7 → ((1 ≤ q) × (q ≤ n) → ⊥) → bit s q ≡ 0
    clear q a g = elim (ℕ_discrete (bit s q) 1) [ yes e ↦ absurd (g (f q (bit-member s q a e))) | no z ↦ omega arith ]

pub joined-inside : (n s p : ℕ) → 1 ≤ p → p ≤ n → n ≤ 7 → Inside n s → Inside n (joined s p)
joined-inside n s p first last l h =
    rw (joined-bit s p (omega arith)) (
      rw (low_or s (2 ^ p), h.0, sym (bit-first (2 ^ p)) ∙ bit-power-other p 0 (omega arith)) refl,
      or_lt (n + 1) s (2 ^ p) h.1 (pow-lt {i = p} {j = n + 1} (omega arith)),
    )

-- ---- two sets share a process

abbrev pub Shared : ℕ → ℕ → ℕ → Type 0
Shared n s t = (q : ℕ) × (1 ≤ q) × (q ≤ n) × (member s q ≡ true) × (member t q ≡ true)

-- two sets that together count more than n: without bit 0 they have n places between them
pub meet : (n s t : ℕ) → n ≤ 7 → Inside n s → Inside n t → n < counted s + counted t → Shared n s t
meet n s t l hs ht more =
    let r = meet-bits n (s / 2) (t / 2) (shr_lt n 1 hs.1) (shr_lt n 1 ht.1) (omega (arith, ones_step s, ones_step t)) in
    let set : (u : ℕ) → bit (u / 2) r.0 ≡ 1 → member u (suc r.0) ≡ true = λ u e. bit-member u (suc r.0) (omega arith) (bit-next u r.0 ∙ e) in
    (suc r.0, omega arith, omega arith, set s r.2, set t r.3)

pub majorities-meet : (n s t : ℕ) → n ≤ 7 → Inside n s → Inside n t → majority_of n ≤ counted s → majority_of n ≤ counted t → Shared n s t
majorities-meet n s t l hs ht a b = meet n s t l hs ht (omega arith)
