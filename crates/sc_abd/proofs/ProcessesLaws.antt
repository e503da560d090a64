-- The processes in a set, listed: the list tells the set, and that of a replier set is the list of the processes in `responses`.
use Rattle.std.specs.Prelude.{ℕ, zero, suc, ◌+◌, ◌/◌, ◌%◌, ◌^◌, ◌≤◌, ◌<◌, ◌≡◌, refl, Bool, true, false, cond, ◌||◌, List, [], ◌∷◌, eqb}
use Rattle.std.proofs.Common.{sym, ap, ap₂, ◌∙◌, lt_of_lt_of_le, pow-suc, add-one, arith, pow_mono, shr_lt, eq-eqb, ne_eqb, le-leb}
use Rattle.std.proofs.Math.Decide.{ℕ_discrete, dec_lt}
use Rattle.std.proofs.Math.Nat.{div-eq_of_lt}
use Rattle.words.specs.Quorum.{member}
use Rattle.words.specs.QuorumLaws.{Inside, inside-members}
use Rattle.moves.specs.CountLaws.{set_first, set_next}
use Rattle.moves.specs.Lists.{one}
use Rattle.moves.specs.OfLaws.{is_false}
use Rattle.sc_abd.specs.Algorithm1.{Reply}
use Rattle.sc_abd.specs.System.{has_replied, those, repliers_of}
use Rattle.sc_abd.specs.Same.{in_set, processes_in, SameReplies}

-- ---- the ones of a number

-- it has none at a place that its power passes, so none at its own place or above
none-beyond : (s j : ℕ) → s < 2 ^ j → in_set s j ≡ false
none-beyond s j l = let zero-there : s / 2 ^ j ≡ 0 = div-eq_of_lt l in rw zero-there

below_power : (s : ℕ) → s < 2 ^ s
below_power zero = omega arith
below_power (suc s) = let l = below_power s in rw (pow-suc 2 s) (omega arith)

none_above : (s j : ℕ) → s ≤ j → in_set s j ≡ false
none_above s j l = none-beyond s j (lt_of_lt_of_le (below_power s) (pow_mono l))

one_same : (x y : Bool) → one x ≡ one y → x ≡ y
one_same true true e = refl
one_same true false e = absurd (omega arith)
one_same false true e = absurd (omega arith)
one_same false false e = refl

-- two numbers with the same ones are one number
same-ones : (k s t : ℕ) → s < 2 ^ k → t < 2 ^ k → ((j : ℕ) → in_set s j ≡ in_set t j) → s ≡ t
same-ones zero s t a b h = omega arith
same-ones (suc k) s t a b h =
    let halves : s / 2 ≡ t / 2 =
    same-ones k (s / 2) (t / 2) (shr_lt k 1 (rw (add-one k) a)) (shr_lt k 1 (rw (add-one k) b))
    (λ j. sym (set_next s j) ∙ h (suc j) ∙ set_next t j) in
    let low : s % 2 ≡ t % 2 = sym (set_first s) ∙ ap one (h 0) ∙ set_first t in
    omega arith

-- ---- lists of numbers that pass a test

abbrev has : ℕ → List ℕ → Bool
has j [] = false
has j (i ∷ rest) = eqb i j || has j rest

module _ (test : ℕ → Bool) where
  has-later : (i left j : ℕ) → j < i → has j (those test i left) ≡ false
  has-later i zero j l = refl
  has-later i (suc left) j l = go (test i) (has-later (suc i) left j (omega arith))
    where
      go : (b : Bool) → has j (those test (suc i) left) ≡ false → has j (cond b (i ∷ those test (suc i) left) (those test (suc i) left)) ≡ false
      go true e = rw (ne_eqb i j (λ f. omega arith)) e
      go false e = e

  has-those : (i left j : ℕ) → i ≤ j → j < i + left → has j (those test i left) ≡ test j
  has-those i zero j a b = absurd (omega arith)
  has-those i (suc left) j a b =
      elim (ℕ_discrete i j) [
        | yes e ↦ here (test i) e refl
        | no n ↦ further (test i) n (has-those (suc i) left j (omega (arith, n)) (omega arith))
      ]
    where
      here : (b : Bool) → i ≡ j → test i ≡ b → has j (cond b (i ∷ those test (suc i) left) (those test (suc i) left)) ≡ test j
      here true e f = rw (eq-eqb i j e) (sym f ∙ ap test e)
      here false e f = has-later (suc i) left j (omega arith) ∙ sym f ∙ ap test e

      further : (b : Bool) → (i ≡ j → ⊥) → has j (those test (suc i) left) ≡ test j
          → has j (cond b (i ∷ those test (suc i) left) (those test (suc i) left)) ≡ test j
      further true n e = rw (ne_eqb i j n) e
      further false n e = e

-- tests that agree where both are asked, and fail where only they are asked, list the same
those-same : (f g : ℕ → Bool) (i k l : ℕ) → ((j : ℕ) → i ≤ j → j < i + k → j < i + l → f j ≡ g j) → ((j : ℕ) → i + l ≤ j → j < i + k → f j ≡ false)
    → ((j : ℕ) → i + k ≤ j → j < i + l → g j ≡ false) → those f i k ≡ those g i l
those-same f g i zero zero both first second = refl
those-same f g i zero (suc l) both first second =
    rw (second i (omega arith) (omega arith))
    (those-same f g (suc i) zero l (λ j a b c. absurd (omega arith)) (λ j a b. absurd (omega arith)) (λ j a b. second j (omega arith) (omega arith)))
those-same f g i (suc k) zero both first second =
    rw (first i (omega arith) (omega arith))
    (those-same f g (suc i) k zero (λ j a b c. absurd (omega arith)) (λ j a b. first j (omega arith) (omega arith)) (λ j a b. absurd (omega arith)))
those-same f g i (suc k) (suc l) both first second =
    ap₂ (λ (b : Bool) (rest : List ℕ). cond b (i ∷ rest) rest) (both i (omega arith) (omega arith) (omega arith))
    (those-same f g (suc i) k l (λ j a b c. both j (omega arith) (omega arith) (omega arith)) (λ j a b. first j (omega arith) (omega arith))
    (λ j a b. second j (omega arith) (omega arith)))

-- ---- the list tells the set

in-processes : (s j : ℕ) → has j (processes_in s) ≡ in_set s j
in-processes s j =
    elim (dec_lt j s) [
      | yes l ↦ has-those (in_set s) 0 s j (omega arith) (omega arith)
      | no n ↦ none-listed 0 s (omega arith) ∙ sym (none_above s j (omega arith))
    ]
  where
    none-listed : (i left : ℕ) → i + left ≤ j → has j (those (in_set s) i left) ≡ false
    none-listed i zero l = refl
    none-listed i (suc left) l = go (in_set s i) (none-listed (suc i) left (omega arith))
      where
        go : (b : Bool) → has j (those (in_set s) (suc i) left) ≡ false
            → has j (cond b (i ∷ those (in_set s) (suc i) left) (those (in_set s) (suc i) left)) ≡ false
        go true e = rw (ne_eqb i j (λ f. omega arith)) e
        go false e = e

pub processes-once : (s t : ℕ) → processes_in s ≡ processes_in t → s ≡ t
processes-once s t e =
    same-ones (s + t) s t
    (lt_of_lt_of_le (below_power s) (pow_mono {i = s} {j = s + t} (omega arith)))
    (lt_of_lt_of_le (below_power t) (pow_mono {i = t} {j = s + t} (omega arith)))
    (λ j. sym (in-processes s j) ∙ ap (has j) e ∙ in-processes t j)

-- ---- the list of a replier set

in-member : (s j : ℕ) → j ≤ 7 → in_set s j ≡ member s j
unfolding member
in-member s j l = rw (le-leb j 7 l) refl

pub processes-replied : (n s : ℕ) (responses : List Reply) → n ≤ 7 → Inside n s → SameReplies s responses → processes_in s ≡ repliers_of n responses
processes-replied n s responses few inside same =
    those-same (in_set s) (λ j. has_replied j responses) 0 s (suc n)
    (λ j a b c. told j (omega arith))
    (λ j a b. none-beyond s j (lt_of_lt_of_le inside.1 (pow_mono {i = n + 1} {j = j} (omega arith))))
    (λ j a b. sym (told j (omega arith)) ∙ none_above s j (omega arith))
    ∙ rw nobody refl
  where
    told : (j : ℕ) → j ≤ n → in_set s j ≡ has_replied j responses
    told j l = in-member s j (omega arith) ∙ same.each j (omega arith)

    -- there is no process 0
    nobody : has_replied 0 responses ≡ false
    nobody =
        sym (same.each 0 (omega arith))
        ∙ is_false (member s 0) (λ h. let l = inside-members n s inside 0 h in omega arith)
