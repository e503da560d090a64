-- 23: the pass over the numbers tells whether one is unknown or repeated, and its table has what stands in the order.
use Rattle.std.specs.Prelude.{ℕ, suc, zero, ◌≤◌, ◌<◌, ◌≡◌, refl, Bool, true, false, not, ◌&&◌, List, [], ◌∷◌, eqb, length, get_or, set}
use Rattle.std.proofs.Common.{sym, ap, ◌∙◌, true≢false, arith, length-set, get_or-set_same, get_or-set_other, eqb-true}
use Rattle.std.proofs.Math.Option.{none-ne-some}
use Rattle.std.proofs.lemmas.List.{length-replicate}
use Rattle.std.proofs.lemmas.Bool.{eqb-false}
use Rattle.words.specs.Ranges.{within}
use Rattle.words.specs.RangeLaws.{and_left, and_right, within-most}
use Rattle.placing.specs.Sequential.{times}
use Rattle.verdicts.specs.Explains.{Row}
use Rattle.verdicts.specs.Refusals.{NumberWrong, unknown, repeated}
use Rattle.verdicts.specs.Verdict.{fresh, marked, named, zeros}
use Rattle.verdicts.specs.Tells.{Tells, telling}
use Rattle.verdicts.proofs.RowLaws.{row_within, row-outside}
use Rattle.verdicts.specs.TimesLaws.{times-here, times-other, times_more, zero_of}

pub zeros-length : (n : ℕ) → length (zeros n) ≡ n
unfolding zeros
zeros-length n = length-replicate n 0

pub zeros-at : (n i : ℕ) → get_or (zeros n) i 0 ≡ 0
unfolding zeros
zeros-at zero i = refl
zeros-at (suc n) zero = refl
zeros-at (suc n) (suc i) = zeros-at n i

-- ---- no number is refused

-- number i of the order is a row's, not marked before, and stands once
pub record Fresh (count : ℕ) (seen order : List ℕ) (i : ℕ) : Type 0 where
  pub known : 1 ≤ times i order → within i count ≡ true
  pub unseen : 1 ≤ times i order → get_or seen i 0 ≡ 0
  pub once : times i order ≤ 1

module _ (count j : ℕ) (seen order : List ℕ) (room : count < length seen) (inside : within j count ≡ true) (new : get_or seen j 0 ≡ 0) where
  fresh-more : (i : ℕ) → Fresh count (set seen j 1) order i → Fresh count seen (j ∷ order) i
  fresh-more i f = go (eqb i j) refl
    where
      place : j < length seen
      place = omega (arith, within-most j count inside)

      none_left : i ≡ j → times i order ≡ 0
      none_left e = zero_of (times i order) (λ h. let z : ◌≡◌ {A = ℕ} 0 1 = sym (f.unseen h) ∙ ap (λ (k : ℕ). get_or (set seen j 1) k 0) e ∙ get_or-set_same seen j 1 0 place in omega arith)

      go : (t : Bool) → eqb i j ≡ t → Fresh count seen (j ∷ order) i
      go true e =
          let q : i ≡ j = eqb-true i j e in
          record {
            known = λ h. ap (λ (k : ℕ). within k count) q ∙ inside;
            unseen = λ h. ap (λ (k : ℕ). get_or seen k 0) q ∙ new;
            once = rw e (omega (arith, none_left q));
          }
      go false e =
          let apart : i ≡ j → ⊥ = eqb-false i j e in
          let same : times i (j ∷ order) ≡ times i order = times-other i j order apart in
          record {
            known = λ h. f.known (omega (arith, same));
            unseen = λ h. sym (get_or-set_other seen j i 1 0 apart) ∙ f.unseen (omega (arith, same));
            once = omega (arith, same, f.once);
          }

pub fresh-true : (count : ℕ) (seen order : List ℕ) → count < length seen → fresh count seen order ≡ true → (i : ℕ) → Fresh count seen order i
fresh-true count seen [] room e i = record { known = λ h. absurd (omega arith); unseen = λ h. absurd (omega arith); once = omega arith }
fresh-true count seen (j ∷ order) room e i =
    let inside = and_left (within j count) _ e in
    let rest = and_right (within j count) _ e in
    let new = eqb-true (get_or seen j 0) 0 (and_left (eqb (get_or seen j 0) 0) _ rest) in
    fresh-more count j seen order room inside new i
    (fresh-true count (set seen j 1) order (omega (arith, length-set seen j 1)) (and_right (eqb (get_or seen j 0) 0) _ rest) i)

-- ---- a number is refused

data Stale (count : ℕ) (seen order : List ℕ) : Type 0 where
  outside : (i : ℕ) → 1 ≤ times i order → within i count ≡ false → Stale count seen order
  twice : (i : ℕ) → 2 ≤ times i order → Stale count seen order
  before : (i : ℕ) → 1 ≤ times i order → (get_or seen i 0 ≡ 0 → ⊥) → Stale count seen order

stale-more : (count j : ℕ) (seen order : List ℕ) → Stale count (set seen j 1) order → Stale count seen (j ∷ order)
stale-more count j seen order (outside i h e) = outside i (omega (arith, times_more i j order)) e
stale-more count j seen order (twice i h) = twice i (omega (arith, times_more i j order))
stale-more count j seen order (before i h old) = go (eqb i j) refl
  where
    go : (t : Bool) → eqb i j ≡ t → Stale count seen (j ∷ order)
    go true e =
        let q : i ≡ j = eqb-true i j e in
        twice i (rw e (omega arith))
    go false e =
        let apart : i ≡ j → ⊥ = eqb-false i j e in
        before i (omega (arith, times_more i j order)) (λ z. old (get_or-set_other seen j i 1 0 apart ∙ z))

fresh-false : (count : ℕ) (seen order : List ℕ) → fresh count seen order ≡ false → Stale count seen order
fresh-false count seen [] e = absurd (true≢false e)
fresh-false count seen (j ∷ order) e = go (within j count) refl (eqb (get_or seen j 0) 0) refl (fresh count (set seen j 1) order) refl (fresh-false count (set seen j 1) order)
  where
    here : 1 ≤ times j (j ∷ order)
    here = omega (arith, times-here j order)

    go : (a : Bool) → within j count ≡ a → (b : Bool) → eqb (get_or seen j 0) 0 ≡ b → (c : Bool) → fresh count (set seen j 1) order ≡ c
        → (fresh count (set seen j 1) order ≡ false → Stale count (set seen j 1) order) → Stale count seen (j ∷ order)
    go false p b q c r rest = outside j here p
    go true p false q c r rest = before j here (eqb-false (get_or seen j 0) 0 q)
    go true p true q false r rest = stale-more count j seen order (rest r)
    go true p true q true r rest = absurd (true≢false (sym (ap (λ (t : Bool). t && (eqb (get_or seen j 0) 0 && fresh count (set seen j 1) order)) p ∙ ap (λ (t : Bool). t && fresh count (set seen j 1) order) q ∙ r) ∙ e))

-- ---- what it tells

pub number-test : (rows : List Row) (order : List ℕ) → length rows ≤ 1024 → Tells (not (fresh (length rows) (zeros 1025) order)) (NumberWrong rows order)
number-test rows order few = telling (fresh (length rows) (zeros 1025) order) (λ e. wrong (fresh-false (length rows) (zeros 1025) order e)) right
  where
    wrong : Stale (length rows) (zeros 1025) order → NumberWrong rows order
    wrong (outside i h e) = unknown i h (row-outside rows i e)
    wrong (twice i h) = repeated i h
    wrong (before i h old) = absurd (old (zeros-at 1025 i))

    right : fresh (length rows) (zeros 1025) order ≡ true → NumberWrong rows order → ⊥
    right e (unknown i h z) =
        let f = fresh-true (length rows) (zeros 1025) order (omega (arith, zeros-length 1025)) e i in
        none-ne-some (named rows i) (sym z ∙ row_within rows i (f.known h))
    right e (repeated i h) =
        let f = fresh-true (length rows) (zeros 1025) order (omega (arith, zeros-length 1025)) e i in
        omega (arith, f.once)

-- ---- the table after the whole order

marked-stays : (i : ℕ) (seen order : List ℕ) → get_or seen i 0 ≡ 1 → get_or (marked seen order) i 0 ≡ 1
marked-stays i seen [] e = e
marked-stays i seen (j ∷ order) e = marked-stays i (set seen j 1) order (go (eqb i j) refl)
  where
    go : (t : Bool) → eqb i j ≡ t → get_or (set seen j 1) i 0 ≡ 1
    go true q = ap (λ (k : ℕ). get_or (set seen k 1) i 0) (sym (eqb-true i j q)) ∙ set-one
      where
        set-one : get_or (set seen i 1) i 0 ≡ 1
        set-one = kept seen i e
          where
            kept : (s : List ℕ) (k : ℕ) → get_or s k 0 ≡ 1 → get_or (set s k 1) k 0 ≡ 1
            kept [] k z = z
            kept (a ∷ s) zero z = refl
            kept (a ∷ s) (suc k) z = kept s k z
    go false q = get_or-set_other seen j i 1 0 (eqb-false i j q) ∙ e

pub marked-standing : (i : ℕ) (seen order : List ℕ) → i < length seen → 1 ≤ times i order → get_or (marked seen order) i 0 ≡ 1
marked-standing i seen [] room h = absurd (omega arith)
marked-standing i seen (j ∷ order) room h = go (eqb i j) refl (marked-standing i (set seen j 1) order (omega (arith, length-set seen j 1)))
  where
    go : (t : Bool) → eqb i j ≡ t → (1 ≤ times i order → get_or (marked (set seen j 1) order) i 0 ≡ 1) → get_or (marked (set seen j 1) order) i 0 ≡ 1
    go true q rest = marked-stays i (set seen j 1) order (ap (λ (k : ℕ). get_or (set seen k 1) i 0) (sym (eqb-true i j q)) ∙ get_or-set_same seen i 1 0 room)
    go false q rest = rest (omega (arith, h, times-other i j order (eqb-false i j q)))

pub marked-absent : (i : ℕ) (seen order : List ℕ) → times i order ≡ 0 → get_or (marked seen order) i 0 ≡ get_or seen i 0
marked-absent i seen [] h = refl
marked-absent i seen (j ∷ order) h = go (eqb i j) refl (marked-absent i (set seen j 1) order)
  where
    go : (t : Bool) → eqb i j ≡ t → (times i order ≡ 0 → get_or (marked (set seen j 1) order) i 0 ≡ get_or (set seen j 1) i 0) → get_or (marked (set seen j 1) order) i 0 ≡ get_or seen i 0
    go true q rest = absurd (omega (arith, h, times-here i order, ap (λ (k : ℕ). times i (k ∷ order)) (eqb-true i j q)))
    go false q rest = rest (omega (arith, h, times-other i j order (eqb-false i j q))) ∙ get_or-set_other seen j i 1 0 (eqb-false i j q)
