-- How often a number stands in an order, one number after another.
use Rattle.std.specs.Prelude.{ℕ, zero, suc, ◌+◌, ◌≤◌, ◌≡◌, refl, Bool, true, false, List, [], ◌∷◌, ◌++◌, eqb}
use Rattle.std.proofs.Common.{sym, ap, arith, eq-eqb, ne_eqb, eqb-true}
use Rattle.std.proofs.lemmas.Bool.{eqb-false}
use Rattle.placing.specs.Sequential.{times}

pub times-here : (i : ℕ) (order : List ℕ) → times i (i ∷ order) ≡ 1 + times i order
times-here i order = rw (eq-eqb i i refl) refl

pub times-other : (i j : ℕ) (order : List ℕ) → (i ≡ j → ⊥) → times i (j ∷ order) ≡ times i order
times-other i j order apart = rw (ne_eqb i j apart) (omega arith)

pub times_more : (i j : ℕ) (order : List ℕ) → times i order ≤ times i (j ∷ order)
times_more i j order = omega arith

-- what does not stand stands no times
pub zero_of : (n : ℕ) → (1 ≤ n → ⊥) → n ≡ 0
zero_of zero h = refl
zero_of (suc n) h = absurd (h (omega arith))

-- what stands in an order splits it, and what splits it stands in it
pub record Standing (i : ℕ) (order : List ℕ) : Type 0 where
  pub front : List ℕ
  pub back : List ℕ
  pub whole : order ≡ front ++ (i ∷ back)

pub standing : (i : ℕ) (order : List ℕ) → 1 ≤ times i order → Standing i order
standing i [] h = absurd (omega arith)
standing i (j ∷ order) h = go (eqb i j) refl (standing i order)
  where
    go : (t : Bool) → eqb i j ≡ t → (1 ≤ times i order → Standing i order) → Standing i (j ∷ order)
    go true e rest = record { front = []; back = order; whole = ap (λ (k : ℕ). k ∷ order) (sym (eqb-true i j e)) }
    go false e rest =
        let s = rest (omega (arith, h, times-other i j order (eqb-false i j e))) in
        record { front = j ∷ s.front; back = s.back; whole = ap (λ (l : List ℕ). j ∷ l) s.whole }

pub stands : (i : ℕ) (front back : List ℕ) → 1 ≤ times i (front ++ (i ∷ back))
stands i [] back = rw (eq-eqb i i refl) (omega arith)
stands i (j ∷ front) back = omega (arith, stands i front back)

pub stands-in : (i : ℕ) (order front back : List ℕ) → order ≡ front ++ (i ∷ back) → 1 ≤ times i order
stands-in i order front back e = rw e (stands i front back)
