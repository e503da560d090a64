-- Rows and their numbers: the row numbered i is the one that `row_at` finds at i; row numbers ascend, so each is found once.
use Rattle.std.specs.Prelude.{ℕ, zero, suc, ◌+◌, ◌<◌, ◌≡◌, refl, Bool, true, false, cond}
use Rattle.std.proofs.Common.{ap, sym, ◌∙◌, arith, eq-eqb, ne_eqb}
use mathlib.Core.List.Memᴰ
use mathlib.Core.List.{List, [], ◌∷◌, map, Memᴰ}
use mathlib.Core.List.{Permᴰ}
use Rattle.std.proofs.Math.Option.{some, some-injective, none-ne-some}
use Rattle.placing.specs.Operation.{Operation, listed}
use Rattle.placing.specs.Sequential.{row_at, due, times}
use Rattle.placing.specs.Sorting.{select}
use Rattle.placing.specs.OneOrder.{Entry, numbered, listing}
use Rattle.placing.specs.Facts.{Row}
use Rattle.placing.specs.Pairs.{Pairs}

module _ {Value : Type 0} where
  -- where a row stands, counted from the first number given
  abbrev Found : ℕ → List (Operation Value) → Entry Value → Type 0
  Found n os e = (k : ℕ) × (e.row ≡ n + k) × (row_at os (suc k) ≡ some e.operation)

  found : {e : Entry Value} (n : ℕ) (os : List (Operation Value)) → Memᴰ e (numbered n os) → Found n os e
  found n [] m = absurd (Memᴰ.not-nil m)
  found n (o ∷ os) (Memᴰ.head q) = (0, omega (arith, ap (λ (x : Entry Value). x.row) q), ap (λ (x : Entry Value). some x.operation) (sym q))
  found n (o ∷ os) (Memᴰ.tail m) =
      let f = found (suc n) os m in
      (suc f.0, omega (arith, f.1), f.2)

  pub row-at : (os : List (Operation Value)) (e : Entry Value) → Row os e → row_at os e.row ≡ some e.operation
  row-at os e m =
      let f = found 1 os m in
      let q : e.row ≡ suc f.0 = omega (arith, f.1) in
      rw q f.2

  pub row-operation : (os : List (Operation Value)) (e : Entry Value) (i : ℕ) (a : Operation Value) → Row os e → e.row ≡ i → row_at os i ≡ some a → e.operation ≡ a
  row-operation os e i a m q p = some-injective e.operation a (cc (row-at os e m))

  entry-path : {a b : Entry Value} → a.row ≡ b.row → a.operation ≡ b.operation → a ≡ b
  entry-path p q = λ i. record { row = p i; operation = q i }

  find : (n k : ℕ) (os : List (Operation Value)) (a : Operation Value) → row_at os (suc k) ≡ some a → Memᴰ (record { row = n + k; operation = a }) (numbered n os)
  find n k [] a q = absurd (none-ne-some a q)
  find n zero (o ∷ os) a q =
      let e : n + 0 ≡ n = omega arith in
      Memᴰ.head (entry-path e (sym (some-injective o a q)))
  find n (suc k) (o ∷ os) a q =
      let e : n + suc k ≡ suc n + k = omega arith in
      Memᴰ.tail (Memᴰ.cast (entry-path e refl) (find (suc n) k os a q))

  pub row_of : (os : List (Operation Value)) (i : ℕ) (a : Operation Value) → row_at os i ≡ some a → Row os (record { row = i; operation = a })
  row_of [] zero a q = absurd (none-ne-some a q)
  row_of (o ∷ os) zero a q = absurd (none-ne-some a q)
  row_of os (suc k) a q =
      let e : suc k ≡ 1 + k = omega arith in
      Memᴰ.cast (entry-path e refl) (find 1 k os a q)

  -- two rows of one number are one
  pub row-equal : (os : List (Operation Value)) (a b : Entry Value) → Row os a → Row os b → a.row ≡ b.row → a ≡ b
  row-equal os a b m n q = entry-path q (row-operation os a b.row b.operation m q (row-at os b n))

  pub rows-ascend : (n : ℕ) (os : List (Operation Value)) → Pairs (λ (a b : Entry Value). a.row < b.row) (numbered n os)
  rows-ascend n [] = tt
  rows-ascend n (o ∷ os) = (λ b m. let f = found (suc n) os m in omega (arith, f.1), rows-ascend (suc n) os)

  -- the listing has each row as often as it is due: never before its number is reached, then once
  abbrev listed_from : ℕ → List (Operation Value) → List (Entry Value)
  listed_from n os = select (λ e. listed e.operation) (numbered n os)

  abbrev times_in : ℕ → List (Entry Value) → ℕ
  times_in i l = times i (map (λ e. e.row) l)

  early : (i n : ℕ) (os : List (Operation Value)) → i < n → times_in i (listed_from n os) ≡ 0
  early i n [] h = refl
  early i n (o ∷ os) h = step (listed o) (early i (suc n) os (omega arith))
    where
      step : (t : Bool) → times_in i (listed_from (suc n) os) ≡ 0
          → times_in i (cond t (record { row = n; operation = o } ∷ listed_from (suc n) os) (listed_from (suc n) os)) ≡ 0
      step true r = rw (ne_eqb i n (λ q. omega arith)) (omega (arith, r))
      step false r = r

  late : (n k i : ℕ) (os : List (Operation Value)) → i ≡ n + k → times_in i (listed_from n os) ≡ due (row_at os (suc k))
  late n k i [] q = refl
  late n zero i (o ∷ os) q = step (listed o) (early i (suc n) os (omega arith))
    where
      step : (t : Bool) → times_in i (listed_from (suc n) os) ≡ 0
          → times_in i (cond t (record { row = n; operation = o } ∷ listed_from (suc n) os) (listed_from (suc n) os)) ≡ cond t 1 0
      step true r = rw (eq-eqb i n (omega arith)) (omega (arith, r))
      step false r = r
  late n (suc k) i (o ∷ os) q = step (listed o) (late (suc n) k i os (omega arith))
    where
      step : (t : Bool) → times_in i (listed_from (suc n) os) ≡ due (row_at os (suc k))
          → times_in i (cond t (record { row = n; operation = o } ∷ listed_from (suc n) os) (listed_from (suc n) os)) ≡ due (row_at os (suc k))
      step true r = rw (ne_eqb i n (λ p. omega arith)) (omega (arith, r))
      step false r = r

  pub times-listing : (i : ℕ) (os : List (Operation Value)) → times_in i (listing os) ≡ due (row_at os i)
  times-listing zero [] = refl
  times-listing zero (o ∷ os) = early 0 1 (o ∷ os) (omega arith)
  times-listing (suc k) os = late 1 k (suc k) os (omega arith)

-- a permutation keeps how often a number stands
pub times-permuted : (i : ℕ) {l m : List ℕ} → Permᴰ l m → times i l ≡ times i m
times-permuted i Permᴰ.nil = refl
times-permuted i (Permᴰ.cons e p) = rw e (omega (arith, times-permuted i p))
times-permuted i (Permᴰ.swap e f) = rw (e, f) (omega arith)
times-permuted i (Permᴰ.trans p q) = times-permuted i p ∙ times-permuted i q
