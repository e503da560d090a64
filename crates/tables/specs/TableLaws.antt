-- Laws of lists that say what the loops over a table do, a step at a time: closing a gap, laying a list over another, seeking a number. Each says
-- what is still to be done, so that nothing is said of what is done already.
use Rattle.std.specs.Prelude.{◌≡◌, refl, ℕ, zero, suc, ◌+◌, ◌<◌, ◌≤◌, Bool, true, false, not, cond, List, [], ◌∷◌, ◌++◌, T, eqb, length, get_or, set, take, drop, replicate, Some, None}
use Rattle.std.proofs.Common.{sym, ap, subst, ◌∙◌, not-suc-le-zero, le_of_suc-le-suc, add-one, arith, append-nil, eqb→eq, take-append-drop, drop_of_length-le, length-take, drop-cons, get_or-take}
use Rattle.std.proofs.lemmas.List.{length-replicate}
use Rattle.words.specs.declared.Message.{Message}
use Rattle.tables.specs.Tables.{empty_message, seek, removed, laid_at}

-- a test that held is `true`, and one that failed is `false`
pub holds : (t : Bool) → T t → t ≡ true
holds true _ = refl
holds false a = absurd a

pub fails : (t : Bool) → T (not t) → t ≡ false
fails true a = absurd a
fails false _ = refl

module _ {D : Type 0} where
  -- nothing is stored past the end
  pub set_past : (xs : List D) (i : ℕ) (m : D) → length xs ≤ i → set xs i m ≡ xs
  set_past [] i m l = refl
  set_past (x ∷ xs) zero m l = absurd (not-suc-le-zero l)
  set_past (x ∷ xs) (suc i) m l = ap (λ (r : List D). x ∷ r) (set_past xs i m (le_of_suc-le-suc l))

  -- ---- closing a gap: what follows it is moved one place down, and the gap is one place further on
  pub gap_step : (i j n : ℕ) (d : D) (xs : List D) → i + 1 ≡ j → j < n → n ≤ length xs
      → removed j (take n (set xs i (get_or xs j d))) ++ (d ∷ drop n (set xs i (get_or xs j d))) ≡ removed i (take n xs) ++ (d ∷ drop n xs)
  gap_step i zero n d xs e l le = absurd (omega arith)
  gap_step i (suc j) zero d xs e l le = absurd (omega arith)
  gap_step i (suc j) (suc n) d [] e l le = absurd (omega arith)
  gap_step zero (suc (suc j)) (suc n) d (x ∷ xs) e l le = absurd (omega arith)
  gap_step zero (suc zero) (suc zero) d (x ∷ xs) e l le = absurd (omega arith)
  gap_step zero (suc zero) (suc (suc n)) d (x ∷ []) e l le = absurd (omega arith)
  gap_step zero (suc zero) (suc (suc n)) d (x ∷ y ∷ xs) e l le = refl
  gap_step (suc i) (suc j) (suc n) d (x ∷ xs) e l le = ap (λ (r : List D). x ∷ r) (gap_step i j n d xs (omega arith) (omega arith) (omega arith))

  -- the gap is the last of the n places: it is emptied
  pub gap-end : (i n : ℕ) (d : D) (xs : List D) → i + 1 ≡ n → i < length xs → set xs i d ≡ removed i (take n xs) ++ (d ∷ drop n xs)
  gap-end i zero d xs e l = absurd (omega arith)
  gap-end i (suc n) d [] e l = absurd (omega arith)
  gap-end zero (suc (suc n)) d (x ∷ xs) e l = absurd (omega arith)
  gap-end zero (suc zero) d (x ∷ xs) e l = refl
  gap-end (suc i) (suc n) d (x ∷ xs) e l = ap (λ (r : List D). x ∷ r) (gap-end i n d xs (omega arith) (omega arith))

  -- ---- laying a list over another: its first is stored, and the rest is laid one place further on
  lay_step : (i j e : ℕ) (m : D) (ms xs : List D) → i + 1 ≡ j → j ≤ e → i < length xs → take j (set xs i m) ++ (ms ++ drop e (set xs i m)) ≡ take i xs ++ (m ∷ (ms ++ drop e xs))
  lay_step i zero e m ms xs f le l = absurd (omega arith)
  lay_step i (suc j) zero m ms xs f le l = absurd (omega arith)
  lay_step i (suc j) (suc e) m ms [] f le l = absurd (omega arith)
  lay_step zero (suc (suc j)) (suc e) m ms (x ∷ xs) f le l = absurd (omega arith)
  lay_step zero (suc zero) (suc e) m ms (x ∷ xs) f le l = refl
  lay_step (suc i) (suc j) (suc e) m ms (x ∷ xs) f le l = ap (λ (r : List D). x ∷ r) (lay_step i j e m ms xs (omega arith) (omega arith) (omega arith))

  pub laid-step : (i : ℕ) (m : D) (ms xs : List D) → i < length xs → laid_at (i + 1) ms (set xs i m) ≡ laid_at i (m ∷ ms) xs
  laid-step i m ms xs l = lay_step i (i + 1) (i + 1 + length ms) m ms xs refl (omega arith) l ∙ ap (λ (e : ℕ). take i xs ++ (m ∷ (ms ++ drop e xs))) ends
    where
      ends : i + 1 + length ms ≡ i + suc (length ms)
      ends = omega arith

  pub laid_none : (i : ℕ) (xs : List D) → laid_at i [] xs ≡ xs
  laid_none i xs = ap (λ (e : ℕ). take i xs ++ drop e xs) ends ∙ take-append-drop i xs
    where
      ends : i + zero ≡ i
      ends = omega arith

  -- laid over all of it
  pub laid-all : (n : ℕ) (d : D) (xs : List D) → length xs ≡ n → laid_at 0 (replicate n d) xs ≡ replicate n d
  laid-all n d xs e = ap (λ (r : List D). replicate n d ++ r) (drop_of_length-le xs {i = 0 + length (replicate n d)} (omega (arith, length-replicate n d))) ∙ append-nil (replicate n d)

  -- the first of what is left of a part
  pub next_of : (i n : ℕ) (d : D) (xs : List D) → i < n → n ≤ length xs → drop i (take n xs) ≡ get_or xs i d ∷ drop (suc i) (take n xs)
  next_of i n d xs l le = drop-cons (take n xs) i d (omega (arith, length-take n xs)) ∙ ap (λ (m : D). m ∷ drop (suc i) (take n xs)) (get_or-take n xs i d l)

-- ---- seeking: the message at i is the one, or it is not, or there is none left
module _ (k i n : ℕ) (xs : List Message) where
  pub seek_hit : i < n → n ≤ length xs → T (eqb (get_or xs i empty_message).number k) → seek k i (drop i (take n xs)) ≡ Some i
  seek_hit l le h = ap (seek k i) (next_of i n empty_message xs l le) ∙ ap (λ (t : Bool). cond t (Some i) (seek k (suc i) (drop (suc i) (take n xs)))) (holds (eqb (get_or xs i empty_message).number k) h)

  pub seek-miss : i < n → n ≤ length xs → T (not (eqb (get_or xs i empty_message).number k)) → seek k (i + 1) (drop (i + 1) (take n xs)) ≡ seek k i (drop i (take n xs))
  seek-miss l le h = ap (λ (j : ℕ). seek k j (drop j (take n xs))) (add-one i) ∙ sym (ap (seek k i) (next_of i n empty_message xs l le)
      ∙ ap (λ (t : Bool). cond t (Some i) (seek k (suc i) (drop (suc i) (take n xs)))) (fails (eqb (get_or xs i empty_message).number k) h))

  pub seek-end : n ≤ i → seek k i (drop i (take n xs)) ≡ None
  seek-end l = ap (seek k i) (drop_of_length-le (take n xs) {i = i} (omega (arith, length-take n xs)))

-- ---- what is found is within, and has the number
abbrev Hit : ℕ → ℕ → ℕ → List Message → Type 0
Hit k s i xs = (j : ℕ) × ((s + j ≡ i) × ((j < length xs) × ((get_or xs j empty_message).number ≡ k)))

hit-from : (k s i : ℕ) (xs : List Message) → Some i ≡ seek k s xs → Hit k s i xs
hit-from k s i [] h = let z : ◌≡◌ {A = ℕ} 0 1 = cc in absurd (omega arith)
hit-from k s i (m ∷ ms) h = go (eqb m.number k) (λ t. eqb→eq m.number k t) (hit-from k (suc s) i ms) h
  where
    go : (t : Bool) → (T t → m.number ≡ k) → (Some i ≡ seek k (suc s) ms → Hit k (suc s) i ms) → Some i ≡ cond t (Some s) (seek k (suc s) ms) → Hit k s i (m ∷ ms)
    go true e later h = (0, (let f : i ≡ s = cc in omega arith, (omega arith, e tt)))
    go false e later h = let (j, (f, (l, g))) = later h in (suc j, (omega arith, (omega arith, g)))

pub seek-at : (k n i : ℕ) (xs : List Message) → Some i ≡ seek k 0 (take n xs) → (i < n) × ((get_or xs i empty_message).number ≡ k)
seek-at k n i xs h = found (hit-from k 0 i (take n xs) h)
  where
    found : Hit k 0 i (take n xs) → (i < n) × ((get_or xs i empty_message).number ≡ k)
    found (j, (f, (l, g))) = let below : j < n = omega (arith, length-take n xs) in let same : j ≡ i = omega arith in
        subst (λ (p : ℕ). (p < n) × ((get_or xs p empty_message).number ≡ k)) same (below, ap (λ (m : Message). m.number) (sym (get_or-take n xs j empty_message below)) ∙ g)
