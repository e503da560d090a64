-- 22, the rows: the pass with the processes that have an unfinished row tells whether every row has its two marks and none comes after an unfinished one of its process.
use Rattle.std.specs.Prelude.{ℕ, suc, zero, ◌-◌, ◌≤◌, ◌<◌, ◌≡◌, refl, Bool, true, false, ◌&&◌, ◌||◌, List, [], ◌∷◌, ◌⊎◌, eqb, leb, length, get_or, set}
use Rattle.std.proofs.Common.{sym, ap, ◌∙◌, inl, inr, arith, length-set, get_or-set_same, get_or-set_other, eqb-true, eq-eqb, leb-true, le-leb}
use Rattle.std.proofs.Math.Option.{some, none-ne-some, some-injective}
use Rattle.std.proofs.lemmas.Bool.{eqb-false}
use Rattle.words.specs.RangeLaws.{and_left, and_right}
use Rattle.verdicts.specs.Explains.{Row, IsRead, IsWrite, Completed, Unfinished, row_at}
use Rattle.verdicts.specs.Verdict.{formed, laid, zeros}
use Rattle.verdicts.proofs.RowLaws.{row_inside}
use Rattle.verdicts.proofs.NumberLaws.{zeros-length, zeros-at}

-- ---- one row

pub formed-kind : (a : Row) → formed a ≡ true → IsRead a ⊎ IsWrite a
formed-kind a e = go (eqb a.kind 1) refl (and_left (eqb a.kind 1 || eqb a.kind 2) _ e)
  where
    go : (t : Bool) → eqb a.kind 1 ≡ t → (eqb a.kind 1 || eqb a.kind 2) ≡ true → IsRead a ⊎ IsWrite a
    go true q f = inl (eqb-true a.kind 1 q)
    go false q f = inr (eqb-true a.kind 2 (sym (ap (λ (t : Bool). t || eqb a.kind 2) q) ∙ f))

pub formed-complete : (a : Row) → formed a ≡ true → Completed a ⊎ Unfinished a
formed-complete a e = go a.complete (leb-true a.complete 1 (and_right (eqb a.kind 1 || eqb a.kind 2) _ e))
  where
    go : (c : ℕ) → c ≤ 1 → (c ≡ 1) ⊎ (c ≡ 0)
    go zero h = inr refl
    go (suc zero) h = inl refl
    go (suc (suc c)) h = absurd (omega arith)

pub formed-of : (a : Row) → IsRead a ⊎ IsWrite a → Completed a ⊎ Unfinished a → formed a ≡ true
formed-of a k c = ap (λ (t : Bool). t && leb a.complete 1) (kinds k) ∙ ends c
  where
    or_right : (s t : Bool) → t ≡ true → (s || t) ≡ true
    or_right true t e = refl
    or_right false t e = e

    kinds : IsRead a ⊎ IsWrite a → (eqb a.kind 1 || eqb a.kind 2) ≡ true
    kinds (inl r) = ap (λ (t : Bool). t || eqb a.kind 2) (eq-eqb a.kind 1 r)
    kinds (inr w) = or_right (eqb a.kind 1) (eqb a.kind 2) (eq-eqb a.kind 2 w)

    ends : Completed a ⊎ Unfinished a → leb a.complete 1 ≡ true
    ends (inl d) = le-leb a.complete 1 (omega (arith, d))
    ends (inr u) = le-leb a.complete 1 (omega (arith, u))

-- ---- all rows

-- what the pass tells, from a table of processes that have ended
pub record Laid (ended : List ℕ) (rows : List Row) : Type 0 where
  pub shapes : (i : ℕ) (a : Row) → row_at rows i ≡ some a → formed a ≡ true
  pub free : (i : ℕ) (a : Row) → row_at rows i ≡ some a → get_or ended a.process 0 ≡ 0
  pub turns : (i j : ℕ) (a b : Row) → row_at rows i ≡ some a → row_at rows j ≡ some b → a.process ≡ b.process → i < j → Completed a

abbrev Placed : List ℕ → List Row → Type 0
Placed ended rows = (i : ℕ) (a : Row) → row_at rows i ≡ some a → a.process < length ended

placed-rest : (ended : List ℕ) (a : Row) (rows : List Row) (v : ℕ) → Placed ended (a ∷ rows) → Placed (set ended a.process v) rows
placed-rest ended a rows v placed zero b h = absurd (omega (arith, (row_inside rows 0 b h).0))
placed-rest ended a rows v placed (suc i) b h = omega (arith, placed (suc (suc i)) b h, length-set ended a.process v)

module _ (ended : List ℕ) (a : Row) (rows : List Row) (room : a.process < length ended) (shape : formed a ≡ true) (new : get_or ended a.process 0 ≡ 0)
    (rest : Laid (set ended a.process (1 - a.complete)) rows) where
  shapes-more : (i : ℕ) (b : Row) → row_at (a ∷ rows) i ≡ some b → formed b ≡ true
  shapes-more zero b h = absurd (none-ne-some b h)
  shapes-more (suc zero) b h = ap formed (sym (some-injective a b h)) ∙ shape
  shapes-more (suc (suc i)) b h = rest.shapes (suc i) b h

  free_more : (i : ℕ) (b : Row) → row_at (a ∷ rows) i ≡ some b → get_or ended b.process 0 ≡ 0
  free_more zero b h = absurd (none-ne-some b h)
  free_more (suc zero) b h = ap (λ (c : Row). get_or ended c.process 0) (sym (some-injective a b h)) ∙ new
  free_more (suc (suc i)) b h = go (eqb b.process a.process) refl
    where
      go : (t : Bool) → eqb b.process a.process ≡ t → get_or ended b.process 0 ≡ 0
      go true q = ap (λ (p : ℕ). get_or ended p 0) (eqb-true b.process a.process q) ∙ new
      go false q =
          sym (get_or-set_other ended a.process b.process (1 - a.complete) 0 (eqb-false b.process a.process q)) ∙ rest.free (suc i) b h

  -- a later row of its process is there, so it was completed
  completed-first : (i : ℕ) (b : Row) → row_at rows i ≡ some b → a.process ≡ b.process → Completed a
  completed-first i b h together =
      let z : 1 - a.complete ≡ 0 = sym (get_or-set_same ended a.process (1 - a.complete) 0 room) ∙ ap (λ (p : ℕ). get_or (set ended a.process (1 - a.complete)) p 0) together ∙ rest.free i b h in
      let most = leb-true a.complete 1 (and_right (eqb a.kind 1 || eqb a.kind 2) _ shape) in
      omega (arith, z, most)

  turns_more : (i j : ℕ) (b c : Row) → row_at (a ∷ rows) i ≡ some b → row_at (a ∷ rows) j ≡ some c → b.process ≡ c.process → i < j → Completed b
  turns_more zero j b c h k together less = absurd (none-ne-some b h)
  turns_more (suc zero) zero b c h k together less = absurd (none-ne-some c k)
  turns_more (suc zero) (suc zero) b c h k together less = absurd (omega arith)
  turns_more (suc zero) (suc (suc j)) b c h k together less =
      let is : a ≡ b = some-injective a b h in
      ap (λ (d : Row). d.complete) (sym is) ∙ completed-first (suc j) c k (ap (λ (d : Row). d.process) is ∙ together)
  turns_more (suc (suc i)) zero b c h k together less = absurd (none-ne-some c k)
  turns_more (suc (suc i)) (suc zero) b c h k together less = absurd (omega arith)
  turns_more (suc (suc i)) (suc (suc j)) b c h k together less = rest.turns (suc i) (suc j) b c h k together (omega arith)

  laid_more : Laid ended (a ∷ rows)
  laid_more = record { shapes = shapes-more; free = free_more; turns = turns_more }

pub laid-true : (ended : List ℕ) (rows : List Row) → Placed ended rows → laid ended rows ≡ true → Laid ended rows
laid-true ended [] placed e =
    record {
      shapes = λ i a h. absurd (none-ne-some a h);
      free = λ i a h. absurd (none-ne-some a h);
      turns = λ i j a b h. absurd (none-ne-some a h);
    }
laid-true ended (a ∷ rows) placed e =
    let rest = and_right (formed a) _ e in
    laid_more ended a rows (placed 1 a refl) (and_left (formed a) _ e) (eqb-true (get_or ended a.process 0) 0 (and_left (eqb (get_or ended a.process 0) 0) _ rest))
    (laid-true (set ended a.process (1 - a.complete)) rows (placed-rest ended a rows (1 - a.complete) placed) (and_right (eqb (get_or ended a.process 0) 0) _ rest))

-- the rest of rows that are laid
module _ (ended : List ℕ) (a : Row) (rows : List Row) (room : a.process < length ended) (l : Laid ended (a ∷ rows)) where
  after : (i : ℕ) (b : Row) → row_at rows i ≡ some b → row_at (a ∷ rows) (suc i) ≡ some b
  after zero b h = absurd (omega (arith, (row_inside rows 0 b h).0))
  after (suc i) b h = h

  laid-rest : Laid (set ended a.process (1 - a.complete)) rows
  laid-rest =
      record {
        shapes = λ i b h. l.shapes (suc i) b (after i b h);
        free = λ i b h. go i b h (eqb b.process a.process) refl;
        turns = λ i j b c h k together less. l.turns (suc i) (suc j) b c (after i b h) (after j c k) together (omega arith);
      }
    where
      go : (i : ℕ) (b : Row) → row_at rows i ≡ some b → (t : Bool) → eqb b.process a.process ≡ t → get_or (set ended a.process (1 - a.complete)) b.process 0 ≡ 0
      go i b h true q =
          let mine : b.process ≡ a.process = eqb-true b.process a.process q in
          let done : a.complete ≡ 1 = l.turns 1 (suc i) a b refl (after i b h) (sym mine) (omega (arith, (row_inside rows i b h).0)) in
          let z : 1 - a.complete ≡ 0 = omega (arith, done) in
          ap (λ (p : ℕ). get_or (set ended a.process (1 - a.complete)) p 0) mine ∙ get_or-set_same ended a.process (1 - a.complete) 0 room ∙ z
      go i b h false q = get_or-set_other ended a.process b.process (1 - a.complete) 0 (eqb-false b.process a.process q) ∙ l.free (suc i) b (after i b h)

pub laid_of : (ended : List ℕ) (rows : List Row) → Placed ended rows → Laid ended rows → laid ended rows ≡ true
laid_of ended [] placed l = refl
laid_of ended (a ∷ rows) placed l =
    ap (λ (t : Bool). t && (eqb (get_or ended a.process 0) 0 && laid (set ended a.process (1 - a.complete)) rows)) (l.shapes 1 a refl)
    ∙ ap (λ (t : Bool). t && laid (set ended a.process (1 - a.complete)) rows) (eq-eqb (get_or ended a.process 0) 0 (l.free 1 a refl))
    ∙ laid_of (set ended a.process (1 - a.complete)) rows (placed-rest ended a rows (1 - a.complete) placed) (laid-rest ended a rows (placed 1 a refl) l)

-- ---- from a table of zeros

abbrev pub Small : List Row → Type 0
Small rows = (i : ℕ) (a : Row) → row_at rows i ≡ some a → a.process < 256

small-placed : (rows : List Row) → Small rows → Placed (zeros 256) rows
small-placed rows small i a h = omega (arith, small i a h, zeros-length 256)

pub laid-tells : (rows : List Row) → Small rows → laid (zeros 256) rows ≡ true → Laid (zeros 256) rows
laid-tells rows small e = laid-true (zeros 256) rows (small-placed rows small) e

pub laid-told : (rows : List Row) → Small rows
    → ((i : ℕ) (a : Row) → row_at rows i ≡ some a → formed a ≡ true)
    → ((i j : ℕ) (a b : Row) → row_at rows i ≡ some a → row_at rows j ≡ some b → a.process ≡ b.process → i < j → Completed a)
    → laid (zeros 256) rows ≡ true
laid-told rows small shapes turns = laid_of (zeros 256) rows (small-placed rows small) (record { shapes = shapes; free = λ i a h. zeros-at 256 a.process; turns = turns })
