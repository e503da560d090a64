-- Laws of the pending rows of a process: what a number among them says of its row, and what becomes of them when a row is added or completed.
use Rattle.std.specs.Prelude.{ℕ, zero, suc, ◌+◌, ◌-◌, ◌<◌, ◌≡◌, refl, Bool, true, false, cond, ◌&&◌, List, [], ◌∷◌, ◌++◌, eqb, length, get_or, set}
use Rattle.std.proofs.Common.{sym, ap, ◌∙◌, arith, eqb-true, ne_eqb}
use Rattle.words.specs.RangeLaws.{and_left}
use Rattle.tables.specs.declared.Row.{Row}
use Rattle.tables.specs.Tables.{empty_row}
use Rattle.state.specs.WellFormed.{pending_of}
use Rattle.state.specs.Within.{Within}

-- a pending row of p
abbrev pub waits : ℕ → Row → Bool
waits p r = eqb r.process.0 p && eqb r.answered.0 0

pub waits-process : (p : ℕ) (r : Row) → waits p r ≡ true → r.process.0 ≡ p
waits-process p r e = eqb-true _ _ (and_left _ _ e)

-- a row of p is none of another process that is pending
pub waits-other : (p q : ℕ) (r : Row) → r.process.0 ≡ p → (q ≡ p → ⊥) → waits q r ≡ false
waits-other p q r own n = ap (λ (b : Bool). b && eqb r.answered.0 0) (ne_eqb r.process.0 q (λ e. n (sym e ∙ own)))

-- the number `row` stands for the place j of a list whose numbers begin with i, and a row of p is pending there
pub record Waiting (p i : ℕ) (rows : List Row) (row : ℕ) : Type 0 where
  pub place : ℕ
  pub number : row ≡ i + place
  pub inside : place < length rows
  pub waiting : waits p (get_or rows place empty_row) ≡ true

pub pending-first : (p i : ℕ) (rows : List Row) (row : ℕ) (rest : List ℕ) → pending_of p i rows ≡ row ∷ rest → Waiting p i rows row
pending-first p i [] row rest e = let z : ◌≡◌ {A = ℕ} 0 1 = cc in absurd (omega arith)
pending-first p i (r ∷ rows) row rest e = go (waits p r) refl (pending-first p (suc i) rows row rest) e
  where
    go : (b : Bool) → waits p r ≡ b → (pending_of p (suc i) rows ≡ row ∷ rest → Waiting p (suc i) rows row)
        → cond b (i ∷ pending_of p (suc i) rows) (pending_of p (suc i) rows) ≡ row ∷ rest → Waiting p i (r ∷ rows) row
    go true w later f =
        let same : i ≡ row = cc in
        record { place = 0; number = omega arith; inside = omega arith; waiting = w }
    go false w later f =
        let h = later f in
        record { place = suc h.place; number = omega (arith, h.number); inside = omega (arith, h.inside); waiting = h.waiting }

-- the only pending row is one of the rows
pub pending-within : (p row : ℕ) (rows : List Row) → pending_of p 1 rows ≡ row ∷ [] → Within row (length rows)
pending-within p row rows e =
    let h = pending-first p 1 rows row [] e in
    record { least = omega (arith, h.number); most = omega (arith, h.number, h.inside) }

-- and p's
pub pending-process : (p row : ℕ) (rows : List Row) → pending_of p 1 rows ≡ row ∷ [] → (get_or rows (row - 1) empty_row).process.0 ≡ p
pending-process p row rows e =
    let h = pending-first p 1 rows row [] e in
    let place : row - 1 ≡ h.place = omega (arith, h.number) in
    ap (λ (j : ℕ). (get_or rows j empty_row).process.0) place ∙ waits-process p (get_or rows h.place empty_row) h.waiting

pub pending-append : (p i : ℕ) (xs ys : List Row) → pending_of p i (xs ++ ys) ≡ pending_of p i xs ++ pending_of p (i + length xs) ys
pending-append p i [] ys = let e : i ≡ i + 0 = omega arith in ap (λ (j : ℕ). pending_of p j ys) e
pending-append p i (x ∷ xs) ys = go (waits p x) (pending-append p (suc i) xs ys ∙ ap (λ (j : ℕ). pending_of p (suc i) xs ++ pending_of p j ys) ends)
  where
    ends : suc i + length xs ≡ i + suc (length xs)
    ends = omega arith

    go : (b : Bool) → pending_of p (suc i) (xs ++ ys) ≡ pending_of p (suc i) xs ++ pending_of p (i + suc (length xs)) ys
        → cond b (i ∷ pending_of p (suc i) (xs ++ ys)) (pending_of p (suc i) (xs ++ ys))
        ≡ cond b (i ∷ pending_of p (suc i) xs) (pending_of p (suc i) xs) ++ pending_of p (i + suc (length xs)) ys
    go true e = ap (λ (l : List ℕ). i ∷ l) e
    go false e = e

-- a row changed into one that is pending for p just where it was
pub pending-same : (p i : ℕ) (rows : List Row) (j : ℕ) (r : Row) → waits p r ≡ waits p (get_or rows j empty_row)
    → pending_of p i (set rows j r) ≡ pending_of p i rows
pending-same p i [] j r e = refl
pending-same p i (x ∷ rows) zero r e = ap (λ (b : Bool). cond b (i ∷ pending_of p (suc i) rows) (pending_of p (suc i) rows)) e
pending-same p i (x ∷ rows) (suc j) r e =
    ap (λ (l : List ℕ). cond (waits p x) (i ∷ l) l) (pending-same p (suc i) rows j r e)

-- the only pending row changed into one that is not
pub pending_done : (p i : ℕ) (rows : List Row) (j row : ℕ) (r : Row) → row ≡ i + j → pending_of p i rows ≡ row ∷ [] → waits p r ≡ false
    → pending_of p i (set rows j r) ≡ []
pending_done p i [] j row r n e f = refl
pending_done p i (x ∷ rows) zero row r n e f =
    ap (λ (b : Bool). cond b (i ∷ pending_of p (suc i) rows) (pending_of p (suc i) rows)) f ∙ go (waits p x) e
  where
    go : (b : Bool) → cond b (i ∷ pending_of p (suc i) rows) (pending_of p (suc i) rows) ≡ row ∷ [] → pending_of p (suc i) rows ≡ []
    go true g = cc
    go false g = let h = pending-first p (suc i) rows row [] g in absurd (omega (arith, h.number))
pending_done p i (x ∷ rows) (suc j) row r n e f = go (waits p x) (pending_done p (suc i) rows j row r (omega arith)) e
  where
    go : (b : Bool) → (pending_of p (suc i) rows ≡ row ∷ [] → waits p r ≡ false → pending_of p (suc i) (set rows j r) ≡ [])
        → cond b (i ∷ pending_of p (suc i) rows) (pending_of p (suc i) rows) ≡ row ∷ []
        → cond b (i ∷ pending_of p (suc i) (set rows j r)) (pending_of p (suc i) (set rows j r)) ≡ []
    go true later g = let same : i ≡ row = cc in absurd (omega arith)
    go false later g = later g f
