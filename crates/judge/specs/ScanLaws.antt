-- What is seen of a table, in the words of `WellFormed`: the messages that rise, and what each process waits for.
use Rattle.std.specs.Prelude.{◌≡◌, refl, ℕ, zero, suc, ◌+◌, ◌-◌, ◌<◌, ◌≤◌, Bool, true, false, not, cond, ◌&&◌, List, [], ◌∷◌, eqb, ltb, leb, length, get_or, set, drop, Some, None}
use Rattle.std.specs.List.{list_all}
use Rattle.std.proofs.Common.{sym, true≢false, ap, ◌∙◌, add-one, arith, drop-cons, length-set, get_or-set_same, get_or-set_other, eqb-true, leb-true, le-leb, ne_eqb, lt-ltb, le-ltb}
use Rattle.std.proofs.Math.Bool.{and_assoc}
use Rattle.std.proofs.lemmas.Bool.{eqb-false, not-true}
use Rattle.words.specs.declared.Message.{Message}
use Rattle.words.specs.declared.Pair.{Pair}
use Rattle.words.specs.Ranges.{within}
use Rattle.words.specs.RangeLaws.{and_left, and_right}
use Rattle.tables.specs.declared.Row.{Row}
use Rattle.tables.specs.Tables.{empty_row}
use Rattle.state.specs.State.{State}
use Rattle.state.specs.WellFormed.{every, message_fits, rising, is_write, row_fits, pending_of, is_empty, is_only, pairs_fit}
use Rattle.judge.specs.declared.Waiting.{Waiting}
use Rattle.judge.specs.declared.Waiting.TheVariants.{Nothing, One, Several}
use Rattle.judge.specs.declared.Pending.{Pending}
use Rattle.judge.specs.Scans.{risen, noted, is_pending, noted_in, scanned, stored_at}

pub every-all : {A : Type 0} (p : A → Bool) (xs : List A) → list_all p xs ≡ every p xs
every-all p [] = refl
every-all p (x ∷ xs) = ap (λ (t : Bool). p x && t) (every-all p xs)

-- ---- pairs

pairs-head : (s : State) (m i : ℕ) (p : Pair) (rest : List Pair) → pairs_fit s (m - i) (p ∷ rest) ≡ stored_at s (ltb i m) p && pairs_fit s (m - suc i) rest
pairs-head s m i p rest = go (m - i) refl
  where
    go : (k : ℕ) → m - i ≡ k → pairs_fit s k (p ∷ rest) ≡ stored_at s (ltb i m) p && pairs_fit s (m - suc i) rest
    go zero e = let h : m - suc i ≡ 0 = omega arith in rw (le-ltb i m (omega arith), h)
    go (suc k) e = let h : m - suc i ≡ k = omega arith in rw (lt-ltb i m (omega arith), h)

-- one more pair was seen
pub pairs-step : (s : State) (m i : ℕ) (d : Pair) (pairs : List Pair) (ok : Bool) → i < length pairs
    → (ok && stored_at s (ltb i m) (get_or pairs i d)) && pairs_fit s (m - (i + 1)) (drop (i + 1) pairs) ≡ ok && pairs_fit s (m - i) (drop i pairs)
pairs-step s m i d pairs ok l =
    rw (add-one i, drop-cons pairs i d l, pairs-head) (and_assoc ok _ _)

-- ---- messages

message-next : (f l r fs rs : Bool) → (f && l && r) && (fs && rs) ≡ (f && fs) && (l && r && rs)
message-next false l r fs rs = refl
message-next true false r true rs = refl
message-next true false r false rs = refl
message-next true true false true rs = refl
message-next true true false false rs = refl
message-next true true true fs rs = refl

pub rises : (s : State) (last : ℕ) (xs : List Message) → risen s last xs ≡ every (message_fits s) xs && rising last s.sent xs
rises s last [] = refl
rises s last (m ∷ rest) =
    ap (λ (t : Bool). (message_fits s m && ltb last m.number && leb m.number s.sent) && t) (rises s m.number rest)
    ∙ message-next (message_fits s m) (ltb last m.number) (leb m.number s.sent) (every (message_fits s) rest) (rising m.number s.sent rest)

-- ---- rows: those that fit, and the pending ones of each process

abbrev pub all_noted : List Waiting → ℕ → List Row → List Waiting
all_noted ws number [] = ws
all_noted ws number (r ∷ rest) = all_noted (noted_in ws number r) (suc number) rest

pub all-scanned : (s : State) (ws : List Waiting) (number : ℕ) (xs : List Row) → scanned s ws number xs ≡ cond (every (row_fits s) xs) (Some (all_noted ws number xs)) None
all-scanned s ws number [] = refl
all-scanned s ws number (r ∷ rest) = go (row_fits s r) (all-scanned s (noted_in ws number r) (suc number) rest)
  where
    go : (t : Bool) → scanned s (noted_in ws number r) (suc number) rest ≡ cond (every (row_fits s) rest) (Some (all_noted (noted_in ws number r) (suc number) rest)) None
        → cond t (scanned s (noted_in ws number r) (suc number) rest) None ≡ cond (t && every (row_fits s) rest) (Some (all_noted (noted_in ws number r) (suc number) rest)) None
    go true e = e
    go false e = refl

-- ---- the pending rows of one process, gone through

abbrev pub is_pending_of : ℕ → Row → Bool
is_pending_of p r = eqb r.process.0 p && eqb r.answered.0 0

abbrev pub waits : ℕ → ℕ → Waiting → List Row → Waiting
waits p number w [] = w
waits p number w (r ∷ rest) = waits p (suc number) (cond (is_pending_of p r) (noted w number r) w) rest

pub process-within : (r : Row) → is_pending r ≡ true → (1 ≤ r.process.0) × (r.process.0 ≤ 7)
process-within r e = (least q (eqb-false q 0 (not-true (eqb q 0) (and_left (not (eqb q 0)) (leb q 7) h))), leb-true q 7 (and_right (not (eqb q 0)) (leb q 7) h))
  where
    q : ℕ
    q = r.process.0

    h : within q 7 ≡ true
    h = and_left (within q 7) (eqb r.answered.0 0) e

    least : (k : ℕ) → (k ≡ 0 → ⊥) → 1 ≤ k
    least k f = omega (arith, f)

-- a row is noted for its own process alone
noted-at : (ws : List Waiting) (number : ℕ) (r : Row) (k : ℕ) → length ws ≡ 7 → k < 7
    → get_or (noted_in ws number r) k Nothing ≡ cond (is_pending_of (suc k) r) (noted (get_or ws k Nothing) number r) (get_or ws k Nothing)
noted-at ws number r k len l = go (eqb q (suc k)) refl (is_pending r) refl
  where
    q : ℕ
    q = r.process.0

    done : Bool
    done = eqb r.answered.0 0

    x : Waiting → Waiting
    x w = noted w number r

    go : (e : Bool) → eqb q (suc k) ≡ e → (t : Bool) → is_pending r ≡ t
        → get_or (cond t (set ws (q - 1) (x (get_or ws (q - 1) Nothing))) ws) k Nothing ≡ cond (e && done) (x (get_or ws k Nothing)) (get_or ws k Nothing)
    go true h true f =
        let same : q ≡ suc k = eqb-true q (suc k) h in
        let at : q - 1 ≡ k = omega arith in
        rw (at, and_right (within q 7) done f) (get_or-set_same ws k (x (get_or ws k Nothing)) Nothing (omega arith))
    go true h false f =
        let same : q ≡ suc k = eqb-true q (suc k) h in
        let inside : within q 7 ≡ true = rw (ne_eqb q 0 (λ z. omega arith), le-leb q 7 (omega arith)) refl in
        let no : done ≡ false = sym (ap (λ (t : Bool). t && done) inside) ∙ f in
        rw no
    go false h true f =
        let least = process-within r f in
        get_or-set_other ws (q - 1) k (x (get_or ws (q - 1) Nothing)) Nothing (λ z. eqb-false q (suc k) h (omega (arith, least.0, z)))
    go false h false f = refl

noted-long : (ws : List Waiting) (number : ℕ) (r : Row) → length (noted_in ws number r) ≡ length ws
noted-long ws number r = go (is_pending r)
  where
    go : (t : Bool) → length (cond t (set ws (r.process.0 - 1) (noted (get_or ws (r.process.0 - 1) Nothing) number r)) ws) ≡ length ws
    go true = length-set ws (r.process.0 - 1) (noted (get_or ws (r.process.0 - 1) Nothing) number r)
    go false = refl

pub waiting-seen : (number : ℕ) (ws : List Waiting) (xs : List Row) (k : ℕ) → length ws ≡ 7 → k < 7
    → get_or (all_noted ws number xs) k Nothing ≡ waits (suc k) number (get_or ws k Nothing) xs
waiting-seen number ws [] k len l = refl
waiting-seen number ws (r ∷ rest) k len l =
    waiting-seen (suc number) (noted_in ws number r) rest k (noted-long ws number r ∙ len) l
    ∙ ap (λ (w : Waiting). waits (suc k) (suc number) w rest) (noted-at ws number r k len l)

-- what there is to wait for, by the numbers of the pending rows
abbrev pub classified : (ℕ → Row) → List ℕ → Waiting
classified row [] = Nothing
classified row (i ∷ []) = One (record { row = i; write = is_write (row i).kind; query = (row i).replied.query })
classified row (i ∷ j ∷ rest) = Several

waits-several : (p number : ℕ) (xs : List Row) → waits p number Several xs ≡ Several
waits-several p number [] = refl
waits-several p number (r ∷ rest) = go (is_pending_of p r) (waits-several p (suc number) rest)
  where
    go : (t : Bool) → waits p (suc number) Several rest ≡ Several → waits p (suc number) (cond t Several Several) rest ≡ Several
    go true h = h
    go false h = h

-- one was seen: any further one makes them several
waits-more : (p number : ℕ) (seen : Pending) (xs : List Row) → waits p number (One seen) xs ≡ cond (is_empty (pending_of p number xs)) (One seen) Several
waits-more p number seen [] = refl
waits-more p number seen (r ∷ rest) = go (is_pending_of p r) (waits-several p (suc number) rest) (waits-more p (suc number) seen rest)
  where
    go : (t : Bool) → waits p (suc number) Several rest ≡ Several → waits p (suc number) (One seen) rest ≡ cond (is_empty (pending_of p (suc number) rest)) (One seen) Several
        → waits p (suc number) (cond t Several (One seen)) rest ≡ cond (is_empty (cond t (number ∷ pending_of p (suc number) rest) (pending_of p (suc number) rest))) (One seen) Several
    go true more none = more
    go false more none = none

-- the numbers are not below the first
from-first : (p number i : ℕ) (xs : List Row) (more : List ℕ) → pending_of p number xs ≡ i ∷ more → number ≤ i
from-first p number i [] more h = let z : ◌≡◌ {A = ℕ} 0 1 = cc in absurd (omega arith)
from-first p number i (r ∷ rest) more h = go (is_pending_of p r) (from-first p (suc number) i rest more) h
  where
    go : (t : Bool) → (pending_of p (suc number) rest ≡ i ∷ more → suc number ≤ i) → cond t (number ∷ pending_of p (suc number) rest) (pending_of p (suc number) rest) ≡ i ∷ more → number ≤ i
    go true later e = let same : number ≡ i = cc in omega arith
    go false later e = let le = later e in omega arith

-- the first row is left out where no number speaks of it
shifted : (r : Row) (rest : List Row) (number : ℕ) (is : List ℕ) → ((i : ℕ) (more : List ℕ) → is ≡ i ∷ more → suc number ≤ i)
    → classified (λ i. get_or rest (i - suc number) empty_row) is ≡ classified (λ i. get_or (r ∷ rest) (i - number) empty_row) is
shifted r rest number [] h = refl
shifted r rest number (i ∷ []) h =
    let le = h i [] refl in
    let at : i - number ≡ suc (i - suc number) = omega arith in
    rw at refl
shifted r rest number (i ∷ j ∷ more) h = refl

-- none was seen yet: what is seen at the end is what the numbers say
pub waits-classified : (p number : ℕ) (xs : List Row) → waits p number Nothing xs ≡ classified (λ i. get_or xs (i - number) empty_row) (pending_of p number xs)
waits-classified p number [] = refl
waits-classified p number (r ∷ rest) = go (is_pending_of p r) (waits-more p (suc number) seen rest) (waits-classified p (suc number) rest)
  where
    seen : Pending
    seen = record { row = number; write = is_write r.kind; query = r.replied.query }

    one : (is : List ℕ) → cond (is_empty is) (One seen) Several ≡ classified (λ i. get_or (r ∷ rest) (i - number) empty_row) (number ∷ is)
    one [] = let at : number - number ≡ 0 = omega arith in rw at refl
    one (i ∷ more) = refl

    go : (t : Bool) → waits p (suc number) (One seen) rest ≡ cond (is_empty (pending_of p (suc number) rest)) (One seen) Several
        → waits p (suc number) Nothing rest ≡ classified (λ i. get_or rest (i - suc number) empty_row) (pending_of p (suc number) rest)
        → waits p (suc number) (cond t (One seen) Nothing) rest ≡ classified (λ i. get_or (r ∷ rest) (i - number) empty_row) (cond t (number ∷ pending_of p (suc number) rest) (pending_of p (suc number) rest))
    go true more none = more ∙ one (pending_of p (suc number) rest)
    go false more none = none ∙ shifted r rest number (pending_of p (suc number) rest) (λ i is e. from-first p (suc number) i rest is e)

-- ---- and so: whether there is none to wait for, whether this is the only one, and what was noted of it

abbrev pub is_none : Waiting → Bool
is_none Nothing = true
is_none (One seen) = false
is_none Several = false

-- the only pending row is the one of this number
abbrev pub is_one : ℕ → Waiting → Bool
is_one row Nothing = false
is_one row (One seen) = eqb seen.row row
is_one row Several = false

pub waits-none : (p number : ℕ) (xs : List Row) → is_none (waits p number Nothing xs) ≡ is_empty (pending_of p number xs)
waits-none p number xs = ap is_none (waits-classified p number xs) ∙ go (pending_of p number xs)
  where
    go : (is : List ℕ) → is_none (classified (λ i. get_or xs (i - number) empty_row) is) ≡ is_empty is
    go [] = refl
    go (i ∷ []) = refl
    go (i ∷ j ∷ more) = refl

pub waits_one : (p number row : ℕ) (xs : List Row) → is_one row (waits p number Nothing xs) ≡ is_only row (pending_of p number xs)
waits_one p number row xs = ap (is_one row) (waits-classified p number xs) ∙ go (pending_of p number xs)
  where
    alone : (t : Bool) → t ≡ (t && true)
    alone true = refl
    alone false = refl

    more-there : (t : Bool) → false ≡ (t && false)
    more-there true = refl
    more-there false = refl

    go : (is : List ℕ) → is_one row (classified (λ i. get_or xs (i - number) empty_row) is) ≡ is_only row is
    go [] = refl
    go (i ∷ []) = alone (eqb i row)
    go (i ∷ j ∷ more) = more-there (eqb i row)

pub waits-row : (p number row : ℕ) (xs : List Row) → is_only row (pending_of p number xs) ≡ true
    → waits p number Nothing xs ≡ One (record { row = row; write = is_write (get_or xs (row - number) empty_row).kind; query = (get_or xs (row - number) empty_row).replied.query })
waits-row p number row xs h = waits-classified p number xs ∙ go (pending_of p number xs) h
  where
    go : (is : List ℕ) → is_only row is ≡ true → classified (λ i. get_or xs (i - number) empty_row) is ≡ classified (λ i. get_or xs (i - number) empty_row) (row ∷ [])
    go [] e = absurd (true≢false (sym e))
    go (i ∷ []) e = ap (λ (k : ℕ). classified (λ i. get_or xs (i - number) empty_row) (k ∷ [])) (eqb-true i row (and_left (eqb i row) true e))
    go (i ∷ j ∷ more) e = absurd (true≢false (sym (and_right (eqb i row) false e)))
