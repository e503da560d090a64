-- What rows come to: of two lists one after another it is the sum, so that rows can be counted one after another; and how large it can be.
use Rattle.std.specs.Prelude.{ℕ, zero, suc, ◌+◌, ◌-◌, ◌*◌, ◌<◌, min, max, ◌≡◌, refl, Bool, true, false, cond, ◌&&◌, List, [], ◌∷◌, ◌++◌, length, get_or, take}
use Rattle.std.proofs.Common.{sym, ap, subst, ◌∙◌, add-one, arith, rules, length-append, take-suc}
use Rattle.tables.specs.declared.Row.{Row}
use Rattle.tables.specs.Tables.{empty_row}
use Rattle.figures.specs.declared.Operations.{Operations}
use Rattle.figures.specs.declared.Waits.{Waits}
use Rattle.figures.specs.declared.History.{History}
use Rattle.figures.specs.contracts.HistoryDefault.TheImpl.{is_default-value}
use Rattle.figures.specs.Figures.{count_if, is_read_row, is_write_row, is_complete, operations_of, waits_of, sum_of, lesser, least_of, greatest_of, figures_of, history_of}
use Rattle.figures.specs.Figures.{plus_operations, plus_waits, plus_history}
use Rattle.figures.specs.Parts.{most_wait, Few, HistoryRoom}

-- ---- counts

pub count-append : {A : Type 0} (test : A → Bool) (xs ys : List A) → count_if test (xs ++ ys) ≡ count_if test xs + count_if test ys
count-append test [] ys = omega arith
count-append test (x ∷ xs) ys = let e = count-append test xs ys in omega arith

operations-append : (of_kind : Row → Bool) (xs ys : List Row) → operations_of of_kind (xs ++ ys) ≡ plus_operations (operations_of of_kind xs) (operations_of of_kind ys)
operations-append of_kind xs ys =
    ap (λ (n : ℕ). of n (count_if completed (xs ++ ys))) (count-append of_kind xs ys) ∙ ap (of (count_if of_kind xs + count_if of_kind ys)) (count-append completed xs ys)
  where
    completed : Row → Bool
    completed row = of_kind row && is_complete row

    of : ℕ → ℕ → Operations
    of n m = record { begun = n; completed = m }

-- ---- waits

waits-append : (xs ys : List Row) → waits_of (xs ++ ys) ≡ waits_of xs ++ waits_of ys
waits-append [] ys = refl
waits-append (x ∷ xs) ys = go (is_complete x) (waits-append xs ys)
  where
    wait : ℕ
    wait = x.answered.0 - x.invoked.0

    go : (b : Bool) → waits_of (xs ++ ys) ≡ waits_of xs ++ waits_of ys
        → cond b (wait ∷ waits_of (xs ++ ys)) (waits_of (xs ++ ys)) ≡ cond b (wait ∷ waits_of xs) (waits_of xs) ++ waits_of ys
    go true e = ap (λ (l : List ℕ). wait ∷ l) e
    go false e = e

sum-append : (a b : List ℕ) → sum_of (a ++ b) ≡ sum_of a + sum_of b
sum-append [] b = omega arith
sum-append (n ∷ a) b = let e = sum-append a b in omega arith

greatest-append : (a b : List ℕ) → greatest_of (a ++ b) ≡ max (greatest_of a) (greatest_of b)
greatest-append [] b = omega arith
greatest-append (n ∷ a) b = let e = greatest-append a b in omega arith

-- the least of n and those of a list with at least one
lesser-more : (n some l others m : ℕ) → min n (lesser (suc some) l others m) ≡ lesser (suc some) (min n l) others m
lesser-more n some l zero m = refl
lesser-more n some l (suc others) m = omega arith

least-append : (a b : List ℕ) → least_of (a ++ b) ≡ lesser (length a) (least_of a) (length b) (least_of b)
least-append [] b = refl
least-append (n ∷ []) b = refl
least-append (n ∷ k ∷ a) b = ap (min n) (least-append (k ∷ a) b) ∙ lesser-more n (length a) (least_of (k ∷ a)) (length b) (least_of b)

figures-append : (a b : List ℕ) → figures_of (a ++ b) ≡ plus_waits (figures_of a) (figures_of b)
figures-append a b =
    ap (λ (n : ℕ). of n (sum_of (a ++ b)) (least_of (a ++ b)) (greatest_of (a ++ b))) (length-append a b)
    ∙ ap (λ (n : ℕ). of (length a + length b) n (least_of (a ++ b)) (greatest_of (a ++ b))) (sum-append a b)
    ∙ ap (λ (n : ℕ). of (length a + length b) (sum_of a + sum_of b) n (greatest_of (a ++ b))) (least-append a b)
    ∙ ap (λ (n : ℕ). of (length a + length b) (sum_of a + sum_of b) (lesser (length a) (least_of a) (length b) (least_of b)) n) (greatest-append a b)
  where
    of : ℕ → ℕ → ℕ → ℕ → Waits
    of count sum least greatest = record { count = count; sum = sum; least = least; greatest = greatest }

-- ---- rows

pub history-append : (xs ys : List Row) → history_of (xs ++ ys) ≡ plus_history (history_of xs) (history_of ys)
history-append xs ys =
    ap (λ (o : Operations). of o (operations_of is_write_row (xs ++ ys)) (figures_of (waits_of (xs ++ ys)))) (operations-append is_read_row xs ys)
    ∙ ap (λ (o : Operations). of (plus_operations (operations_of is_read_row xs) (operations_of is_read_row ys)) o (figures_of (waits_of (xs ++ ys)))) (operations-append is_write_row xs ys)
    ∙ ap (λ (w : Waits). of (plus_operations (operations_of is_read_row xs) (operations_of is_read_row ys)) (plus_operations (operations_of is_write_row xs) (operations_of is_write_row ys)) w)
    (ap figures_of (waits-append xs ys) ∙ figures-append (waits_of xs) (waits_of ys))
  where
    of : Operations → Operations → Waits → History
    of reads writes waits = record { reads = reads; writes = writes; waits = waits }

-- ---- no row

-- what `History::default` gives
pub default-none : (h : History) → is_default-value.it h → h ≡ history_of []
default-none h default = search rules

-- ---- one row after another

pub one-row : (rows : List Row) (i : ℕ) (h k r : History) → i < length rows → h ≡ history_of (take i rows) → k ≡ history_of (get_or rows i empty_row ∷ []) → r ≡ plus_history h k
    → r ≡ history_of (take (i + 1) rows)
one-row rows i h k r more e ek er =
    er ∙ ap (λ (x : History). plus_history x k) e ∙ ap (plus_history (history_of (take i rows))) ek ∙ sym (history-append (take i rows) (get_or rows i empty_row ∷ []))
    ∙ ap history_of (sym (take-suc rows i empty_row more) ∙ ap (λ (j : ℕ). take j rows) (sym (add-one i)))

pub all-rows : (rows : List Row) (i c : ℕ) (h : History) → h ≡ history_of (take i rows) → i ≡ c → h ≡ history_of (take c rows)
all-rows rows i c h e f = e ∙ ap (λ (j : ℕ). history_of (take j rows)) f

-- ---- how large

pub none-few : (h : History) → h ≡ history_of [] → Few (most_wait * 0) h
none-few h e = subst (Few (most_wait * 0)) (sym e) (record { reads = omega arith; writes = omega arith; waits = omega arith })

pub few-more : (i : ℕ) (h k r : History) → Few (most_wait * i) h → Few most_wait k → r ≡ plus_history h k → Few (most_wait * (i + 1)) r
few-more i h k r f g e =
    subst (Few (most_wait * (i + 1))) (sym e)
    (record {
      reads = record { begun = omega (arith, f.reads.begun, g.reads.begun); completed = omega (arith, f.reads.completed, g.reads.completed) };
      writes = record { begun = omega (arith, f.writes.begun, g.writes.begun); completed = omega (arith, f.writes.completed, g.writes.completed) };
      waits = record { count = omega (arith, f.waits.count, g.waits.count); sum = omega (arith, f.waits.sum, g.waits.sum) };
    })

pub few-room : (i : ℕ) (h k : History) → i < 65536 → Few (most_wait * i) h → Few most_wait k → HistoryRoom h k
few-room i h k l f g =
    record {
      reads = record { begun = omega (arith, f.reads.begun, g.reads.begun); completed = omega (arith, f.reads.completed, g.reads.completed) };
      writes = record { begun = omega (arith, f.writes.begun, g.writes.begun); completed = omega (arith, f.writes.completed, g.writes.completed) };
      waits = record { count = omega (arith, f.waits.count, g.waits.count); sum = omega (arith, f.waits.sum, g.waits.sum) };
    }
