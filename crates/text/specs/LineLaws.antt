-- Laws of the lines: what a row's and a register's line are made of, and one more of a run of lines.
use Rattle.std.specs.Prelude.{ℕ, zero, suc, ◌+◌, ◌-◌, ◌<◌, ◌≤◌, ◌≡◌, refl, true, false, List, [], ◌∷◌, ◌++◌, length, get_or, take}
use Rattle.std.proofs.Common.{sym, subst, ap, ◌∙◌, append_assoc, append-nil, arith, add-one, length-take, length-take-le, eq-eqb, ne_eqb, eqb-true}
use Rattle.std.proofs.lemmas.Bool.{eqb-false}
use Rattle.std.proofs.lemmas.List.{get_or_default, get_or-take, take_more}
use Rattle.words.specs.declared.Pair.{Pair}
use Rattle.words.specs.Stamps.{start_pair}
use Rattle.words.specs.declared.Message.{Message}
use Rattle.replica.specs.declared.Replica.{Replica}
use Rattle.tables.specs.declared.Kind.{Kind}
use Rattle.tables.specs.declared.Kind.TheVariants.{Read, Write}
use Rattle.tables.specs.declared.Row.{Row}
use Rattle.state.specs.State.{fresh_replica, State, replica_of, view}
use Rattle.state.specs.declared.Bench.{Bench}
use Rattle.text.specs.Lines.{pair_text, is_blank, blank_text, row_head, row_rest, reg_text, reg_texts}
use Rattle.text.specs.Lines.{proc_texts, store_texts, run_text, proc_text, count_text, tail_text}
use Rattle.text.specs.Short.{ShortPairs, ShortStores}
use Rattle.text.specs.Printed.{number, field, dash, answered, ending, row_line, reg_line, reg_lines, proc_line}
use Rattle.text.specs.Printed.{numbers, run_line, proc_lines, store_lines, row_lines, order_line, count_line, printed}

pub unanswered : (t : ℕ) → t ≡ 0 → field dash ≡ answered t
unanswered t e = sym (ap answered e)

pub was-answered : (t : ℕ) → (t ≡ 0 → ⊥) → number t ≡ answered t
was-answered zero not = absurd (not refl)
was-answered (suc t) not = refl

pub blank-is : (k : Kind) (t : ℕ) (r : Row) → is_blank k t ≡ true → blank_text ≡ ending k t r
blank-is Read zero r e = refl
blank-is Read (suc t) r e = absurd (omega (arith, eqb-true (suc t) 0 e))
blank-is Write t r e = absurd (let z : ◌≡◌ {A = ℕ} 0 1 = cc in omega arith)

pub pair_is : (k : Kind) (t : ℕ) (r : Row) → is_blank k t ≡ false → pair_text r.stamp r.value ≡ ending k t r
pair_is Read zero r e = absurd (eqb-false 0 0 e refl)
pair_is Read (suc t) r e = refl
pair_is Write t r e = refl

pub row_is : (i : ℕ) (r : Row) → row_head i r.process.0 r.kind ++ row_rest r ≡ row_line i r
unfolding row_line
row_is i r = simp append_assoc

pub no-reg : (p x : ℕ) (pair : Pair) → pair.stamp.time.0 ≡ 0 → [] ≡ reg_line p x pair
unfolding reg_line
no-reg p x pair e = simp (eq-eqb pair.stamp.time.0 0 e)

pub reg-is : (p x : ℕ) (pair : Pair) → (pair.stamp.time.0 ≡ 0 → ⊥) → reg_text p x pair ≡ reg_line p x pair
unfolding reg_line
reg-is p x pair e = simp (ne_eqb pair.stamp.time.0 0 e, append_assoc)

-- ---- the lines of a state

pub run_is : (s : State) (refusal : ℕ) → run_text s.n s.m s.accepted refusal ≡ run_line s refusal
unfolding run_line
run_is s refusal = refl

pub proc-is : (p : ℕ) (r : Replica) → proc_text p r.clock.0 r.crashed ≡ proc_line p r
unfolding proc_line
proc-is p r = refl

pub count-is : (s : State) → count_text s.sent s.delivered s.lost (length s.flight) ≡ count_line s
unfolding count_line
count-is s = refl

pub regs_are : (r : Replica) (p x left : ℕ) → reg_texts r.pairs p x left ≡ reg_lines r p x left
regs_are r p x zero = refl
regs_are r p x (suc left) = ap (λ (l : List ℕ). reg_line p x (get_or r.pairs (x - 1) start_pair) ++ l) (regs_are r p (suc x) left)

pub procs-are : (s : State) (p left : ℕ) → proc_texts s.replicas p left ≡ proc_lines s p left
procs-are s p zero = refl
procs-are s p (suc left) = ap (λ (l : List ℕ). proc_line p (replica_of s p) ++ l) (procs-are s (suc p) left)

pub stores-are : (s : State) (p left : ℕ) → store_texts s.replicas s.m p left ≡ store_lines s p left
stores-are s p zero = refl
stores-are s p (suc left) = ap (λ (l : List ℕ). reg_lines (replica_of s p) p 1 s.m ++ l) (stores-are s (suc p) left)

-- ---- one more

numbers-both : (a b : List ℕ) → numbers (a ++ b) ≡ numbers a ++ numbers b
numbers-both [] b = refl
numbers-both (n ∷ a) b = ap (λ (l : List ℕ). number n ++ l) (numbers-both a b) ∙ sym (append_assoc (number n) (numbers a) (numbers b))

pub one_number : (order : List ℕ) (i : ℕ) → i < length order → numbers (take i order) ++ number (get_or order i 0) ≡ numbers (take (i + 1) order)
one_number order i more =
    ap (λ (l : List ℕ). numbers (take i order) ++ l) (sym (append-nil (number (get_or order i 0))))
    ∙ sym (numbers-both (take i order) (get_or order i 0 ∷ []))
    ∙ ap numbers (sym (take_more order i 0 more))

-- a run of lines, one for each number from x on: one more at its end
abbrev run : (ℕ → List ℕ) → ℕ → ℕ → List ℕ
run line x zero = []
run line x (suc left) = line x ++ run line (suc x) left

run-last : (line : ℕ → List ℕ) (x k : ℕ) → run line x k ++ line (x + k) ≡ run line x (suc k)
run-last line x zero = ap line same ∙ sym (append-nil (line x))
  where
    same : x + zero ≡ x
    same = omega arith
run-last line x (suc k) =
    append_assoc (line x) (run line (suc x) k) (line (x + suc k))
    ∙ ap (λ (y : ℕ). line x ++ (run line (suc x) k ++ line y)) same
    ∙ ap (λ (l : List ℕ). line x ++ l) (run-last line (suc x) k)
  where
    same : x + suc k ≡ suc x + k
    same = omega arith

run_more : (line : ℕ → List ℕ) (i : ℕ) → run line 1 i ++ line (i + 1) ≡ run line 1 (i + 1)
run_more line i = ap (λ (y : ℕ). run line 1 i ++ line y) same ∙ run-last line 1 i ∙ ap (run line 1) (sym (add-one i))
  where
    same : i + 1 ≡ 1 + i
    same = omega arith

module _ (line : ℕ → List ℕ) (lines : ℕ → ℕ → List ℕ) (none : (x : ℕ) → lines x 0 ≡ []) (more : (x k : ℕ) → lines x (suc k) ≡ line x ++ lines (suc x) k) where
  same-run : (x k : ℕ) → run line x k ≡ lines x k
  same-run x zero = sym (none x)
  same-run x (suc k) = ap (λ (l : List ℕ). line x ++ l) (same-run (suc x) k) ∙ sym (more x k)

  lines_more : (i : ℕ) → lines 1 i ++ line (i + 1) ≡ lines 1 (i + 1)
  lines_more i = ap (λ (l : List ℕ). l ++ line (i + 1)) (sym (same-run 1 i)) ∙ run_more line i ∙ same-run 1 (i + 1)

before-one : (i : ℕ) → i + 1 - 1 ≡ i
before-one i = omega arith

pub one_reg : (pairs : List Pair) (p i : ℕ) → reg_texts pairs p 1 i ++ reg_line p (i + 1) (get_or pairs i start_pair) ≡ reg_texts pairs p 1 (i + 1)
one_reg pairs p i =
    ap (λ (y : ℕ). reg_texts pairs p 1 i ++ reg_line p (i + 1) (get_or pairs y start_pair)) (sym (before-one i))
    ∙ lines_more (λ x. reg_line p x (get_or pairs (x - 1) start_pair)) (reg_texts pairs p) (λ x. refl) (λ x k. refl) i

pub one-proc : (replicas : List Replica) (i : ℕ) (d : Replica) → i < length replicas
    → proc_texts replicas 1 i ++ proc_line (i + 1) (get_or replicas i d) ≡ proc_texts replicas 1 (i + 1)
one-proc replicas i d within =
    ap (λ (r : Replica). proc_texts replicas 1 i ++ proc_line (i + 1) r) (get_or_default replicas i d fresh_replica within)
    ∙ ap (λ (y : ℕ). proc_texts replicas 1 i ++ proc_line (i + 1) (get_or replicas y fresh_replica)) (sym (before-one i))
    ∙ lines_more (λ p. proc_line p (get_or replicas (p - 1) fresh_replica)) (proc_texts replicas) (λ x. refl) (λ x k. refl) i

pub one_store : (replicas : List Replica) (m i : ℕ) (d : Replica) → i < length replicas
    → store_texts replicas m 1 i ++ reg_lines (get_or replicas i d) (i + 1) 1 m ≡ store_texts replicas m 1 (i + 1)
one_store replicas m i d within =
    ap (λ (r : Replica). store_texts replicas m 1 i ++ reg_lines r (i + 1) 1 m) (get_or_default replicas i d fresh_replica within)
    ∙ ap (λ (y : ℕ). store_texts replicas m 1 i ++ reg_lines (get_or replicas y fresh_replica) (i + 1) 1 m) (sym (before-one i))
    ∙ lines_more (λ p. reg_lines (get_or replicas (p - 1) fresh_replica) p 1 m) (store_texts replicas m) (λ x. refl) (λ x k. refl) i

-- ---- one more of the first so many

-- what stands at a place of them, whatever the default
taken-at : {A : Type 0} (n : ℕ) (xs : List A) (i : ℕ) (d e : A) → i < length (take n xs) → get_or (take n xs) i d ≡ get_or xs i e
taken-at n xs i d e within = get_or-take n xs i d (omega (arith, length-take n xs)) ∙ get_or_default xs i d e (omega (arith, length-take n xs))

pub reg_taken : (m : ℕ) (pairs : List Pair) (p i : ℕ) → i < m → reg_texts pairs p 1 i ++ reg_line p (i + 1) (get_or (take m pairs) i start_pair) ≡ reg_texts pairs p 1 (i + 1)
reg_taken m pairs p i below = ap (λ (pair : Pair). reg_texts pairs p 1 i ++ reg_line p (i + 1) pair) (get_or-take m pairs i start_pair below) ∙ one_reg pairs p i

module _ (n : ℕ) (replicas : List Replica) (i : ℕ) (d : Replica) (within : i < length (take n replicas)) where
  same-one : get_or (take n replicas) i d ≡ get_or replicas i fresh_replica
  same-one = taken-at n replicas i d fresh_replica within

  inside : i < length replicas
  inside = omega (arith, within, length-take n replicas)

  pub proc-taken : proc_texts replicas 1 i ++ proc_line (i + 1) (get_or (take n replicas) i d) ≡ proc_texts replicas 1 (i + 1)
  proc-taken = ap (λ (r : Replica). proc_texts replicas 1 i ++ proc_line (i + 1) r) same-one ∙ one-proc replicas i fresh_replica inside

  pub store-taken : (m : ℕ) → store_texts replicas m 1 i ++ reg_lines (get_or (take n replicas) i d) (i + 1) 1 m ≡ store_texts replicas m 1 (i + 1)
  store-taken m = ap (λ (r : Replica). store_texts replicas m 1 i ++ reg_lines r (i + 1) 1 m) same-one ∙ one_store replicas m i fresh_replica inside

  -- its pairs have short times
  pub short-taken : (m : ℕ) → ShortStores n m replicas → ShortPairs m (get_or (take n replicas) i d).pairs
  short-taken m short = subst (λ (r : Replica). ShortPairs m r.pairs) (sym same-one) (short i (omega (arith, within, length-take n replicas)))

rows_both : (i : ℕ) (a b : List Row) → row_lines i (a ++ b) ≡ row_lines i a ++ row_lines (i + length a) b
rows_both i [] b = let same : i ≡ i + 0 = omega arith in ap (λ (j : ℕ). row_lines j b) same
rows_both i (r ∷ a) b =
    ap (λ (l : List ℕ). row_line i r ++ l) (rows_both (suc i) a b)
    ∙ ap (λ (j : ℕ). row_line i r ++ (row_lines (suc i) a ++ row_lines j b)) same
    ∙ sym (append_assoc (row_line i r) (row_lines (suc i) a) (row_lines (i + suc (length a)) b))
  where
    same : suc i + length a ≡ i + suc (length a)
    same = omega arith

-- a row more
pub one-row : (rows : List Row) (i : ℕ) (d : Row) → i < length rows → row_lines 1 (take i rows) ++ row_line (i + 1) (get_or rows i d) ≡ row_lines 1 (take (i + 1) rows)
one-row rows i d more =
    ap (λ (l : List ℕ). row_lines 1 (take i rows) ++ l) (sym (append-nil (row_line (i + 1) (get_or rows i d))))
    ∙ ap (λ (j : ℕ). row_lines 1 (take i rows) ++ row_lines j (get_or rows i d ∷ [])) same
    ∙ sym (rows_both 1 (take i rows) (get_or rows i d ∷ []))
    ∙ ap (row_lines 1) (sym (take_more rows i d more))
  where
    same : i + 1 ≡ 1 + length (take i rows)
    same = omega (arith, length-take-le i rows (omega arith))

-- the text of a bench and its tables is the text of the state that they hold
pub printed-is : (b : Bench) (messages : List Message) (rows : List Row) (refusal : ℕ) (order : List ℕ) → b.flight ≤ length messages
    → run_text b.n b.m b.accepted refusal ++ (row_lines 1 (take b.rows rows) ++ tail_text b order) ≡ printed (view b messages rows) refusal order
unfolding printed run_line count_line
printed-is b messages rows refusal order fits =
    ap (λ (l : List ℕ). front ++ (above ++ (order_line order ++ (l ++ (store_texts b.replicas b.m 1 b.n ++ count b.flight))))) (procs-are s 1 b.n)
    ∙ ap (λ (l : List ℕ). front ++ (above ++ (order_line order ++ (proc_lines s 1 b.n ++ (l ++ count b.flight))))) (stores-are s 1 b.n)
    ∙ ap (λ (n : ℕ). front ++ (above ++ (order_line order ++ (proc_lines s 1 b.n ++ (store_lines s 1 b.n ++ count n))))) (sym (length-take-le b.flight messages fits))
  where
    s : State
    s = view b messages rows

    front : List ℕ
    front = run_text b.n b.m b.accepted refusal

    above : List ℕ
    above = row_lines 1 (take b.rows rows)

    count : ℕ → List ℕ
    count n = count_text b.sent b.delivered b.lost n
