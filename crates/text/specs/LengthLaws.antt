-- How long the text is: each line of a well-formed state, and the whole. Numbers up to 99,999 take at most six bytes with their space, a value at
-- most 22.
use Rattle.std.specs.Prelude.{ℕ, zero, suc, ◌+◌, ◌-◌, ◌*◌, ◌≤◌, ◌<◌, ◌≡◌, Bool, cond, ◌&&◌, eqb, leb, ℤ, pos, negsuc, get_or}
use Rattle.std.proofs.Math.Bool.{true, false}
use Rattle.std.specs.Bool.{beq}
use mathlib.Core.List.{List, [], ◌∷◌, ◌++◌}
use native.Mathlib.Omega.{arith}
use Rattle.std.proofs.Math.ListN.{length}
use Rattle.std.proofs.Common.{length-append, leb-true}
use Rattle.words.specs.declared.Pair.{Pair}
use Rattle.words.specs.Ranges.{stamp_fits, pair_fits}
use Rattle.words.specs.RangeLaws.{and_left, and_right}
use Rattle.words.specs.Stamps.{start_pair}
use Rattle.tables.specs.declared.Kind.{Kind}
use Rattle.tables.specs.declared.Kind.TheVariants.{Read, Write}
use Rattle.tables.specs.declared.Row.{Row}
use Rattle.state.specs.State.{State, replica_of}
use Rattle.state.specs.WellFormed.{every, row_fits, well_formed}
use Rattle.state.specs.Within.{Within}
use Rattle.state.proofs.WellLaws.{Well, RowOk, row_ok, well, stored_at}
use Rattle.text.specs.DigitLaws.{decimal-most, decimal-short}
use Rattle.text.specs.Printed.{signed, number, field, newline, word_run, word_op, word_proc, word_reg, word_sent, word_delivered}
use Rattle.text.specs.Printed.{word_lost, word_flight, word_up, word_down, letter_of, answered, ending, pair_of, run_line, row_line}
use Rattle.text.specs.Printed.{row_lines, numbers, order_line, proc_line, proc_lines, reg_line, reg_lines, store_lines, count_line, printed}

-- a text of at most so many bytes
record AtMost (k : ℕ) (a : List ℕ) : Type 0 where
  most : length a ≤ k

joined : {j k : ℕ} {a b : List ℕ} → AtMost j a → AtMost k b → AtMost (j + k) (a ++ b)
joined {j} {k} {a} {b} x y = record { most = omega (arith, x.most, y.most, length-append a b) }

exactly : (a : List ℕ) → AtMost (length a) a
exactly a = record { most = omega arith }

wide : (n : ℕ) → AtMost 21 (number n)
wide n = record { most = omega (arith, decimal-most n) }

small : (n : ℕ) → n < 100000 → AtMost 6 (number n)
small n h = record { most = omega (arith, decimal-short 4 n h) }

value : (v : ℤ) → AtMost 22 (field (signed v))
unfolding signed
value (pos n) = record { most = omega (arith, decimal-most n) }
value (negsuc n) = record { most = omega (arith, decimal-most (suc n)) }

ended : AtMost 1 (newline ∷ [])
ended = record { most = omega arith }

-- the numbers of a pair that fits
pub fits-time : (a n : ℕ) (p : Pair) → pair_fits a n p ≡ true → p.stamp.time.0 ≤ a
fits-time a n p e =
    let time : ℕ = p.stamp.time.0 in
    let process : ℕ = p.stamp.process.0 in
    let zeros : Bool = beq (eqb time 0) (eqb process 0) in
    leb-true time a (and_left (leb time a) zeros (and_left (leb time a && zeros) (leb process n) (and_left (stamp_fits a n p.stamp) _ e)))

fits-process : (a n : ℕ) (p : Pair) → pair_fits a n p ≡ true → p.stamp.process.0 ≤ n
fits-process a n p e =
    let time : ℕ = p.stamp.time.0 in
    let process : ℕ = p.stamp.process.0 in
    let zeros : Bool = beq (eqb time 0) (eqb process 0) in
    leb-true process n (and_right (leb time a && zeros) (leb process n) (and_left (stamp_fits a n p.stamp) _ e))

answered-most : (t : ℕ) → t < 100000 → AtMost 6 (answered t)
answered-most zero h = record { most = omega arith }
answered-most (suc t) h = small (suc t) h

up-most : (crashed : Bool) → AtMost 5 (field (cond crashed word_down word_up))
up-most true = record { most = omega arith }
up-most false = record { most = omega arith }

numbers-short : (order : List ℕ) → ((i : ℕ) → i < length order → get_or order i 0 < 100000) → length (numbers order) ≤ 6 * length order
numbers-short [] h = omega arith
numbers-short (n ∷ rest) h =
    omega (arith, length-append (number n) (numbers rest), (small n (h 0 (omega arith))).most, numbers-short rest (λ i l. h (suc i) (omega arith)))

pub order-short : (order : List ℕ) → ((i : ℕ) → i < length order → get_or order i 0 < 100000) → length (order_line order) ≤ 6 + 6 * length order
unfolding order_line
order-short order h = omega (arith, length-append (numbers order) (newline ∷ []), numbers-short order h)

pub count-short : (s : State) → length (count_line s) ≤ 111
unfolding count_line
count-short s =
    let flight = joined (exactly (field word_flight)) (joined (wide (length s.flight)) ended) in
    let lost = joined (exactly (field word_lost)) (joined (wide s.lost) flight) in
    let delivered = joined (exactly (field word_delivered)) (joined (wide s.delivered) lost) in
    (joined (exactly word_sent) (joined (wide s.sent) delivered)).most

module _ (s : State) (w : Well s) where
  pub run_short : (refusal : ℕ) → refusal < 100000 → length (run_line s refusal) ≤ 28
  unfolding run_line
  run_short refusal h =
      let n = small s.n (omega (arith, w.processes.most)) in
      let m = small s.m (omega (arith, w.registers.most)) in
      let accepted = small s.accepted (omega (arith, w.events)) in
      (joined (exactly word_run) (joined n (joined m (joined accepted (joined (small refusal h) ended))))).most

  pair-most : (r : Row) → RowOk s r → AtMost 34 (pair_of r)
  pair-most r k =
      let p : Pair = record { stamp = r.stamp; value = r.value } in
      let time = small r.stamp.time.0 (omega (arith, fits-time s.accepted s.n p k.pair, w.events)) in
      let process = small r.stamp.process.0 (omega (arith, fits-process s.accepted s.n p k.pair, w.processes.most)) in
      joined time (joined process (value r.value))

  ending-most : (kind : Kind) (t : ℕ) (r : Row) → RowOk s r → AtMost 34 (ending kind t r)
  ending-most Read zero r k = record { most = omega arith }
  ending-most Read (suc t) r k = pair-most r k
  ending-most Write t r k = pair-most r k

  pub row-short : (i : ℕ) (r : Row) → i < 100000 → RowOk s r → length (row_line i r) ≤ 69
  unfolding row_line
  row-short i r h k =
      let process = small r.process.0 (omega (arith, k.process.most, w.processes.most)) in
      let register = small r.register (omega (arith, k.register.most, w.registers.most)) in
      let invoked = small r.invoked.0 (omega (arith, k.invoked, w.events)) in
      let when = answered-most r.answered.0 (omega (arith, k.answered, w.events)) in
      let rest = joined register (joined invoked (joined when (joined (ending-most r.kind r.answered.0 r k) ended))) in
      (joined (exactly word_op) (joined (small i h) (joined process (joined (exactly (field (letter_of r.kind ∷ []))) rest)))).most

  rows_short : (i : ℕ) (rows : List Row) → i + length rows ≤ 100000 → every (row_fits s) rows ≡ true → length (row_lines i rows) ≤ 69 * length rows
  rows_short i [] h e = omega arith
  rows_short i (r ∷ rest) h e =
      let here = row-short i r (omega arith) (row_ok s r (and_left (row_fits s r) (every (row_fits s) rest) e)) in
      let later = rows_short (suc i) rest (omega arith) (and_right (row_fits s r) (every (row_fits s) rest) e) in
      omega (arith, here, later, length-append (row_line i r) (row_lines (suc i) rest))

  pub proc-short : (p : ℕ) → Within p s.n → length (proc_line p (replica_of s p)) ≤ 22
  unfolding proc_line
  proc-short p l =
      let number = small p (omega (arith, l.most, w.processes.most)) in
      let clock = small (replica_of s p).clock.0 (omega (arith, (w.replica p l).clock, w.events)) in
      (joined (exactly word_proc) (joined number (joined clock (joined (up-most (replica_of s p).crashed) ended)))).most

  procs-short : (p left : ℕ) → 1 ≤ p → p + left ≤ s.n + 1 → length (proc_lines s p left) ≤ 22 * left
  procs-short p zero least most = omega arith
  procs-short p (suc left) least most =
      let here = proc-short p (record { least = least; most = omega arith }) in
      let later = procs-short (suc p) left (omega arith) (omega arith) in
      omega (arith, here, later, length-append (proc_line p (replica_of s p)) (proc_lines s (suc p) left))

  pub reg-short : (p x : ℕ) (pair : Pair) → p < 100000 → x < 100000 → pair_fits s.accepted s.n pair ≡ true → length (reg_line p x pair) ≤ 50
  unfolding reg_line
  reg-short p x pair hp hx e =
      let time = small pair.stamp.time.0 (omega (arith, fits-time s.accepted s.n pair e, w.events)) in
      let process = small pair.stamp.process.0 (omega (arith, fits-process s.accepted s.n pair e, w.processes.most)) in
      let text = joined (exactly word_reg) (joined (small p hp) (joined (small x hx) (joined time (joined process (joined (value pair.value) ended))))) in
      go (eqb pair.stamp.time.0 0) _ text.most
    where
      go : (t : Bool) (a : List ℕ) → length a ≤ 50 → length (cond t [] a) ≤ 50
      go true a h = omega arith
      go false a h = h

  regs-short : (p : ℕ) → Within p s.n → (x left : ℕ) → 1 ≤ x → x + left ≤ s.m + 1 → length (reg_lines (replica_of s p) p x left) ≤ 50 * left
  regs-short p l x zero least most = omega arith
  regs-short p l x (suc left) least most =
      let pair : Pair = get_or (replica_of s p).pairs (x - 1) start_pair in
      let fits = stored_at s w p x l (record { least = least; most = omega arith }) in
      let here = reg-short p x pair (omega (arith, l.most, w.processes.most)) (omega (arith, w.registers.most)) fits in
      let later = regs-short p l (suc x) left (omega arith) (omega arith) in
      omega (arith, here, later, length-append (reg_line p x pair) (reg_lines (replica_of s p) p (suc x) left))

  stores-short : (p left : ℕ) → 1 ≤ p → p + left ≤ s.n + 1 → length (store_lines s p left) ≤ 800 * left
  stores-short p zero least most = omega arith
  stores-short p (suc left) least most =
      let here = regs-short p (record { least = least; most = omega arith }) 1 s.m (omega arith) (omega arith) in
      let later = stores-short (suc p) left (omega arith) (omega arith) in
      omega (arith, here, later, w.registers.most, length-append (reg_lines (replica_of s p) p 1 s.m) (store_lines s (suc p) left))

-- the whole text of a well-formed state with at most 1,024 rows, and an order of at most 1,024
pub printed-short : (s : State) (refusal : ℕ) (order : List ℕ) → well_formed s ≡ true → length s.rows ≤ 1024 → refusal < 100000
    → length order ≤ 1024 → ((i : ℕ) → i < length order → get_or order i 0 < 100000) → length (printed s refusal order) ≤ 82699
unfolding printed
printed-short s refusal order fits rows low many each =
    let w : Well s = well s fits in
    let run : AtMost 28 (run_line s refusal) = record { most = run_short s w refusal low } in
    let history : AtMost 70656 (row_lines 1 s.rows) = record { most = omega (arith, rows_short s w 1 s.rows (omega arith) w.history) } in
    let line : AtMost 6150 (order_line order) = record { most = omega (arith, order-short order each) } in
    let procs : AtMost 154 (proc_lines s 1 s.n) = record { most = omega (arith, procs-short s w 1 s.n (omega arith) (omega arith), w.processes.most) } in
    let stores : AtMost 5600 (store_lines s 1 s.n) = record { most = omega (arith, stores-short s w 1 s.n (omega arith) (omega arith), w.processes.most) } in
    let count : AtMost 111 (count_line s) = record { most = count-short s } in
    (joined run (joined history (joined line (joined procs (joined stores count))))).most
