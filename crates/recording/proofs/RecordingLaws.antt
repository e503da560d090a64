-- What is written from a run is the history file of its schedule; and that it stands at the front of the buffer.
use Rattle.std.specs.Prelude.{ℕ, ◌+◌, ◌-◌, ◌≤◌, ◌<◌, ◌≡◌, Bool, true, false, replicate}
use Rattle.std.proofs.Math.Path.{sym, ap, subst}
use Rattle.std.proofs.Common.{◌∙◌, arith, length-take, eq-eqb, le-leb}
use Rattle.std.proofs.Math.Bool.{cond}
use mathlib.Core.List.{List, ◌++◌}
use Rattle.std.proofs.Math.Dec.{eqb}
use Rattle.std.proofs.Math.ListN.{length, take}
use Rattle.std.proofs.lemmas.Bool.{lt-leb}
use Rattle.tables.specs.declared.Row.{Row}
use Rattle.tables.specs.Tables.{laid_at}
use Rattle.state.specs.Stepped.{Stepped}
use Rattle.order.specs.Operations.{order_of}
use Rattle.format.specs.Format.{file_refusal}
use Rattle.schedule.specs.Opening.{ran_file}
use Rattle.text.specs.Printed.{printed_refusal}
use Rattle.text.specs.Written.{Wrote}
use Rattle.text.specs.LaidLaws.{laid-length}
use Rattle.replaying.specs.Replayed.{Fronts}
use Rattle.replaying.proofs.ReplayedLaws.{Stopped, front, used-rows, rows_long, rows_few}
use Rattle.histories.specs.OwnFile.{file_of, own_file, Recorded}
use Rattle.recording.specs.Recording.{recorded, history_reply, history_left}

module _ (bytes : List ℕ) where
  recorded-run : eqb (file_refusal bytes) 0 ≡ true → recorded bytes ≡ own_file (ran_file bytes).state.rows
  unfolding recorded
  recorded-run e = ap (λ (t : Bool). cond t (own_file (ran_file bytes).state.rows) (printed_refusal (file_refusal bytes))) e

  recorded-refused : eqb (file_refusal bytes) 0 ≡ false → recorded bytes ≡ printed_refusal (file_refusal bytes)
  unfolding recorded
  recorded-refused e = ap (λ (t : Bool). cond t (own_file (ran_file bytes).state.rows) (printed_refusal (file_refusal bytes))) e

-- ---- a schedule that starts a bench

module _ (bytes : List ℕ) (r : Stepped) (rows : List Row) (s : Stopped bytes r rows) where
  -- the rows that are used are rows of the table
  pub used-rows_fit : r.bench.rows ≤ length rows
  used-rows_fit = omega (arith, rows_few bytes r rows s, rows_long bytes r rows s)

  pub file-written : (u : ℕ) → u ≡ r.bench.rows → (count : ℕ) (listing : List ℕ) → count ≡ length (order_of (take r.bench.rows rows))
      → listing ≡ order_of (take r.bench.rows rows) ++ replicate (1024 - length (order_of (take r.bench.rows rows))) 0
      → (xs ys : List ℕ) (end : ℕ) → Recorded (take u rows) (take count listing) xs ys end → Wrote 0 (recorded bytes) 14345 xs ys end
  unfolding own_file
  file-written u eu count listing ec el xs ys end w =
      let history : take u rows ≡ (ran_file bytes).state.rows = ap (λ (k : ℕ). take k rows) eu ∙ used-rows bytes r rows s in
      let numbers : take count listing ≡ order_of (take u rows) = front count (order_of (take r.bench.rows rows)) listing ec el ∙ sym (ap (λ (k : ℕ). order_of (take k rows)) eu) in
      subst (λ (file : List ℕ). Wrote 0 file 14345 xs ys end)
      (ap (file_of (take u rows)) numbers ∙ ap (λ (l : List Row). file_of l (order_of l)) history ∙ sym (recorded-run bytes (eq-eqb (file_refusal bytes) 0 s.file))) w

-- ---- a schedule that starts no bench

pub file-refused : (bytes : List ℕ) (k : ℕ) → k ≡ file_refusal bytes → eqb (file_refusal bytes) 0 ≡ false
    → (xs ys : List ℕ) (end : ℕ) → Wrote 0 (printed_refusal k) 14 xs ys end → Wrote 0 (recorded bytes) 14345 xs ys end
file-refused bytes k e none xs ys end w =
    subst (λ (text : List ℕ). Wrote 0 text 14345 xs ys end) (ap printed_refusal e ∙ sym (recorded-refused bytes none))
    (record { ends = w.ends; lays = w.lays; short = omega (arith, w.short); room = w.room })

-- ---- the reply of `history`

module _ (bytes out : List ℕ) where
  pub long-reply : 14345 ≤ length out → (r : ℕ) (out' : List ℕ) → Wrote 0 (recorded bytes) 14345 out out' r → r ≡ history_reply bytes out
  unfolding history_reply
  long-reply l r out' w = counted w.ends ∙ ap (λ (t : Bool). cond t (length (recorded bytes)) 0) (sym (le-leb 14345 (length out) l))
    where
      counted : r ≡ 0 + length (recorded bytes) → r ≡ length (recorded bytes)
      counted q = omega (arith, q)

  pub long-left : 14345 ≤ length out → (r : ℕ) (out' : List ℕ) → Wrote 0 (recorded bytes) 14345 out out' r → out' ≡ history_left bytes out
  unfolding history_left
  long-left l r out' w = w.lays ∙ ap (λ (t : Bool). cond t (laid_at 0 (recorded bytes) out) out) (sym (le-leb 14345 (length out) l))

  pub short-reply : length out < 14345 → 0 ≡ history_reply bytes out
  unfolding history_reply
  short-reply l = ap (λ (t : Bool). cond t (length (recorded bytes)) 0) (sym (lt-leb 14345 (length out) l))

  pub short-left : length out < 14345 → out ≡ history_left bytes out
  unfolding history_left
  short-left l = ap (λ (t : Bool). cond t (laid_at 0 (recorded bytes) out) out) (sym (lt-leb 14345 (length out) l))

  -- what was laid is at the front, and so is nothing
  pub none-fronts : Fronts 0 out
  none-fronts = (omega arith, omega (arith, length-take 0 out))

  pub long-fronts : (r : ℕ) (out' : List ℕ) → Wrote 0 (recorded bytes) 14345 out out' r → Fronts r out'
  long-fronts r out' w =
      let long : length out' ≡ length out = ap length w.lays ∙ laid-length 0 (recorded bytes) out w.room in
      let fits : r ≤ length out' = omega (arith, w.ends, w.room, long) in
      (fits, omega (arith, fits, length-take r out'))
