-- What a run over a table of 1,024 rows says of its file, from whether its bench has processes; and that the text which is written from it is the replay's.
use Rattle.std.specs.Prelude.{ℕ, ◌+◌, ◌-◌, ◌≤◌, ◌<◌, ◌≡◌, Bool, true, false, List, ◌++◌, eqb, get_or, take, replicate}
use Rattle.std.proofs.Math.Path.{refl, ap}
use Rattle.std.proofs.Common.{sym, subst, ◌∙◌, arith, length-append, length-take, get_or-take, eqb-true, eq-eqb, le-leb}
use Rattle.std.proofs.Math.Bool.{cond}
use Rattle.std.proofs.Math.ListN.{length}
use Rattle.std.proofs.Math.Seq.{take-append_seam}
use Rattle.std.proofs.lemmas.Bool.{lt-leb}
use Rattle.words.specs.declared.Message.{Message}
use Rattle.tables.specs.declared.Row.{Row}
use Rattle.tables.specs.Tables.{empty_message, empty_row, laid_at}
use Rattle.state.specs.declared.Bench.{Bench}
use Rattle.state.specs.Stepped.{Stepped}
use Rattle.state.specs.State.{State, view, laid_messages, laid_rows}
use Rattle.state.specs.Tabled.{tabled, bench_of}
use Rattle.state.specs.WellFormed.{every}
use Rattle.state.proofs.WellLaws.{Well, well}
use Rattle.state.proofs.Keeps.{reached-well-formed}
use Rattle.state.proofs.Sized.{reached-sized}
use Rattle.state.specs.Reached.{Reached}
use Rattle.advance.proofs.TabledLaws.{Holds, holds-tabled, holds-view}
use Rattle.order.specs.Operations.{order_of}
use Rattle.order.specs.Keys.{row_ranged}
use Rattle.bench.specs.Start.{no_bench, replied}
use Rattle.bench.proofs.ListingLaws.{rows-1024, count-1024, rows-ranged}
use Rattle.format.specs.Format.{file_refusal}
use Rattle.format.proofs.FileLaws.{file-opens}
use Rattle.schedule.specs.Opening.{opening_refusal, opens, ran_file, run_reply, run_rows}
use Rattle.schedule.proofs.FileLaws.{Played, file-reached}
use Rattle.text.specs.Printed.{printed, printed_refusal}
use Rattle.text.specs.Short.{ShortBench, ShortRow, ShortRows}
use Rattle.text.specs.ShortLaws.{short-rows, short-clocks, short-stores}
use Rattle.text.specs.Written.{Wrote}
use Rattle.text.specs.LaidLaws.{laid-length}
use Rattle.report.specs.Reported.{Reported}
use Rattle.replaying.specs.Replayed.{replayed, replay_reply, replay_left, rows_left, Fronts}

-- ---- a run whose table of messages has 512 places

module _ (bytes : List ℕ) (messages : List Message) (long : length messages ≡ 512) (rows : List Row) (r : Stepped) (messages' : List Message) (rows' : List Row) (p : Played bytes messages rows r messages' rows') where
  pub history-reply : r ≡ run_reply 512 (length rows) bytes
  history-reply = p.reply ∙ ap (λ (k : ℕ). run_reply k (length rows) bytes) long

  pub history-left : rows' ≡ rows_left bytes rows
  unfolding run_rows rows_left
  history-left = p.rows_left ∙ ap (λ (k : ℕ). cond (opens k (length rows) bytes) (laid_rows (ran_file bytes).state) rows) long

-- ---- the row numbers at the front of a listing

module _ (count : ℕ) (order listing : List ℕ) (c : count ≡ length order) (l : listing ≡ order ++ replicate (1024 - length order) 0) where
  pub front : take count listing ≡ order
  front = rw (c, l) (take-append_seam order (replicate (1024 - length order) 0))

  pub all_listed : count ≤ length listing
  all_listed = subst (λ (x : List ℕ). count ≤ length x) (sym l) (omega (arith, c, length-append order (replicate (1024 - length order) 0)))

-- ---- what it says of the file

abbrev stopped : List ℕ → State
stopped bytes = (ran_file bytes).state

-- the two texts
module _ (bytes : List ℕ) where
  abbrev of-run : List ℕ
  of-run = printed (stopped bytes) (ran_file bytes).refusal (order_of (stopped bytes).rows)

  by-test : (t : Bool) → eqb (file_refusal bytes) 0 ≡ t → replayed bytes ≡ cond t of-run (printed_refusal (file_refusal bytes))
  unfolding replayed
  by-test t e = ap (λ (u : Bool). cond u of-run (printed_refusal (file_refusal bytes))) e

  pub replayed-run : eqb (file_refusal bytes) 0 ≡ true → replayed bytes ≡ printed (ran_file bytes).state (ran_file bytes).refusal (order_of (ran_file bytes).state.rows)
  replayed-run e = by-test true e

  pub replayed-refused : eqb (file_refusal bytes) 0 ≡ false → replayed bytes ≡ printed_refusal (file_refusal bytes)
  replayed-refused e = by-test false e

-- the bench and the history hold the state that the run stopped at
pub record Stopped (bytes : List ℕ) (r : Stepped) (rows : List Row) : Type 0 where
  pub file : file_refusal bytes ≡ 0
  pub refusal : r.refusal ≡ (ran_file bytes).refusal
  pub bench : r.bench ≡ bench_of (stopped bytes)
  pub laid : rows ≡ laid_rows (stopped bytes)

module _ (bytes : List ℕ) (rows : List Row) (long : length rows ≡ 1024) (r : Stepped) (e : r ≡ run_reply 512 (length rows) bytes) (rows' : List Row) (f : rows' ≡ rows_left bytes rows) where
  number_is : opening_refusal 512 (length rows) bytes ≡ file_refusal bytes
  unfolding opening_refusal
  number_is = rw long refl

  opens-is : opens 512 (length rows) bytes ≡ eqb (file_refusal bytes) 0
  opens-is = ap (λ (k : ℕ). eqb k 0) number_is

  abbrev reply : Bool → Stepped
  reply t = cond t (replied (ran_file bytes).refusal (bench_of (stopped bytes))) (replied (opening_refusal 512 (length rows) bytes) no_bench)

  reply-is : (t : Bool) → eqb (file_refusal bytes) 0 ≡ t → r ≡ reply t
  unfolding run_reply
  reply-is t z = e ∙ ap reply (opens-is ∙ z)

  left_is : (t : Bool) → eqb (file_refusal bytes) 0 ≡ t → rows' ≡ cond t (laid_rows (stopped bytes)) rows
  unfolding rows_left
  left_is t z = f ∙ ap (λ (u : Bool). cond u (laid_rows (stopped bytes)) rows) (opens-is ∙ z)

  accepted : eqb (file_refusal bytes) 0 ≡ true → Stopped bytes r rows'
  accepted z =
      record {
        file = eqb-true (file_refusal bytes) 0 z;
        refusal = ap (λ (x : Stepped). x.refusal) (reply-is true z);
        bench = ap (λ (x : Stepped). x.bench) (reply-is true z);
        laid = left_is true z;
      }

  pub number-given : eqb (file_refusal bytes) 0 ≡ false → r.refusal ≡ file_refusal bytes
  number-given z = ap (λ (x : Stepped). x.refusal) (reply-is false z) ∙ number_is

  -- by whether the code says that it starts a bench
  pub begun : true ≡ opens 512 (length rows) bytes → Stopped bytes r rows'
  begun h = accepted (sym opens-is ∙ sym h)

  pub unbegun : false ≡ opens 512 (length rows) bytes → eqb (file_refusal bytes) 0 ≡ false
  unbegun h = sym opens-is ∙ sym h

-- ---- what a state that a run stopped at has

module _ (bytes : List ℕ) (r : Stepped) (rows : List Row) (s : Stopped bytes r rows) where
  reached : Reached (stopped bytes)
  reached = file-reached bytes (file-opens bytes s.file)

  formed : Well (stopped bytes)
  formed = well (stopped bytes) (reached-well-formed (stopped bytes) reached)

  holding : Holds (stopped bytes) r.bench (laid_messages (stopped bytes)) rows
  holding = (s.bench, refl, s.laid)

  is-tabled : tabled r.bench (laid_messages (stopped bytes)) rows ≡ true
  is-tabled = holds-tabled (stopped bytes) r.bench (laid_messages (stopped bytes)) rows holding (reached-well-formed (stopped bytes) reached) (reached-sized (stopped bytes) reached)

  view-is : view r.bench (laid_messages (stopped bytes)) rows ≡ stopped bytes
  view-is = holds-view (stopped bytes) r.bench (laid_messages (stopped bytes)) rows holding

  pub some-process : 1 ≤ r.bench.n
  some-process = subst (λ (b : Bench). 1 ≤ b.n) (sym s.bench) formed.processes.least

  pub few-processes : r.bench.n ≤ 7
  few-processes = subst (λ (b : Bench). b.n ≤ 7) (sym s.bench) formed.processes.most

  pub few-registers : r.bench.m ≤ 16
  few-registers = subst (λ (b : Bench). b.m ≤ 16) (sym s.bench) formed.registers.most

  pub rows_long : length rows ≡ 1024
  rows_long = rows-1024 r.bench (laid_messages (stopped bytes)) rows is-tabled

  pub rows_few : r.bench.rows ≤ 1024
  rows_few = count-1024 r.bench (laid_messages (stopped bytes)) rows is-tabled

  pub all-ranged : every row_ranged (take r.bench.rows rows) ≡ true
  all-ranged = rows-ranged r.bench (laid_messages (stopped bytes)) rows is-tabled

  -- ---- what the order and the report ask

  pub used-rows : take r.bench.rows rows ≡ (stopped bytes).rows
  used-rows = ap (λ (t : State). t.rows) view-is

  short-bench : ShortBench r.bench
  short-bench = subst ShortBench (sym s.bench) (short-clocks (stopped bytes) formed, short-stores (stopped bytes) formed)

  used-short : ShortRows r.bench.rows rows
  used-short i l =
      let there : i < length (stopped bytes).rows = subst (λ (b : Bench). i < b.rows) s.bench l in
      subst ShortRow (ap (λ (t : List Row). get_or t i empty_row) (sym used-rows) ∙ get_or-take r.bench.rows rows i empty_row l) (short-rows (stopped bytes) formed i there)

  pub order-asks : (places : ℕ) → places ≡ 1024 → (length rows ≡ 1024) × ((places ≡ 1024) × ((r.bench.rows ≤ 1024) × (every row_ranged (take r.bench.rows rows) ≡ true)))
  order-asks places l = (rows_long, (l, (rows_few, all-ranged)))

  pub report-asks : (room : ℕ) → 81563 ≤ room → (count : ℕ) → count ≤ 1024
      → (81563 ≤ room) × ((r.bench.n ≤ 7) × ((r.bench.m ≤ 16) × ((r.bench.rows ≤ length rows) × ((r.bench.rows ≤ 1024) × ((count ≤ 1024) × (ShortBench r.bench × ShortRows r.bench.rows rows))))))
  report-asks room l count d = (l, (few-processes, (few-registers, (subst (λ (k : ℕ). r.bench.rows ≤ k) (sym rows_long) rows_few, (rows_few, (d, (short-bench, used-short)))))))

  -- ---- the text

  in-flight : r.bench.flight ≤ length (laid_messages (stopped bytes))
  in-flight = subst (λ (b : Bench). b.flight ≤ length (laid_messages (stopped bytes))) (sym s.bench) (omega (arith, length-append (stopped bytes).flight (replicate (512 - length (stopped bytes).flight) empty_message)))

  pub text_of : (numbers : List ℕ) → numbers ≡ order_of (take r.bench.rows rows) → (xs ys : List ℕ) (end : ℕ) → Reported r.bench r.refusal rows numbers xs ys end → Wrote 0 (replayed bytes) 81563 xs ys end
  text_of numbers o xs ys end w =
      subst (λ (text : List ℕ). Wrote 0 text 81563 xs ys end) (same ∙ sym (replayed-run bytes (eq-eqb (file_refusal bytes) 0 s.file))) (w (laid_messages (stopped bytes)) in-flight)
    where
      same : printed (view r.bench (laid_messages (stopped bytes)) rows) r.refusal numbers ≡ printed (stopped bytes) (ran_file bytes).refusal (order_of (stopped bytes).rows)
      same =
          ap (λ (t : State). printed t r.refusal numbers) view-is ∙ ap (λ (k : ℕ). printed (stopped bytes) k numbers) s.refusal
          ∙ ap (printed (stopped bytes) (ran_file bytes).refusal) (o ∙ ap order_of used-rows)

  pub text-written : (count : ℕ) (listing : List ℕ) → count ≡ length (order_of (take r.bench.rows rows))
      → listing ≡ order_of (take r.bench.rows rows) ++ replicate (1024 - length (order_of (take r.bench.rows rows))) 0
      → (xs ys : List ℕ) (end : ℕ) → Reported r.bench r.refusal rows (take count listing) xs ys end → Wrote 0 (replayed bytes) 81563 xs ys end
  text-written count listing ec el xs ys end w = text_of (take count listing) (front count (order_of (take r.bench.rows rows)) listing ec el) xs ys end w

-- ---- a file that starts no bench

module _ (bytes : List ℕ) (rows : List Row) (long : length rows ≡ 1024) (r : Stepped) (e : r ≡ run_reply 512 (length rows) bytes) (rows' : List Row) (f : rows' ≡ rows_left bytes rows) where
  pub text-refused : false ≡ opens 512 (length rows) bytes → (xs ys : List ℕ) (end : ℕ) → Wrote 0 (printed_refusal r.refusal) 14 xs ys end → Wrote 0 (replayed bytes) 81563 xs ys end
  text-refused h xs ys end w =
      let none : eqb (file_refusal bytes) 0 ≡ false = unbegun bytes rows long r e rows' f h in
      subst (λ (text : List ℕ). Wrote 0 text 81563 xs ys end) (ap printed_refusal (number-given bytes rows long r e rows' f none) ∙ sym (replayed-refused bytes none)) (widened w)
    where
      widened : Wrote 0 (printed_refusal r.refusal) 14 xs ys end → Wrote 0 (printed_refusal r.refusal) 81563 xs ys end
      widened v = record { ends = v.ends; lays = v.lays; short = omega (arith, v.short); room = v.room }

-- ---- the reply of `replay`

module _ (bytes out : List ℕ) where
  pub long-reply : 81563 ≤ length out → (r : ℕ) (out' : List ℕ) → Wrote 0 (replayed bytes) 81563 out out' r → r ≡ replay_reply bytes out
  unfolding replay_reply
  long-reply l r out' w = counted w.ends ∙ ap (λ (t : Bool). cond t (length (replayed bytes)) 0) (sym (le-leb 81563 (length out) l))
    where
      counted : r ≡ 0 + length (replayed bytes) → r ≡ length (replayed bytes)
      counted q = omega (arith, q)

  pub long-left : 81563 ≤ length out → (r : ℕ) (out' : List ℕ) → Wrote 0 (replayed bytes) 81563 out out' r → out' ≡ replay_left bytes out
  unfolding replay_left
  long-left l r out' w = w.lays ∙ ap (λ (t : Bool). cond t (laid_at 0 (replayed bytes) out) out) (sym (le-leb 81563 (length out) l))

  pub short-reply : length out < 81563 → 0 ≡ replay_reply bytes out
  unfolding replay_reply
  short-reply l = ap (λ (t : Bool). cond t (length (replayed bytes)) 0) (sym (lt-leb 81563 (length out) l))

  pub short-left : length out < 81563 → out ≡ replay_left bytes out
  unfolding replay_left
  short-left l = ap (λ (t : Bool). cond t (laid_at 0 (replayed bytes) out) out) (sym (lt-leb 81563 (length out) l))

  -- what was laid is at the front, and so is nothing
  fronts : (n : ℕ) (xs : List ℕ) → n ≤ length xs → Fronts n xs
  fronts n xs l = (l, omega (arith, l, length-take n xs))

  pub none-fronts : Fronts 0 out
  none-fronts = fronts 0 out (omega arith)

  pub long-fronts : (r : ℕ) (out' : List ℕ) → Wrote 0 (replayed bytes) 81563 out out' r → Fronts r out'
  long-fronts r out' w =
      fronts r out'
      (subst (λ (l : List ℕ). r ≤ length l) (sym w.lays) (omega (arith, w.ends, w.room, laid-length 0 (replayed bytes) out w.room)))
