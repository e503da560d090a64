-- What is counted of a run over a table of 1,024 rows is what its file adds.
use Rattle.std.specs.Prelude.{ℕ, ◌-◌, ◌≤◌, ◌<◌, ◌≡◌, Bool, not, ◌||◌, List, [], ltb, length, take}
use Rattle.std.proofs.Math.Path.{refl, ap}
use Rattle.std.proofs.Common.{sym, subst, ◌∙◌, arith, eq-eqb, ne_eqb}
use Rattle.std.proofs.Math.Bool.{true, false, cond}
use Rattle.std.proofs.Math.Dec.{eqb}
use Rattle.words.specs.declared.refusal.Refusal.{Refusal}
use Rattle.words.specs.Refusals.{number}
use Rattle.words.specs.Ranges.{within}
use Rattle.tables.specs.declared.Row.{Row}
use Rattle.state.specs.declared.Bench.{Bench}
use Rattle.state.specs.Stepped.{Stepped}
use Rattle.state.specs.State.{State}
use Rattle.state.specs.Tabled.{bench_of}
use Rattle.bench.specs.Start.{no_bench, replied}
use Rattle.format.specs.Format.{byte_at, word_at, file_refusal}
use Rattle.schedule.specs.Opening.{opening_refusal, opens, ran_file, run_reply}
use Rattle.replaying.specs.Replayed.{rows_left}
use Rattle.replaying.proofs.ReplayedLaws.{Stopped, begun, some-process, used-rows, rows_few, rows_long}
use Rattle.figures.specs.declared.History.{History}
use Rattle.figures.specs.declared.Entry.{Entry}
use Rattle.figures.specs.Figures.{history_of, traffic_of, no_traffic}
use Rattle.sheets.specs.Sheet.{added_by}
use Rattle.figures.specs.Parts.{bench_traffic, run_entry, refused_entry, entry_of}

module _ (bytes : List ℕ) where
  abbrev state : State
  state = (ran_file bytes).state

  abbrev adds : Bool → Entry
  adds t =
      cond t (record { refusal = 0; history = history_of state.rows; traffic = traffic_of state })
      (record { refusal = file_refusal bytes; history = history_of []; traffic = no_traffic })

  -- a schedule that starts a bench
  module _ (r : Stepped) (rows : List Row) (s : Stopped bytes r rows) where
    pub used-fit : r.bench.rows ≤ length rows
    used-fit = omega (arith, rows_few bytes r rows s, rows_long bytes r rows s)

    run-adds : (h : History) → h ≡ history_of (take r.bench.rows rows) → run_entry r.bench h ≡ adds true
    run-adds h e =
        ap (run_entry r.bench) (e ∙ ap history_of (used-rows bytes r rows s)) ∙ ap (λ (b : Bench). run_entry b (history_of state.rows)) s.bench

-- ---- what is counted of either, from the reply of its run

module _ (bytes : List ℕ) (rows : List Row) (long : length rows ≡ 1024) (s : Stepped) (e : s ≡ run_reply 512 (length rows) bytes) (rows' : List Row) (f : rows' ≡ rows_left bytes rows) where
  number_is : opening_refusal 512 (length rows) bytes ≡ file_refusal bytes
  unfolding opening_refusal
  number_is = rw long refl

  abbrev reply : Bool → Stepped
  reply t = cond t (replied (ran_file bytes).refusal (bench_of (state bytes))) (replied (opening_refusal 512 (length rows) bytes) no_bench)

  opens-by : (t : Bool) → eqb (file_refusal bytes) 0 ≡ t → opens 512 (length rows) bytes ≡ t
  opens-by t z = ap (λ (k : ℕ). eqb k 0) number_is ∙ z

  reply-is : (t : Bool) → eqb (file_refusal bytes) 0 ≡ t → s ≡ reply t
  unfolding run_reply
  reply-is t z = e ∙ ap reply (opens-by t z)

  -- what is counted
  abbrev counted : Entry
  counted = entry_of s (history_of (take s.bench.rows rows'))

  stopped : eqb (file_refusal bytes) 0 ≡ true → Stopped bytes s rows'
  stopped z = begun bytes rows long s e rows' f (sym (opens-by true z))

  is-run : eqb (file_refusal bytes) 0 ≡ true → counted ≡ adds bytes true
  is-run z =
      ap (λ (t : Bool). of_number (cond t s.refusal 0)) (ne_eqb s.bench.n 0 not_none)
      ∙ run-adds bytes s rows' (stopped z) (history_of (take s.bench.rows rows')) refl
    where
      of_number : ℕ → Entry
      of_number k = record { refusal = k; history = history_of (take s.bench.rows rows'); traffic = bench_traffic s.bench }

      not_none : (s.bench.n ≡ 0 → ⊥)
      not_none h = omega (arith, h, some-process bytes s rows' (stopped z))

  is-refused : eqb (file_refusal bytes) 0 ≡ false → counted ≡ adds bytes false
  is-refused z =
      ap (λ (x : Stepped). entry_of x (history_of (take x.bench.rows rows'))) (reply-is false z)
      ∙ ap (λ (k : ℕ). record { refusal = k; history = history_of []; traffic = no_traffic }) number_is

  -- a run uses no more rows than the table has, and a file that starts none uses none
  pub rows-fit : s.bench.rows ≤ length rows'
  rows-fit = go (eqb (file_refusal bytes) 0) refl
    where
      go : (t : Bool) → eqb (file_refusal bytes) 0 ≡ t → s.bench.rows ≤ length rows'
      go true z = used-fit bytes s rows' (stopped z)
      go false z = omega (arith, ap (λ (x : Stepped). x.bench.rows) (reply-is false z))

  entry-is : counted ≡ added_by bytes
  unfolding added_by
  entry-is = go (eqb (file_refusal bytes) 0) refl
    where
      go : (t : Bool) → eqb (file_refusal bytes) 0 ≡ t → counted ≡ adds bytes t
      go true z = is-run z
      go false z = is-refused z

  -- as the count of the rows in use gives it
  pub counted_is : (u : ℕ) (h : History) (r : Entry) → u ≡ s.bench.rows → h ≡ history_of (take u rows') → r ≡ entry_of s h → r ≡ added_by bytes
  counted_is u h r eu eh er = er ∙ ap (entry_of s) (eh ∙ ap (λ (k : ℕ). history_of (take k rows')) eu) ∙ entry-is

-- ---- and as the code has it, of a run and of a file that starts no bench

module _ (bytes : List ℕ) where
  pub run-counted : (r : Stepped) (rows : List Row) → Stopped bytes r rows → (h : History) → h ≡ history_of (take r.bench.rows rows) → run_entry r.bench h ≡ added_by bytes
  unfolding added_by
  run-counted r rows s h e = run-adds bytes r rows s h e ∙ sym (ap (adds bytes) (eq-eqb (file_refusal bytes) 0 s.file))

  pub refused-counted : (e : Refusal) → number e ≡ file_refusal bytes → eqb (file_refusal bytes) 0 ≡ false → refused_entry (number e) ≡ added_by bytes
  unfolding added_by
  refused-counted e f none = ap (λ (k : ℕ). record { refusal = k; history = history_of []; traffic = no_traffic }) f ∙ sym (ap (adds bytes) none)

-- ---- the number of a refusal by file is below 32

first_below : (a b c d e : Bool) → cond a 1 (cond (not b) 2 (cond (not c) 3 (cond (not d) 4 (cond (not e) 5 0)))) < 32
first_below true b c d e = omega arith
first_below false false c d e = omega arith
first_below false true false d e = omega arith
first_below false true true false e = omega arith
first_below false true true true false = omega arith
first_below false true true true true = omega arith

file-below : (bytes : List ℕ) → file_refusal bytes < 32
unfolding file_refusal
file-below bytes =
    first_below (ltb (length bytes) 7 || ltb 65536 (length bytes)) (eqb (word_at bytes 0) (length bytes - 4)) (eqb (byte_at bytes 4) 1) (within (byte_at bytes 5) 7)
    (within (byte_at bytes 6) 16)

pub entry-below : (bytes : List ℕ) (r : Entry) → r ≡ added_by bytes → r.refusal < 32
unfolding added_by
entry-below bytes r e = subst (λ (x : Entry). x.refusal < 32) (sym e) (go (eqb (file_refusal bytes) 0))
  where
    go : (t : Bool) → (cond {A = Entry} t (record { refusal = 0; history = history_of (ran_file bytes).state.rows; traffic = traffic_of (ran_file bytes).state })
        (record { refusal = file_refusal bytes; history = history_of []; traffic = no_traffic })).refusal < 32
    go true = omega arith
    go false = file-below bytes
