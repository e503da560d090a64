-- The run of a whole file: a file that opens starts from a fresh bench on empty tables, and what its events leave is what `run` promises; one that does not open leaves
-- all as it was. The state that it stops at was reached from a fresh start.
use Rattle.std.specs.Prelude.{ℕ, ◌≡◌, refl, Bool, Ok, Err, List, eqb, length, replicate}
use Rattle.std.proofs.Common.{sym, ◌∙◌, eq-eqb, ne_eqb}
use Rattle.std.proofs.Math.Path.{ap}
use Rattle.std.proofs.Math.Bool.{true, false, cond}
use Rattle.words.specs.declared.refusal.Refusal.{Refusal}
use Rattle.words.specs.declared.Message.{Message}
use Rattle.words.specs.Refusals.{number}
use Rattle.words.proofs.RefusalLaws.{number-some}
use Rattle.tables.specs.declared.Row.{Row}
use Rattle.tables.specs.Tables.{empty_message, empty_row}
use Rattle.state.specs.declared.Bench.{Bench}
use Rattle.state.specs.Stepped.{Stepped}
use Rattle.state.specs.State.{view, laid_messages, laid_rows}
use Rattle.state.specs.Tabled.{tabled, bench_of}
use Rattle.state.proofs.Keeps.{reached-well-formed}
use Rattle.state.proofs.Sized.{reached-sized}
use Rattle.state.specs.Reached.{Reached, start}
use Rattle.advance.proofs.TabledLaws.{Holds, holds-tabled, holds-view}
use Rattle.format.specs.Format.{byte_at}
use Rattle.format.proofs.FileLaws.{Opens}
use Rattle.bench.specs.Start.{no_bench, replied, started, started_by}
use Rattle.bench.proofs.ReplyLaws.{same, pick}
use Rattle.schedule.specs.Run.{Ran, ran}
use Rattle.schedule.proofs.RunLaws.{run-reached}
use Rattle.schedule.specs.Turns.{RanOn}
use Rattle.schedule.specs.Opening.{opening_refusal, opens, begun, opened, ran_file, run_reply, run_messages, run_rows}
use Rattle.schedule.proofs.OpeningLaws.{places-fit, history-fits, opens-file}

-- what `run` promises
pub record Played (bytes : List ℕ) (messages : List Message) (rows : List Row) (r : Stepped) (messages' : List Message) (rows' : List Row) : Type 0 where
  pub reply : r ≡ run_reply (length messages) (length rows) bytes
  pub messages-left : messages' ≡ run_messages bytes messages rows
  pub rows_left : rows' ≡ run_rows bytes messages rows

-- ---- a file that opens

pub begun-reached : (bytes : List ℕ) → Opens bytes → Reached (begun bytes)
begun-reached bytes o = start (byte_at bytes 5) (byte_at bytes 6) o.processes o.registers

pub file-reached : (bytes : List ℕ) → Opens bytes → Reached (ran_file bytes).state
unfolding ran_file
file-reached bytes o = run-reached bytes 7 (begun bytes) (begun-reached bytes o)

module _ (messages : List Message) (rows : List Row) (bytes : List ℕ) where
  abbrev refusal : ℕ
  refusal = opening_refusal (length messages) (length rows) bytes

  module _ (b : Bench) (e : started (Ok b) ≡ opened (length messages) (length rows) bytes) where
    none : refusal ≡ 0
    unfolding opened started_by
    none = sym (ap (λ (x : Stepped). x.refusal) e)

    pub told : opens (length messages) (length rows) bytes ≡ true
    told = eq-eqb refusal 0 none

    held : Opens bytes
    held = opens-file (length messages) (length rows) bytes none

    bench-is : b ≡ bench_of (begun bytes)
    unfolding opened started_by
    bench-is = ap (λ (x : Stepped). x.bench) e ∙ ap (λ (t : Bool). cond t (bench_of (begun bytes)) no_bench) told

    starts : Holds (begun bytes) b (replicate (length messages) empty_message) (replicate (length rows) empty_row)
    starts = (
      bench-is,
      ap (λ (k : ℕ). replicate k empty_message) (places-fit (length messages) (length rows) bytes none),
      ap (λ (k : ℕ). replicate k empty_row) (history-fits (length messages) (length rows) bytes none),
    )

    pub start-tabled : tabled b (replicate (length messages) empty_message) (replicate (length rows) empty_row) ≡ true
    start-tabled =
        holds-tabled (begun bytes) b (replicate (length messages) empty_message) (replicate (length rows) empty_row) starts
        (reached-well-formed (begun bytes) (begun-reached bytes held)) (reached-sized (begun bytes) (begun-reached bytes held))

    from-fresh : ran bytes 7 (view b (replicate (length messages) empty_message) (replicate (length rows) empty_row)) ≡ ran_file bytes
    unfolding ran_file
    from-fresh = ap (ran bytes 7) (holds-view (begun bytes) b (replicate (length messages) empty_message) (replicate (length rows) empty_row) starts)

    pub played : (r : Stepped) (messages' : List Message) (rows' : List Row) → RanOn b bytes 7 (replicate (length messages) empty_message) (replicate (length rows) empty_row) r messages' rows'
        → Played bytes messages rows r messages' rows'
    unfolding run_reply run_messages run_rows
    played r messages' rows' a =
        record {
          reply =
              pick _ true (replied (ran_file bytes).refusal (bench_of (ran_file bytes).state)) (replied refusal no_bench) r told
              (same r (ran_file bytes).refusal (bench_of (ran_file bytes).state) (a.refusal ∙ ap (λ (x : Ran). x.refusal) from-fresh)
              (a.bench ∙ ap (λ (x : Ran). bench_of x.state) from-fresh));
          messages-left =
              pick _ true (laid_messages (ran_file bytes).state) _ messages' told (a.messages-laid ∙ ap (λ (x : Ran). laid_messages x.state) from-fresh);
          rows_left = pick _ true (laid_rows (ran_file bytes).state) _ rows' told (a.rows-laid ∙ ap (λ (x : Ran). laid_rows x.state) from-fresh);
        }

  -- ---- a file that does not

  module _ (e : Refusal) (f : started (Err e) ≡ opened (length messages) (length rows) bytes) where
    refusal_is : number e ≡ refusal
    unfolding opened started_by
    refusal_is = ap (λ (x : Stepped). x.refusal) f

    pub untold : opens (length messages) (length rows) bytes ≡ false
    untold = sym (ap (λ (k : ℕ). eqb k 0) refusal_is) ∙ ne_eqb (number e) 0 (number-some e)

    pub unplayed : Played bytes messages rows (replied (number e) no_bench) messages rows
    unfolding run_reply run_messages run_rows
    unplayed =
        record {
          reply =
              pick _ false (replied (ran_file bytes).refusal (bench_of (ran_file bytes).state)) (replied refusal no_bench) (replied (number e) no_bench) untold
              (ap (λ (k : ℕ). replied k no_bench) refusal_is);
          messages-left = pick _ false (laid_messages (ran_file bytes).state) messages messages untold refl;
          rows_left = pick _ false (laid_rows (ran_file bytes).state) rows rows untold refl;
        }
