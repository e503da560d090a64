-- The whole text in a buffer: the line of the run, the rows and the tail of a bench, written one after another, are the text of the state that the
-- bench and its tables hold, and 81,563 bytes are enough for it.
use Rattle.std.specs.Prelude.{ℕ, ◌+◌, ◌*◌, ◌≤◌, List, length, take}
use Rattle.std.proofs.Common.{arith}
use Rattle.words.specs.declared.Message.{Message}
use Rattle.tables.specs.declared.Row.{Row}
use Rattle.state.specs.declared.Bench.{Bench}
use Rattle.state.specs.State.{view}
use Rattle.text.specs.Lines.{run_text, tail_text}
use Rattle.text.specs.LineLaws.{printed-is}
use Rattle.text.specs.declared.page.Page.{Page}
use Rattle.text.specs.Paged.{Adds}
use Rattle.text.specs.PagedLaws.{adds_next, adds_text}
use Rattle.text.specs.Printed.{row_lines, printed}
use Rattle.text.specs.Written.{Wrote}
use Rattle.text.specs.WrittenLaws.{and_next, as_text}

pub whole : {at r t e : ℕ} {xs ys zs us : List ℕ} (b : Bench) (messages : List Message) (rows : List Row) (refusal : ℕ) (order : List ℕ) (count : ℕ)
    → Wrote at (run_text b.n b.m b.accepted refusal) 28 xs ys r
    → Wrote r (row_lines 1 (take b.rows rows)) (68 * b.rows) ys zs t
    → Wrote t (tail_text b order) (5759 + 6 * count) zs us e
    → b.flight ≤ length messages → b.rows ≤ 1024 → count ≤ 1024 → Wrote at (printed (view b messages rows) refusal order) 81563 xs us e
whole b messages rows refusal order count run history tail fits few short =
    as_text (printed-is b messages rows refusal order fits) (omega arith) (and_next run (and_next history tail))

-- the same of a page
pub whole_page : {p q r s : Page} {j k l : ℕ} (b : Bench) (messages : List Message) (rows : List Row) (refusal : ℕ) (order : List ℕ)
    → Adds (run_text b.n b.m b.accepted refusal) j p q → Adds (row_lines 1 (take b.rows rows)) k q r → Adds (tail_text b order) l r s
    → b.flight ≤ length messages → j + k + l ≤ 81563 → Adds (printed (view b messages rows) refusal order) 81563 p s
whole_page b messages rows refusal order run history tail fits short =
    adds_text (printed-is b messages rows refusal order fits) (omega (arith, short)) (adds_next run (adds_next history tail))
