use Rattle.std.proofs.Common.{◌≡◌, ℕ, ◌+◌, ◌++◌, get_or, ap, ◌∙◌, arith}
use Rattle.std.proofs.Math.ListN.{drop}
use Rattle.std.proofs.lemmas.Grind.{get_or_after_one}
use Rattle.std.proofs.lemmas.List.{get_or-take}
use Rattle.text.specs.PagedLaws.{adds_next, adds_text}
use Rattle.sheet_text.specs.SheetText.{refused_line, refused_lines}
use Rattle.sheet_text.specs.TextLaws.{one-refused}
use Rattle.sheet_text.proofs.lines.put_refused_lines.Goals as goal

pub loop-i-preserved : goal.loop-i-preserved
loop-i-preserved c =
    let files = c.args.files.now in
    let i = c.loop-i.i in
    let behind : 1 + i ≡ i + 1 = omega arith in
    let read = get_or-take 31 (drop 1 files) i 0 (omega arith) ∙ get_or_after_one files i 0 ∙ ap (λ (k : ℕ). get_or files k 0) behind in
    adds_text (ap (λ (n : ℕ). refused_lines files 1 i ++ refused_line (i + 1) n) read ∙ one-refused files i) (omega arith)
    (adds_next c.loop-i.invariant c.put_refused_line.ensures)

pub returns : goal.returns
returns c =
    let all : c.loop-i.i ≡ 31 = omega arith in
    adds_text (ap (refused_lines c.args.files.now 1) all) (omega arith) c.loop-i.invariant
