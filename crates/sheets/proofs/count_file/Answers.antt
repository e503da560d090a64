-- The table of rows has 1,024 places, and a run uses no more. What is counted of it, or the number that refuses the file, is what the schedule adds.
use Rattle.std.proofs.Common.{◌≤◌, ◌∙◌, ap, length, ℕ, replicate, sym, subst, take}
use Rattle.std.proofs.lemmas.List.{length-replicate, length-take-le}
use Rattle.schedule.specs.Turns.{stepped_by}
use Rattle.figures.specs.Figures.{history_of}
use Rattle.figures.specs.Parts.{refused_entry}
use Rattle.replaying.proofs.ReplayedLaws.{begun, unbegun, number-given}
use Rattle.sheets.proofs.EntryLaws.{used-fit, run-counted, refused-counted}
use Rattle.sheets.proofs.count_file.Goals as goal

pub slice_bounds-rows-end : goal.slice_bounds-rows-end
slice_bounds-rows-end c =
    let bytes = c.args.bytes.now in
    let rows = c.run_history.new.rows in
    let ran = stepped_by c.in-Ok.ran in
    let g = c.in-Ok.ensures in
    let s = begun bytes (replicate 1024 c.default-rows.result) (length-replicate 1024 c.default-rows.result) ran g.reply.0 rows g.reply.1 g.opens in
    subst (λ (k : ℕ). k ≤ length rows) (sym c.from-used.ensures) (used-fit bytes ran rows s)

pub slice_bounds-count_rows-end : goal.slice_bounds-count_rows-end
slice_bounds-count_rows-end c =
    let bytes = c.args.bytes.now in
    let rows = c.run_history.new.rows in
    let ran = stepped_by c.in-Ok.ran in
    let g = c.in-Ok.ensures in
    let s = begun bytes (replicate 1024 c.default-rows.result) (length-replicate 1024 c.default-rows.result) ran g.reply.0 rows g.reply.1 g.opens in
    sym (length-take-le c.from-used.result rows (subst (λ (k : ℕ). k ≤ length rows) (sym c.from-used.ensures) (used-fit bytes ran rows s)))

pub returns-in-Ok : goal.returns-in-Ok
returns-in-Ok c =
    let bytes = c.args.bytes.now in
    let rows = c.run_history.new.rows in
    let ran = stepped_by c.in-Ok.ran in
    let g = c.in-Ok.ensures in
    let s = begun bytes (replicate 1024 c.default-rows.result) (length-replicate 1024 c.default-rows.result) ran g.reply.0 rows g.reply.1 g.opens in
    c.of_run.ensures ∙ run-counted bytes ran rows s c.count_rows.result (c.count_rows.ensures ∙ ap (λ (k : ℕ). history_of (take k rows)) c.from-used.ensures)

pub returns-in-Err : goal.returns-in-Err
returns-in-Err c =
    let bytes = c.args.bytes.now in
    let made = replicate 1024 c.default-rows.result in
    let long = length-replicate 1024 c.default-rows.result in
    let g = c.in-Err.ensures in
    let none = unbegun bytes made long _ g.reply.0 c.run_history.new.rows g.reply.1 g.opens in
    c.refused.ensures ∙ ap refused_entry c.number.ensures ∙ refused-counted bytes c.in-Err.refusal (number-given bytes made long _ g.reply.0 c.run_history.new.rows g.reply.1 none) none
