use Rattle.std.proofs.Common.{refl, arith, length}
use Rattle.text.specs.PagedLaws.{adds_next, adds_text}
use Rattle.histories.specs.RecordedLaws.{parts_are}
use Rattle.histories.proofs.put_file.Goals as goal

pub returns : goal.returns
returns c =
    let rows = c.args.rows.now in
    let order = c.args.order.now in
    adds_text (parts_are rows order (length rows) (length order) refl refl) (omega arith)
    (adds_next c.put_head.ensures (adds_next c.put_rows.ensures c.put_order.ensures))
