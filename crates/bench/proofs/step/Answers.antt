-- What `advance` does, and what a refusal leaves, is what `step` replies.
use Rattle.std.proofs.Common.{sym, refl}
use Rattle.bench.proofs.ReplyLaws.{advanced-replied, refused-replied}
use Rattle.bench.proofs.step.Goals as goal

pub returns-then-not-is_tabled : goal.returns-then-not-is_tabled
returns-then-not-is_tabled c =
    let a = c.args in
    let r = refused-replied a.b a.event a.messages.now a.rows.now (sym c.if-not-is_tabled.ensures) _ refl in
    (r.reply, (r.messages-left, r.rows_left))

pub returns : goal.returns
returns c =
    let a = c.args in
    let r = advanced-replied a.b a.event a.messages.now a.rows.now (sym c.if-not-is_tabled.ensures) _ _ _ c.advance.ensures in
    (r.reply, (r.messages-left, r.rows_left))
