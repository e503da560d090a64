-- A start that the checks refuse leaves both tables; any other clears them.
use Rattle.std.proofs.Common.{ap, ◌∙◌, length, replicate}
use Rattle.std.proofs.lemmas.Result.{err_from_is_err_and}
use Rattle.bench.specs.StartLaws.{was-started, was-refused}
use Rattle.bench.proofs.start.Goals as goal

pub returns-in_err-check_start : goal.returns-in_err-check_start
returns-in_err-check_start c =
    let a = c.args in
    let p = err_from_is_err_and c.from_residual.result c.from_residual.ensures.1 in
    let s = was-refused a.n a.m a.messages.now a.rows.now c.in_err-check_start.field-0.0 c.in_err-check_start.ensures in
    rw (p.1, p.2) (s.reply, (s.messages-left, s.rows_left))

pub returns : goal.returns
returns c =
    let a = c.args in
    let s = was-started a.n a.m a.messages.now a.rows.now c.in_ok-check_start.ensures _ c.fresh_bench.ensures _ (c.fill.ensures.after (λ y e. e) ∙ ap (replicate (length a.messages.now)) c.default.ensures) _ (c.fill-2.ensures.after (λ y e. e) ∙ ap (replicate (length a.rows.now)) c.default-2.ensures) in
    (s.reply, (s.messages-left, s.rows_left))
