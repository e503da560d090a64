-- A file that opens is played from a fresh bench on emptied tables; one that does not leaves all as it was.
use Rattle.std.proofs.Common.{sym}
use Rattle.std.proofs.lemmas.Result.{err_from_is_err_and}
use Rattle.schedule.proofs.FileLaws.{start-tabled, told, untold, played, unplayed}
use Rattle.schedule.proofs.run.Goals as goal

pub returns-in_err-bench-clause-reply : goal.returns-in_err-bench-clause-reply
returns-in_err-bench-clause-reply c =
    let a = c.args in
    let r = err_from_is_err_and c.from_residual.result c.from_residual.ensures.1 in
    let p = unplayed a.messages.now a.rows.now a.bytes.now c.in_err-bench.field-0.0 c.in_err-bench.ensures in
    rw (r.1, r.2) (p.reply, (p.messages-left, p.rows_left))

pub returns-in_err-bench-clause-opens : goal.returns-in_err-bench-clause-opens
returns-in_err-bench-clause-opens c =
    let a = c.args in
    let r = err_from_is_err_and c.from_residual.result c.from_residual.ensures.1 in
    rw r.1 (sym (untold a.messages.now a.rows.now a.bytes.now c.in_err-bench.field-0.0 c.in_err-bench.ensures))

pub run_events-requires : goal.run_events-requires
run_events-requires c =
    let a = c.args in
    rw (c.fill.ensures.after (λ y e. e), c.default.ensures, c.fill-2.ensures.after (λ y e. e), c.default-2.ensures) (start-tabled a.messages.now a.rows.now a.bytes.now c.in_ok-bench.bench c.in_ok-bench.ensures)

pub returns-clause-reply : goal.returns-clause-reply
returns-clause-reply c =
    let a = c.args in
    let p =
    played a.messages.now a.rows.now a.bytes.now c.in_ok-bench.bench c.in_ok-bench.ensures _ c.run_events.new.messages c.run_events.new.rows
    (rw (c.fill.ensures.after (λ y e. e), c.default.ensures, c.fill-2.ensures.after (λ y e. e), c.default-2.ensures) at c.run_events.ensures) in
    (p.reply, (p.messages-left, p.rows_left))

pub returns-clause-opens : goal.returns-clause-opens
returns-clause-opens c =
    let a = c.args in
    sym (told a.messages.now a.rows.now a.bytes.now c.in_ok-bench.bench c.in_ok-bench.ensures)
