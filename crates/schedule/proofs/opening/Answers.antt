-- A file that is not refused has its first seven bytes.
use Rattle.std.proofs.Common.{sym, arith}
use Rattle.std.proofs.lemmas.Result.{err_from_is_err_and}
use Rattle.words.specs.declared.refusal.Refusal.TheVariants.{NotFormed}
use Rattle.schedule.proofs.OpeningLaws.{one-unfit, both_fit, fitting, unfitting, opens-file, opened-by, refused-by}
use Rattle.schedule.proofs.opening.Goals as goal

pub returns-then-places-history : goal.returns-then-places-history
returns-then-places-history c =
    let a = c.args in
    refused-by a.places a.history a.bytes.now NotFormed (unfitting a.places a.history a.bytes.now (one-unfit _ _ c.if-places-history.true))

pub returns-in_err-file_refusal : goal.returns-in_err-file_refusal
returns-in_err-file_refusal c =
    let a = c.args in
    let p = err_from_is_err_and c.from_residual.result c.from_residual.ensures.1 in
    rw (p.1, p.2) (refused-by a.places a.history a.bytes.now _ (fitting a.places a.history a.bytes.now (both_fit _ _ c.if-places-history.false) _ c.in_err-file_refusal.ensures))

pub bounds-bytes-5 : goal.bounds-bytes-5
bounds-bytes-5 c =
    let a = c.args in
    let h = (opens-file a.places a.history a.bytes.now (sym (fitting a.places a.history a.bytes.now (both_fit _ _ c.if-places-history.false) _ c.in_ok-file_refusal.ensures))).long in omega arith

pub bounds-bytes-6 : goal.bounds-bytes-6
bounds-bytes-6 c =
    let a = c.args in
    let h = (opens-file a.places a.history a.bytes.now (sym (fitting a.places a.history a.bytes.now (both_fit _ _ c.if-places-history.false) _ c.in_ok-file_refusal.ensures))).long in omega arith

pub returns : goal.returns
returns c =
    let a = c.args in
    opened-by a.places a.history a.bytes.now (fitting a.places a.history a.bytes.now (both_fit _ _ c.if-places-history.false) _ c.in_ok-file_refusal.ensures) c.fresh_bench.result c.fresh_bench.ensures
