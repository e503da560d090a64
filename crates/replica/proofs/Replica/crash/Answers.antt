use Rattle.std.proofs.Common.{refl}
use Rattle.std.proofs.lemmas.Result.{err_from_is_err_and}
use Rattle.words.proofs.RefusalLaws.{number-some}
use Rattle.replica.specs.Handlers.{crashed, crash_rule}
use Rattle.replica.proofs.HandlerLaws.{rule-by, refuse-by}
use Rattle.replica.proofs.Replica.crash.Goals as goal

pub returns-in_err-check_crash : goal.returns-in_err-check_crash
unfolding crashed
returns-in_err-check_crash c =
    let p = err_from_is_err_and c.from_residual.result c.from_residual.ensures.1 in
    let e = c.in_err-check_crash in
    rw (p.1, p.2) (refuse-by _ _ _ _ e.ensures (number-some e.field-0.0))

pub returns : goal.returns
unfolding crashed crash_rule
returns c = rw c.sending.ensures (rule-by _ _ _ _ c.in_ok-check_crash.ensures refl)
