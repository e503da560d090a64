use Rattle.std.proofs.Common.{refl, arith, w64}
use Rattle.std.proofs.Math.Facts.{to_z-of_z}
use Rattle.std.proofs.lemmas.Result.{err_from_is_err_and}
use Rattle.words.proofs.RefusalLaws.{number-some}
use Rattle.replica.specs.RangeLaws.{fits-clock, fits-rid}
use Rattle.replica.specs.Handlers.{write_begun, write_rule}
use Rattle.replica.proofs.HandlerLaws.{rule-by, refuse-by, write-inside}
use Rattle.replica.proofs.Replica.begin_write.Goals as goal

pub returns-in_err-check_write : goal.returns-in_err-check_write
unfolding write_begun
returns-in_err-check_write c =
    let p = err_from_is_err_and c.from_residual.result c.from_residual.ensures.1 in
    let e = c.in_err-check_write in
    rw (p.1, p.2) (refuse-by _ _ _ _ e.ensures (number-some e.field-0.0))

pub overflow_add-self : goal.overflow_add-self
overflow_add-self c = omega (arith, fits-clock 7 c.args.self (write-inside c.args.self _ _ _ c.in_ok-check_write.ensures refl))

pub overflow_add-self-2 : goal.overflow_add-self-2
overflow_add-self-2 c = omega (arith, fits-rid 7 c.args.self (write-inside c.args.self _ _ _ c.in_ok-check_write.ensures refl))

pub returns : goal.returns
unfolding write_begun write_rule
returns c =
    rw (c.sending.ensures, c.broadcast.ensures, to_z-of_z {w = w64} {z = c.args.value} c.ranges.value)
    (rule-by _ _ _ _ c.in_ok-check_write.ensures refl)
