use Rattle.replica.specs.Gathering.{nothing_gathered}
use Rattle.std.proofs.Common.{◌≡◌, rules, refl, arith}
use Rattle.std.proofs.lemmas.Result.{err_from_is_err_and}
use Rattle.words.proofs.RefusalLaws.{number-some}
use Rattle.replica.specs.RangeLaws.{fits-clock, fits-rid}
use Rattle.replica.specs.Handlers.{read_begun, read_rule}
use Rattle.replica.proofs.HandlerLaws.{rule-by, refuse-by, read-inside}
use Rattle.replica.proofs.Replica.begin_read.Goals as goal

pub returns-in_err-check_read : goal.returns-in_err-check_read
unfolding read_begun
returns-in_err-check_read c =
    let p = err_from_is_err_and c.from_residual.result c.from_residual.ensures.1 in
    let e = c.in_err-check_read in
    rw (p.1, p.2) (refuse-by _ _ _ _ e.ensures (number-some e.field-0.0))

pub overflow_add-self : goal.overflow_add-self
overflow_add-self c = omega (arith, fits-clock 7 c.args.self (read-inside c.args.self _ _ c.in_ok-check_read.ensures refl))

pub overflow_add-self-2 : goal.overflow_add-self-2
overflow_add-self-2 c = omega (arith, fits-rid 7 c.args.self (read-inside c.args.self _ _ c.in_ok-check_read.ensures refl))

pub returns : goal.returns
unfolding read_begun read_rule
returns c = let gathers : c.default.result ≡ nothing_gathered = search rules in
    rw (c.sending.ensures, c.broadcast.ensures, gathers)
    (rule-by _ _ _ _ c.in_ok-check_read.ensures refl)
