use Rattle.std.proofs.Common.{refl, arith}
use Rattle.std.proofs.lemmas.Result.{err_from_is_err_and}
use Rattle.words.proofs.RefusalLaws.{number-some}
use Rattle.words.specs.RangeLaws.{sender-time, within-least, within-most}
use Rattle.replica.specs.RangeLaws.{fits-clock}
use Rattle.replica.specs.Handlers.{update_received, update_rule}
use Rattle.replica.proofs.HandlerLaws.{rule-by, refuse-by, update-inside}
use Rattle.replica.proofs.Replica.update_received.Goals as goal

pub returns-in_err-check_update : goal.returns-in_err-check_update
unfolding update_received
returns-in_err-check_update c =
    let p = err_from_is_err_and c.from_residual.result c.from_residual.ensures.1 in
    let e = c.in_err-check_update in
    rw (p.1, p.2) (refuse-by _ _ _ _ e.ensures (number-some e.field-0.0))

pub after_receiving-self-requires : goal.after_receiving-self-requires
after_receiving-self-requires c =
    let a = c.args in
    let i = update-inside a.self a.sender.from a.sender.time a.sender.rid a.register a.pair c.in_ok-check_update.ensures refl in
    (fits-clock 7 a.self i.0, sender-time 7 a.sender.from a.sender.time a.sender.rid i.1)

pub stored-requires : goal.stored-requires
stored-requires c =
    let a = c.args in
    let i = update-inside a.self a.sender.from a.sender.time a.sender.rid a.register a.pair c.in_ok-check_update.ensures refl in
    (within-least _ 16 i.2, within-most _ 16 i.2)

pub overflow_sub-register : goal.overflow_sub-register
overflow_sub-register c =
    let a = c.args in
    let i = update-inside a.self a.sender.from a.sender.time a.sender.rid a.register a.pair c.in_ok-check_update.ensures refl in
    within-least _ 16 i.2

pub bounds-self-from : goal.bounds-self-from
bounds-self-from c =
    let a = c.args in
    let i = update-inside a.self a.sender.from a.sender.time a.sender.rid a.register a.pair c.in_ok-check_update.ensures refl in
    omega (arith, c.from.ensures, within-least a.register 16 i.2, within-most a.register 16 i.2)

pub returns : goal.returns
unfolding update_received update_rule
returns c =
    rw (c.sending.ensures, c.reply.ensures, c.newer_of-newest.ensures, c.stored.ensures, c.after_receiving-self.ensures, c.from.ensures)
    (rule-by _ _ _ _ c.in_ok-check_update.ensures refl)
