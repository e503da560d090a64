use Rattle.std.proofs.Common.{refl}
use Rattle.std.proofs.lemmas.Result.{err_from_is_err_and}
use Rattle.words.proofs.RefusalLaws.{number-some}
use Rattle.words.specs.RangeLaws.{sender-time, within-least, within-most}
use Rattle.replica.specs.RangeLaws.{fits-clock}
use Rattle.replica.specs.Handlers.{query_received, query_rule}
use Rattle.replica.proofs.HandlerLaws.{rule-by, refuse-by, query-inside}
use Rattle.replica.proofs.Replica.query_received.Goals as goal

pub returns-in_err-check_query : goal.returns-in_err-check_query
unfolding query_received
returns-in_err-check_query c =
    let p = err_from_is_err_and c.from_residual.result c.from_residual.ensures.1 in
    let e = c.in_err-check_query in
    rw (p.1, p.2) (refuse-by _ _ _ _ e.ensures (number-some e.field-0.0))

pub after_receiving-self-requires : goal.after_receiving-self-requires
after_receiving-self-requires c =
    let a = c.args in
    let i = query-inside a.self a.sender.from a.sender.time a.sender.rid a.register c.in_ok-check_query.ensures refl in
    (fits-clock 7 a.self i.0, sender-time 7 a.sender.from a.sender.time a.sender.rid i.1)

pub stored-pair-requires : goal.stored-pair-requires
stored-pair-requires c =
    let a = c.args in
    let i = query-inside a.self a.sender.from a.sender.time a.sender.rid a.register c.in_ok-check_query.ensures refl in
    (within-least _ 16 i.2, within-most _ 16 i.2)

pub returns : goal.returns
unfolding query_received query_rule
returns c =
    rw (c.sending.ensures, c.reply.ensures, c.stored-pair.ensures, c.after_receiving-self.ensures)
    (rule-by _ _ _ _ c.in_ok-check_query.ensures refl)
