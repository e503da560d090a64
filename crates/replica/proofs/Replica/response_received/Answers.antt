use Rattle.std.proofs.Common.{◌≡◌, refl, ap, ◌∙◌}
use Rattle.std.proofs.lemmas.Result.{err_from_is_err_and}
use Rattle.words.proofs.RefusalLaws.{number-some}
use Rattle.words.specs.RangeLaws.{sender-time}
use Rattle.replica.specs.RangeLaws.{fits-clock, fits-rid}
use Rattle.replica.specs.Handlers.{discarded, response_received, response_rule, response_counted}
use Rattle.replica.proofs.HandlerLaws.{rule-by, refuse-by, response-inside, response-for, response-late, response-idle}
use Rattle.replica.proofs.Replica.response_received.Goals.{in_default-via-in-Querying+else-eq, in_default-via-in_default}
use Rattle.replica.proofs.Replica.response_received.Goals as goal

pub returns-in_err-check_response : goal.returns-in_err-check_response
unfolding response_received
returns-in_err-check_response c =
    let p = err_from_is_err_and c.from_residual.result c.from_residual.ensures.1 in
    let e = c.in_err-check_response in
    rw (p.1, p.2) (refuse-by _ _ _ _ e.ensures (number-some e.field-0.0))

pub response_counted-requires : goal.response_counted-requires
response_counted-requires c =
    let a = c.args in
    let i = response-inside a.self a.n a.register a.sender.from a.sender.time a.sender.rid a.pair c.in_ok-check_response.ensures refl in
    (fits-clock a.n a.self i.0, sender-time a.n a.sender.from a.sender.time a.sender.rid i.1, fits-rid a.n a.self i.0)

pub returns-in-Querying : goal.returns-in-Querying
unfolding response_received
returns-in-Querying c =
    let a = c.args in
    let w = c.in-Querying in
    c.response_counted.ensures ∙ ap (response_counted a.self a.n a.register a.sender.from a.sender.time c.in-Querying.row) c.with.ensures ∙ response-for a.self a.n a.register a.sender.from a.sender.time a.sender.rid a.pair w.row w.gathered w.is c.if-eq.ensures ∙ rule-by _ _ _ _ c.in_ok-check_response.ensures refl

pub returns-in_default : goal.returns-in_default
unfolding response_received
returns-in_default c =
    let a = c.args in
    rw c.sending.ensures (left ∙ rule-by _ _ _ _ c.in_ok-check_response.ensures refl)
  where
    left : discarded c.args.self ≡ response_rule c.args.self c.args.n c.args.register c.args.sender.from c.args.sender.time c.args.sender.rid c.args.pair
    left =
        elim c.in_default.branch [
          | in_default-via-in-Querying+else-eq w ↦ response-late c.args.self c.args.n c.args.register c.args.sender.from c.args.sender.time c.args.sender.rid c.args.pair w.in-Querying.row w.in-Querying.gathered w.in-Querying.is w.if-eq.ensures
          | in_default-via-in_default w ↦ response-idle c.args.self c.args.n c.args.register c.args.sender.from c.args.sender.time c.args.sender.rid c.args.pair w.in_default.not-Querying
        ]
