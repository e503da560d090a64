use Rattle.std.proofs.Common.{◌≡◌, refl, ◌∙◌}
use Rattle.std.proofs.lemmas.Result.{err_from_is_err_and}
use Rattle.words.proofs.RefusalLaws.{number-some}
use Rattle.words.specs.RangeLaws.{sender-time}
use Rattle.replica.specs.RangeLaws.{fits-clock, fits-rid}
use Rattle.replica.specs.Handlers.{discarded, ack_received, ack_rule}
use Rattle.replica.proofs.HandlerLaws.{rule-by, refuse-by, ack-inside, ack-for, ack-late, ack-idle}
use Rattle.replica.proofs.Replica.ack_received.Goals.{in_default-via-in-Updating+else-eq, in_default-via-in_default}
use Rattle.replica.proofs.Replica.ack_received.Goals as goal

pub returns-in_err-check_ack : goal.returns-in_err-check_ack
unfolding ack_received
returns-in_err-check_ack c =
    let p = err_from_is_err_and c.from_residual.result c.from_residual.ensures.1 in
    let e = c.in_err-check_ack in
    rw (p.1, p.2) (refuse-by _ _ _ _ e.ensures (number-some e.field-0.0))

pub ack_counted-requires : goal.ack_counted-requires
ack_counted-requires c =
    let a = c.args in
    let i = ack-inside a.self a.n a.sender.from a.sender.time a.sender.rid c.in_ok-check_ack.ensures refl in
    (fits-clock a.n a.self i.0, sender-time a.n a.sender.from a.sender.time a.sender.rid i.1, fits-rid a.n a.self i.0)

pub returns-in-Updating : goal.returns-in-Updating
unfolding ack_received
returns-in-Updating c =
    let a = c.args in
    let w = c.in-Updating in
    c.ack_counted.ensures ∙ ack-for a.self a.n a.sender.from a.sender.time a.sender.rid w.row w.sent w.is c.if-eq.ensures ∙ rule-by _ _ _ _ c.in_ok-check_ack.ensures refl

pub returns-in_default : goal.returns-in_default
unfolding ack_received
returns-in_default c =
    let a = c.args in
    rw c.sending.ensures (left ∙ rule-by _ _ _ _ c.in_ok-check_ack.ensures refl)
  where
    left : discarded c.args.self ≡ ack_rule c.args.self c.args.n c.args.sender.from c.args.sender.time c.args.sender.rid
    left =
        elim c.in_default.branch [
          | in_default-via-in-Updating+else-eq w ↦ ack-late c.args.self c.args.n c.args.sender.from c.args.sender.time c.args.sender.rid w.in-Updating.row w.in-Updating.sent w.in-Updating.is w.if-eq.ensures
          | in_default-via-in_default w ↦ ack-idle c.args.self c.args.n c.args.sender.from c.args.sender.time c.args.sender.rid w.in_default.not-Updating
        ]
