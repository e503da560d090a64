use Rattle.std.proofs.Common.{Some, None, sym, ◌∙◌}
use Rattle.judge.specs.TabledLaws.{judged-is}
use Rattle.judge.proofs.is_tabled.Goals as goal

pub returns-in_default : goal.returns-in_default
returns-in_default c = judged-is c.args.b c.args.messages.now c.args.rows.now _ None c.limits_of-l.ensures (sym c.in_default.is ∙ c.waiting_in.ensures)

pub returns : goal.returns
returns c =
    rw (c.messages_fit.ensures, c.counts_fit.ensures, c.replicas_fit.ensures, c.limits_of-l.ensures)
    (judged-is c.args.b c.args.messages.now c.args.rows.now _ (Some c.in-Some.waiting) c.limits_of-l.ensures (sym c.in-Some.is ∙ c.waiting_in.ensures))
