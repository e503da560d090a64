-- Of a tabled bench, the standings are those of the state that it holds.
use Rattle.std.proofs.Common.{◌∙◌, ap, Bool, List, cond}
use Rattle.standing.specs.declared.Status.{Status}
use Rattle.standing.specs.Status.{Statuses, standings_of, downs}
use Rattle.bench.specs.TabledUse.{standings-same}
use Rattle.bench.proofs.status.Goals as goal

pub returns-then-is_tabled : goal.returns-then-is_tabled
returns-then-is_tabled c =
    let a = c.args in
    let given : List Status → Statuses = λ of. record { refusal = 0; of = of } in
    ap given c.standings_of.ensures ∙ ap (λ (t : Bool). cond t (given (standings_of a.b)) (downs 18)) c.if-is_tabled.ensures ∙ standings-same a.b a.messages.now a.rows.now
