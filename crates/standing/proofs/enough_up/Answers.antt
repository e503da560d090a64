-- The count of a filter over the first N.
use Rattle.std.proofs.Common.{rules, tests, ◌∙◌, ◌≡◌, Bool, not, take, count_by}
use Rattle.std.proofs.lemmas.Iterator.{YieldsList-from_slice, YieldsList-from_take}
use Rattle.std.proofs.lemmas.Iterator.Consumers.{count_from_yields_List, YieldsList-from_filter, YieldsList-at}
use Rattle.std.proofs.lemmas.List.Sums.{length-filter}
use Rattle.replica.specs.declared.Replica.{Replica}
use Rattle.standing.proofs.StatusLaws.{counted-up}
use Rattle.standing.proofs.enough_up.Goals as goal

pub returns : goal.returns
returns c =
    let b = c.args.b.now in
    let is_up : Replica → Bool = λ r. not r.crashed in
    let counted =
    count_from_yields_List c.filter.result c.count-up.result c.count-up.ensures.ran
    (YieldsList-from_filter _ is_up (YieldsList-at c.filter.ensures.source (YieldsList-from_take b.n (YieldsList-from_slice b.replicas (cc)) (cc)))
    c.filter.ensures.closure (λ x r q k. search (rules, tests))) in
    let up : c.count-up.result ≡ count_by is_up (take b.n b.replicas) = counted ∙ length-filter is_up (take b.n b.replicas) in
    rw (c.majority.ensures, up ∙ counted-up b (search rules))
