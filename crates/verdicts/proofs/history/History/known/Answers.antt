use Rattle.std.proofs.Common.{length, sym, ◌∙◌, ap}
use Rattle.std.proofs.lemmas.List.{drop_all}
use Rattle.verdicts.specs.Verdict.{fresh}
use Rattle.verdicts.specs.Rows.{numbers_of}
use Rattle.verdicts.proofs.PassLaws.{fresh-inside}
use Rattle.verdicts.proofs.history.History.known.Goals as goal

pub invariant_of-result : goal.invariant_of-result
invariant_of-result c =
    let l = c.loop-bytes in
    let count = length c.args.self.rows.now in
    let none = ap (λ xs. fresh count l.seen (numbers_of xs)) (drop_all l.bytes-index c.args.self.order.now c.loop-bytes-test.false) in
    record { named = fresh-inside count c.args.seen.now (numbers_of c.args.self.order.now) (sym l.invariant.whole ∙ none) }
