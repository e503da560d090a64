use Rattle.std.proofs.Common.{◌∙◌, ap, length}
use Rattle.words.specs.Ranges.{within}
use Rattle.verdicts.proofs.CutLaws.{number-inside}
use Rattle.verdicts.proofs.history.Known.names_unfinished.Goals as goal

pub row-row-requires : goal.row-row-requires
row-row-requires c =
    let known = c.args.self.now in
    let count = length known.history.rows.now in
    ap (λ n. within n count) c.number_of.ensures ∙ number-inside count known.history.order.now c.loop-bytes.bytes-index c.loop-bytes-test.true known.named
