use Rattle.std.proofs.Common.{ap, w64, arith, rules}
use Rattle.std.proofs.lemmas.Int.{to_z-of_z}
use Rattle.text.specs.Lines.{pair_text}
use Rattle.text.specs.PagedLaws.{adds_next, adds_text}
use Rattle.text.proofs.rows.put_pair.Goals as goal

pub returns : goal.returns
returns c =
    adds_text (ap (pair_text c.args.pair.stamp) (to_z-of_z w64 c.args.pair.value (record { sfits = search rules }))) (omega arith)
    (adds_next c.put_time.ensures (adds_next c.put_number.ensures c.put_value.ensures))
