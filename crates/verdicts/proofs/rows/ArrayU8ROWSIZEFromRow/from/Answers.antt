use Rattle.std.proofs.Common.{rules, ◌≡◌, ◌∙◌, ◌<◌, ◌^◌, Bool, true, false, refl}
use Rattle.std.specs.Prelude.{cond}
use Rattle.std.specs.Int.{from_bool}
use Rattle.verdicts.proofs.ByteLaws.{row-laid}
use Rattle.verdicts.proofs.rows.ArrayU8ROWSIZEFromRow.from.Goals as goal

bit : (b : Bool) → from_bool b ≡ cond b 1 0
bit true = refl
bit false = refl

pub returns : goal.returns
returns c =
    let fits : c.args.row.value < 2 ^ 64 = search rules in
    row-laid c.args.row c.to_be_bytes.result c.from.result c.from-2.result fits c.to_be_bytes.ensures c.from.ensures (c.from-2.ensures ∙ bit c.args.row.complete)
