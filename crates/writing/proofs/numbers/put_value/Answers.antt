use Rattle.std.specs.Int.{w64, to_be_bytes, cast_unsigned}
use Rattle.std.proofs.Common.{ℤ, ◌∙◌, ap, length, arith}
use Rattle.std.proofs.Math.Facts.{Fits-of_z}
use Rattle.std.proofs.lemmas.Int.{to_z-of_z}
use Rattle.text.specs.PagedLaws.{adds_text}
use Rattle.writing.proofs.BigEndianLaws.{value-is}
use Rattle.writing.proofs.numbers.put_value.Goals as goal

pub returns : goal.returns
returns c =
    let text = c.to_be_bytes.ensures ∙ ap (λ (v : ℤ). to_be_bytes w64 (cast_unsigned w64 v)) (to_z-of_z w64 c.args.v c.ranges.v) ∙ value-is c.args.v (Fits-of_z c.ranges.v).fits in
    adds_text text (omega (arith, ap length c.to_be_bytes.ensures)) c.put_bytes.ensures
