use Rattle.std.proofs.Common.{ℤ, ap, ◌∙◌, ◌++◌, nat_abs, w64, arith}
use Rattle.std.proofs.lemmas.Int.{to_z-of_z}
use Rattle.text.specs.DigitLaws.{decimal-short}
use Rattle.text.specs.PagedLaws.{adds_next, adds_text}
use Rattle.text.specs.Digits.{sign_text}
use Rattle.text.specs.Printed.{decimal, field}
use Rattle.text.proofs.Signs.{signed-is}
use Rattle.text.proofs.page.Page.put_value.Goals as goal

pub put_decimal-requires : goal.put_decimal-requires
put_decimal-requires c = omega (arith, decimal-short 18 c.unsigned_abs.result (omega arith))

pub returns : goal.returns
returns c =
    let v = c.args.v in
    let n = c.unsigned_abs.result in
    let back = to_z-of_z w64 v c.ranges.v in
    let text = ap (λ (u : ℤ). field (sign_text u ++ decimal n)) back ∙ ap field (signed-is v n (c.unsigned_abs.ensures.value ∙ ap nat_abs back)) in
    adds_text text (omega (arith, decimal-short 18 n (omega arith))) (adds_next c.put_byte.ensures (adds_next c.put_sign.ensures c.put_decimal.ensures))
