use Rattle.std.proofs.Common.{ap, ℤ, w64, arith}
use Rattle.std.proofs.lemmas.Int.{to_z-of_z}
use Rattle.text.specs.PagedLaws.{adds_next, adds_text}
use Rattle.state.specs.declared.Event.TheVariants.{Write}
use Rattle.showing.specs.Shown.{event_line}
use Rattle.showing.proofs.lines.put_write.Goals as goal

pub returns : goal.returns
unfolding event_line
returns c =
    adds_text (ap (λ (v : ℤ). event_line (Write (record { 0 = c.args.p }) c.args.x v)) (to_z-of_z w64 c.args.v c.ranges.v)) (omega arith)
    (adds_next c.put_str.ensures (adds_next c.put_number.ensures (adds_next c.put_number-2.ensures (adds_next c.put_value.ensures c.put_byte.ensures))))
