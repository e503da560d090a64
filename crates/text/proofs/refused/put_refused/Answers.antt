use Rattle.std.proofs.Common.{refl, arith}
use Rattle.text.specs.PagedLaws.{adds_next, adds_text}
use Rattle.text.specs.Printed.{printed_refusal}
use Rattle.text.proofs.refused.put_refused.Goals as goal

pub returns : goal.returns
unfolding printed_refusal
returns c = adds_text refl (omega arith) (adds_next c.put_str.ensures (adds_next c.put_number.ensures c.put_byte.ensures))
