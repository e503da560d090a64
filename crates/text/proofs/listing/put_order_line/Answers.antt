use Rattle.std.proofs.Common.{refl, arith}
use Rattle.text.specs.PagedLaws.{adds_next, adds_text}
use Rattle.text.specs.Printed.{order_line}
use Rattle.text.proofs.listing.put_order_line.Goals as goal

pub returns : goal.returns
unfolding order_line
returns c = adds_text refl (omega arith) (adds_next c.put_str.ensures (adds_next c.put_numbers.ensures c.put_byte.ensures))
