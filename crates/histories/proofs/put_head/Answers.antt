use Rattle.std.proofs.Common.{refl, arith, ◌∙◌}
use Rattle.text.specs.PagedLaws.{adds_next, adds_text}
use Rattle.verdicts.proofs.ByteLaws.{four-bytes}
use Rattle.histories.proofs.put_head.Goals as goal

pub returns : goal.returns
returns c = let four = c.to_be_bytes.ensures ∙ four-bytes _ (omega arith) in adds_text refl (omega arith) (adds_next (adds_text {k = 4} four (omega arith) c.put_bytes.ensures) (adds_next c.put_byte.ensures c.put_number.ensures))
