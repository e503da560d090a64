use Rattle.std.proofs.Common.{◌++◌, ◌∷◌, [], List, ℕ, ap, arith}
use Rattle.text.specs.PagedLaws.{adds_next, adds_text}
use Rattle.text.specs.Printed.{number}
use Rattle.composing.specs.Complaint.{complaint}
use Rattle.composing.proofs.complaint.put_complaint.Goals as goal

pub returns : goal.returns
unfolding complaint
returns c =
    adds_text (ap (λ (said : List ℕ). 108 ∷ (105 ∷ (110 ∷ (101 ∷ (number c.args.line ++ (said ++ (10 ∷ []))))))) c.said_of.ensures.text) (omega (arith, c.said_of.ensures.short))
    (adds_next c.put_str.ensures (adds_next c.put_number.ensures (adds_next c.put_str-2.ensures c.put_byte.ensures)))
