use Rattle.std.proofs.Common.{ap, ◌++◌, ℤ, List, ℕ, w64, arith, rules}
use Rattle.std.proofs.lemmas.Int.{to_z-of_z}
use Rattle.text.specs.PagedLaws.{adds_next, adds_text}
use Rattle.text.specs.Printed.{number, field, signed}
use Rattle.inflight.proofs.lines.put_pair.Goals as goal

pub returns : goal.returns
returns c =
    let valued : ℤ → List ℕ = λ v. number c.args.pair.stamp.time.0 ++ (number c.args.pair.stamp.process.0 ++ field (signed v)) in
    adds_text (ap valued (to_z-of_z w64 c.args.pair.value (record { sfits = search rules }))) (omega arith)
    (adds_next c.put_number.ensures (adds_next c.put_number-2.ensures c.put_value.ensures))
