-- A line, and what is behind it.
use Rattle.std.proofs.Common.{◌≡◌, ◌≤◌, ◌∷◌, rules, length}
use Rattle.script.specs.Lines.{lines}
use Rattle.script.proofs.LineLaws.{lines-first}
use Rattle.script.proofs.marks.LinesIterator.next.Goals as goal

stepped : (c : goal.After-rest-2-1) → lines c.args.self.now.rest.now ≡ c.cut.result.0.now ∷ lines c.cut.result.1.now
stepped c =
    let text = c.args.self.now.rest.now in
    let some : 1 ≤ length text = search rules in
    rw (c.cut.ensures.front, c.cut.ensures.back) (lines-first text some)

pub returns-clause-steps : goal.returns-clause-steps
returns-clause-steps c = (stepped c, c.cut.ensures.back)

pub returns-clause-goes : goal.returns-clause-goes
returns-clause-goes c =
    let e = stepped c in
    search rules
