use Rattle.std.proofs.Common.{rules}
use Rattle.script.specs.Lines.{lines}
use Rattle.composing.specs.Passes.{events_in}
use Rattle.composing.proofs.ComposeLaws.{too_short, written_all}
use Rattle.composing.proofs.write_script.Goals as goal

pub returns-then-out-size : goal.returns-then-out-size
returns-then-out-size c =
    let o = c.args.opening in
    too_short o.n o.m c.requires.in_range (events_in (lines o.rest.now)) c.args.out.now c.args.size c.requires.size_value.0 c.requires.size_value.1 c.if-out-size.true

pub returns : goal.returns
returns c =
    let o = c.args.opening in
    let events = events_in (lines o.rest.now) in
    let all = written_all o.n o.m c.requires.in_range events c.args.out.now c.args.size c.requires.size_value.0 c.requires.size_value.1 c.if-out-size.false c.put_head.new.page.bytes.now
    c.put_script.new.page.bytes.now c.put_head.new.page.used c.put_script.new.page.used c.put_head.ensures.wrote c.put_script.ensures.wrote in
    search rules
