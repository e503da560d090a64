use Rattle.std.proofs.Common.{◌∙◌, ◌+◌, ◌-◌, drop, rules, arith, length-take, length-drop}
use Rattle.tables.proofs.Laying.{posted_more, posted_whole}
use Rattle.tables.proofs.post.Goals as goal

pub loop-place-init : goal.loop-place-init
loop-place-init c =
    record {
      whole = omega (arith, length-take (c.args.at + c.args.count - c.args.at) (drop c.args.at c.args.t.now), length-drop c.args.at c.args.t.now);
      numbers = omega arith;
      processes = omega arith;
      same = posted_whole c.args.count c.args.first _ (omega (arith, length-take (c.args.at + c.args.count - c.args.at) (drop c.args.at c.args.t.now), length-drop c.args.at c.args.t.now));
    }

pub loop-place-preserved : goal.loop-place-preserved
loop-place-preserved c =
    record {
      whole = search rules;
      numbers = rw c.next_copy-m.ensures (omega arith);
      processes = rw c.next_copy-m.ensures (omega arith);
      same = rw c.next_copy-m.ensures (posted_more c.loop-place.place-index c.args.count c.loop-place.m c.loop-place.place-items (omega arith) (omega arith) ∙ c.loop-place.invariant.same);
    }
