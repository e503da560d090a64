use Rattle.std.proofs.Common.{◌∙◌, ◌≡◌, ◌+◌, ◌/◌, ◌%◌, refl, set, length-set, arith}
use Rattle.text.specs.WrittenLaws.{and_next, byte_wrote, ends_at}
use Rattle.text.proofs.page.Page.put_two.Goals as goal

pub returns : goal.returns
returns c =
    let old = c.args.self.now in
    let tens = set old.bytes.now old.used (48 + c.args.n / 10) in
    let long = length-set old.bytes.now old.used (48 + c.args.n / 10) in
    let end : old.used + 1 + 1 ≡ old.used + 2 = omega arith in
    record {
      wrote = ends_at end (and_next (byte_wrote old.used (48 + c.args.n / 10) old.bytes.now (omega (arith, c.requires.1))) (byte_wrote (old.used + 1) (48 + c.args.n % 10) tens (omega (arith, c.requires.1, long))));
      long = length-set tens (old.used + 1) (48 + c.args.n % 10) ∙ long;
      same = refl;
    }
