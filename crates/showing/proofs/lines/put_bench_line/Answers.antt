use Rattle.std.proofs.Common.{refl, arith}
use Rattle.text.specs.PagedLaws.{adds_text}
use Rattle.showing.specs.Shown.{bench_line}
use Rattle.showing.proofs.lines.put_bench_line.Goals as goal

pub returns : goal.returns
unfolding bench_line
returns c = adds_text refl (omega arith) c.put_two.ensures
