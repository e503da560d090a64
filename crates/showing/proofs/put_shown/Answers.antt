use Rattle.std.proofs.Common.{sym, arith}
use Rattle.words.specs.Refusals.{number}
use Rattle.words.proofs.RefusalLaws.{number-some}
use Rattle.text.specs.PagedLaws.{adds_next, adds_text}
use Rattle.writing.proofs.RoundTripLaws.{opened}
use Rattle.showing.proofs.ShowLaws.{exactly, shown-refused, shown_read}
use Rattle.showing.proofs.put_shown.Goals as goal

pub returns-in-Err : goal.returns-in-Err
returns-in-Err c = adds_text (shown-refused c.args.bytes.now (number c.in-Err.refusal) c.in-Err.ensures (number-some c.in-Err.refusal)) (omega arith) c.put_refusal.ensures

pub bounds-bytes-5 : goal.bounds-bytes-5
bounds-bytes-5 c = omega (arith, (opened c.args.bytes.now (sym c.in-Ok.ensures)).long)

pub bounds-bytes-6 : goal.bounds-bytes-6
bounds-bytes-6 c = omega (arith, (opened c.args.bytes.now (sym c.in-Ok.ensures)).long)

pub put_reading-requires-clause-in_bounds : goal.put_reading-requires-clause-in_bounds
put_reading-requires-clause-in_bounds c =
    ((opened c.args.bytes.now (sym c.in-Ok.ensures)).long, omega (arith, c.put_bench_line.ensures.wrote.ends, c.put_bench_line.ensures.wrote.short, c.requires.0))

pub put_reading-requires-clause-bytes_in_bounds : goal.put_reading-requires-clause-bytes_in_bounds
put_reading-requires-clause-bytes_in_bounds c =
    let o = opened c.args.bytes.now (sym c.in-Ok.ensures) in
    let w = c.put_bench_line.ensures in
    (omega (arith, o.short, c.requires.0, c.requires.1, w.wrote.ends, w.wrote.short, w.long), omega (arith, o.short, c.requires.0, c.requires.1, w.long))

pub returns-in-Ok : goal.returns-in-Ok
returns-in-Ok c =
    let none = sym c.in-Ok.ensures in
    let o = opened c.args.bytes.now none in
    let w = c.put_bench_line.ensures in
    adds_text (shown_read c.args.bytes.now none) (omega (arith, o.short, o.long, w.wrote.ends, w.wrote.short, c.requires.0)) (adds_next (exactly w) c.put_reading.ensures)
