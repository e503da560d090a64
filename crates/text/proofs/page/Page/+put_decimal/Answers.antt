use Rattle.std.proofs.Common.{ap, ◌%◌, ◌/◌, length, length-append, arith}
use Rattle.text.specs.DigitLaws.{decimal-digit, decimal-two, decimal-pair}
use Rattle.text.specs.Digits.{two_digits}
use Rattle.text.specs.PagedLaws.{adds_next, adds_text}
use Rattle.text.specs.Printed.{decimal}
use Rattle.text.proofs.page.Page.+put_decimal.Goals as goal

pub put_byte-requires : goal.put_byte-requires
put_byte-requires t c = omega (arith, ap length (decimal-digit c.args.n c.if-n-lt10.true))

pub returns-then-n-lt10 : goal.returns-then-n-lt10
returns-then-n-lt10 t c =
    let digit = decimal-digit c.args.n c.if-n-lt10.true in
    adds_text digit (omega (arith, ap length digit)) c.put_byte.ensures

pub put_two-requires : goal.put_two-requires
put_two-requires t c = (c.if-n-lt100.true, omega (arith, ap length (decimal-two c.args.n c.if-n-lt10.false c.if-n-lt100.true)))

pub returns-then-n-lt100 : goal.returns-then-n-lt100
returns-then-n-lt100 t c =
    let digits = decimal-two c.args.n c.if-n-lt10.false c.if-n-lt100.true in
    adds_text digits (omega (arith, ap length digits)) c.put_two.ensures

pub put_decimal-requires : goal.put_decimal-requires
put_decimal-requires t c =
    (omega arith, omega (arith, ap length (decimal-pair c.args.n c.if-n-lt100.false (omega arith)), length-append (decimal (c.args.n / 100)) (two_digits (c.args.n % 100))))

pub put_two-requires-2 : goal.put_two-requires-2
put_two-requires-2 t c =
    (omega arith, omega (arith, ap length (decimal-pair c.args.n c.if-n-lt100.false (omega arith)), length-append (decimal (c.args.n / 100)) (two_digits (c.args.n % 100))))

pub returns : goal.returns
returns t c =
    let step = decimal-pair c.args.n c.if-n-lt100.false (omega arith) in
    adds_text step (omega (arith, ap length step, length-append (decimal (c.args.n / 100)) (two_digits (c.args.n % 100)))) (adds_next c.put_decimal.ensures c.put_two-2.ensures)
