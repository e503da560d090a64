-- A digit more, or a number past 64 bits, which stays so; at the end all bytes were digits.
use Rattle.std.proofs.Common.{◌≡◌, ◌<◌, true, arith, rules}
use Rattle.script.specs.Numbers.{digits_only, value}
use Rattle.script.proofs.NumberLaws.{value_past, value_whole, digits_whole}
use Rattle.script.proofs.numbers.value_of.Goals as goal

pub returns-in_err-checked_mul : goal.returns-in_err-checked_mul
returns-in_err-checked_mul c =
    let past : value 0 c.args.digits.now < 18446744073709551616 → ⊥ =
    value_past c.args.digits.now c.loop-digit.digit-index c.loop-digit.n c.loop-digit-test.true c.loop-digit.invariant.same (λ l. c.in_err-checked_mul.ensures (omega (arith, l))) in
    search rules

pub returns-in_err-n : goal.returns-in_err-n
returns-in_err-n c =
    let past : value 0 c.args.digits.now < 18446744073709551616 → ⊥ =
    value_past c.args.digits.now c.loop-digit.digit-index c.loop-digit.n c.loop-digit-test.true c.loop-digit.invariant.same
    (λ l. c.in_err-n.ensures (omega (arith, c.in_ok-checked_mul.ensures, c.from.ensures, l))) in
    search rules

pub returns : goal.returns
returns c =
    let all : digits_only c.args.digits.now ≡ true = digits_whole c.args.digits.now c.loop-digit.digit-index c.loop-digit.n c.loop-digit-test.false c.loop-digit.invariant.alike in
    let same : value 0 c.args.digits.now ≡ c.loop-digit.n = value_whole c.args.digits.now c.loop-digit.digit-index c.loop-digit.n c.loop-digit-test.false c.loop-digit.invariant.same in
    search rules
