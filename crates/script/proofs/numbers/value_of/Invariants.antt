-- What a turn begins with: all bytes so far are digits, and with those that are left the number so far grows to the number of all.
use Rattle.std.proofs.Common.{◌≡◌, ◌<◌, ◌^◌, drop}
use Rattle.script.specs.Numbers.{digits_only, value}
use Rattle.script.proofs.numbers.value_of.Given as goal

abbrev pub invariant-loop-digit : goal.invariant-loop-digit
invariant-loop-digit l =
    record {
      small : l.n < 2 ^ 64;
      same : value l.n (drop l.digit-index l.digits) ≡ value 0 l.digits;
      alike : digits_only (drop l.digit-index l.digits) ≡ digits_only l.digits;
    }
