-- What a turn begins with: the first numbers are written.
use Rattle.std.proofs.Common.{◌*◌, take}
use Rattle.text.specs.Paged.{Adds}
use Rattle.verdicts.specs.File.{numbers_bytes}
use Rattle.histories.proofs.put_numbers.Given as goal

abbrev pub invariant-loop-number : goal.invariant-loop-number
invariant-loop-number l = Adds (numbers_bytes (take l.number-index l.order)) (2 * l.number-index) l.fn.page l.page
