-- What a turn begins with: the first so many numbers are written.
use Rattle.std.proofs.Common.{◌*◌, take}
use Rattle.text.specs.Paged.{Adds}
use Rattle.text.specs.Printed.{numbers}
use Rattle.text.proofs.listing.put_numbers.Given as goal

abbrev pub invariant-loop-number : goal.invariant-loop-number
invariant-loop-number l = Adds (numbers (take l.number-index l.order)) (6 * l.number-index) l.fn.page l.page
