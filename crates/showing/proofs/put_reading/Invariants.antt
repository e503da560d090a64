-- What a turn begins with: what is written and what is still to be read are the text of all.
use Rattle.std.proofs.Common.{◌≡◌, ◌-◌, length}
use Rattle.showing.proofs.ShowLaws.{Shows}
use Rattle.showing.proofs.put_reading.Given as goal

abbrev pub invariant-loop-event : goal.invariant-loop-event
invariant-loop-event l = record { long : length l.page.bytes.now ≡ length l.fn.page.bytes.now; shows : Shows l.bytes l.fn.page l.page l.place }

abbrev pub decreases-loop-event : goal.decreases-loop-event
decreases-loop-event l = length l.bytes - l.place
