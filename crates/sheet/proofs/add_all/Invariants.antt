-- No more files were not read than were named so far.
use Rattle.std.proofs.Common.{◌≤◌}
use Rattle.sheet.proofs.add_all.Given as goal

abbrev pub invariant-loop-i : goal.invariant-loop-i
invariant-loop-i l = l.unread ≤ l.i
