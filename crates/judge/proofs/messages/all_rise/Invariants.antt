-- What a turn begins with: the messages that are left rise from the last one on just if all do.
use Rattle.std.proofs.Common.{◌≡◌, drop}
use Rattle.judge.specs.Scans.{limited, risen}
use Rattle.judge.proofs.messages.all_rise.Given as goal

abbrev pub invariant-loop-m : goal.invariant-loop-m
invariant-loop-m l = risen (limited l.l) l.last (drop l.m-index l.flight) ≡ risen (limited l.l) 0 l.flight
