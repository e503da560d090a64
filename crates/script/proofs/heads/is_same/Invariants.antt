-- What a turn begins with: the words are the same where what is left of them is, from i on.
use Rattle.std.proofs.Common.{◌≡◌, drop}
use Rattle.script.specs.Meaning.{same}
use Rattle.script.proofs.heads.is_same.Given as goal

abbrev pub invariant-loop-i : goal.invariant-loop-i
invariant-loop-i l = same (drop l.i l.word) (drop l.i l.name) ≡ same l.word l.name
