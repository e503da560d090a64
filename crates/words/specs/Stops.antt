-- The number of what may have stopped a run: 0 where nothing did.
use Rattle.std.specs.Prelude.{ℕ, Option, Some, None}
use Rattle.words.specs.declared.refusal.Refusal.{Refusal}
use Rattle.words.specs.Refusals.{number}

abbrev pub stop_number : Option Refusal → ℕ
stop_number (Some refusal) = number refusal
stop_number None = 0
