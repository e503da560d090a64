-- What stands at a place of a schedule file: an event and the place behind it, a refusal by document 01's number 6 or 7, or the end. The code
-- says the same by a `Result` of an `Option`, and `parse` gives the case that is meant.
use Rattle.std.specs.Prelude.{ℕ, Option, Some, None, Result, Ok, Err}
use Rattle.words.specs.declared.refusal.Refusal.{Refusal}
use Rattle.words.specs.Refusals.{number}
use Rattle.state.specs.declared.Event.{Event}

pub data Parse : Type 0 where
  Next : Event → ℕ → Parse
  Refused : ℕ → Parse
  End : Parse

abbrev pub parse : Result (Option (Event × ℕ)) Refusal → Parse
parse (Ok (Some next)) = Next next.0 next.1
parse (Ok None) = End
parse (Err refusal) = Refused (number refusal)

-- document 01's number of refusal, 0 where there is none
abbrev pub refused : {A : Type 0} → Result A Refusal → ℕ
refused (Ok x) = 0
refused (Err refusal) = number refusal
