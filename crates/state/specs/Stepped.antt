-- The reply to an event by document 01's numbers: 0 and the next bench, or the number of the refusal and the bench as it was.
use Rattle.std.specs.Prelude.{ℕ, Result, Ok, Err}
use Rattle.words.specs.declared.refusal.Refusal.{Refusal}
use Rattle.words.specs.Refusals.{number}
use Rattle.state.specs.declared.Bench.{Bench}

pub record Stepped : Type 0 where
  pub refusal : ℕ
  pub bench : Bench

abbrev pub stepped : Bench → Result Bench Refusal → Stepped
stepped b (Ok next) = record { refusal = 0; bench = next }
stepped b (Err e) = record { refusal = number e; bench = b }
