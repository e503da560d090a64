-- What a handler answers, by document 01's numbers: the number of its refusal, 0 if it accepted, and what follows.
use Rattle.std.specs.Prelude.{ℕ, Result, Ok, Err}
use Rattle.words.specs.declared.refusal.Refusal.{Refusal}
use Rattle.words.specs.Refusals.{number}
use Rattle.replica.specs.declared.Replica.{Replica}
use Rattle.replica.specs.declared.Sends.{Sends}
use Rattle.replica.specs.declared.Sends.TheVariants.{Nothing}
use Rattle.replica.specs.declared.Ended.{Ended}
use Rattle.replica.specs.declared.Ended.TheVariants.{Pending}
use Rattle.replica.specs.declared.Handled.{Handled}

pub record Answer : Type 0 where
  pub refusal : ℕ
  pub replica : Replica
  pub sends : Sends
  pub ended : Ended

abbrev pub accepted : Replica → Sends → Ended → Answer
accepted r sends ended = record { refusal = 0; replica = r; sends = sends; ended = ended }

-- a refusal leaves the replica as before, sends nothing and ends nothing
abbrev pub refused : ℕ → Replica → Answer
refused number r = record { refusal = number; replica = r; sends = Nothing; ended = Pending }

-- ---- the code's results, as answers: no two results of a replica are one answer

abbrev pub handled : Replica → Sends → Ended → Handled
handled r sends ended = record { replica = r; sends = sends; ended = ended }

abbrev pub answered : Handled → Answer
answered h = accepted h.replica h.sends h.ended

abbrev pub answer : Replica → Result Handled Refusal → Answer
answer r (Ok h) = answered h
answer r (Err e) = refused (number e) r
