-- What the text of a replay tells, of the run that the bytes of its file are: demand 3 as whoever runs the program meets it.
use Rattle.std.specs.Prelude.{ℕ, ◌≡◌, List, pos}
use Rattle.state.specs.State.{State}
use Rattle.state.specs.Reached.{Reached}
use Rattle.placing.specs.Sequential.{Sequential}
use Rattle.placing.specs.RealTime.{RealTime}
use Rattle.order.specs.Operations.{operations_of, order_of}
use Rattle.text.specs.Printed.{printed, printed_refusal}
use Rattle.format.specs.Format.{file_refusal}
use Rattle.schedule.specs.Opening.{ran_file}

-- the state at which the run of the file stopped, and the order of its history
abbrev pub final_state : List ℕ → State
final_state bytes = (ran_file bytes).state

abbrev pub final_order : List ℕ → List ℕ
final_order bytes = order_of (final_state bytes).rows

-- it prints that state, the number that stopped the run, and an order that explains the history
pub record Explains (bytes text : List ℕ) : Type 0 where
  pub told : text ≡ printed (final_state bytes) (ran_file bytes).refusal (final_order bytes)
  pub reached : Reached (final_state bytes)
  pub consistent : Sequential (pos 0) (operations_of (final_state bytes).rows) (final_order bytes)
  pub in-time : RealTime (operations_of (final_state bytes).rows) (final_order bytes)

pub record Told (bytes text : List ℕ) : Type 0 where
  -- a file that is refused by none of 1 to 5
  pub explains : file_refusal bytes ≡ 0 → Explains bytes text
  -- any other: its number alone
  pub refuses : (file_refusal bytes ≡ 0 → ⊥) → text ≡ printed_refusal (file_refusal bytes)
