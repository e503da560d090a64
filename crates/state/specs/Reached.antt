-- The states that accepted events give from a fresh start; and what any events leave.
use Rattle.std.specs.Prelude.{ℕ, ◌≡◌, true, List, [], ◌∷◌}
use Rattle.words.specs.Ranges.{within}
use Rattle.state.specs.declared.Event.{Event}
use Rattle.state.specs.State.{State, fresh}
use Rattle.state.specs.Step.{step}

pub data Reached : State → Type 0 where
  start : (n m : ℕ) → within n 7 ≡ true → within m 16 ≡ true → Reached (fresh n m)
  next : (s : State) (e : Event) → Reached s → (step s e).refusal ≡ 0 → Reached (step s e).state

-- the state after some events, refused ones skipped
abbrev pub after : State → List Event → State
after s [] = s
after s (e ∷ events) = after (step s e).state events
