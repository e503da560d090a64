-- What a run computes to.
use Rattle.std.specs.Prelude.{ℕ, ◌≡◌, refl, List, [], ◌∷◌}
use Rattle.replica.specs.Handlers.{crashed, crash_refusal, down_refusal, crash_rule}
use Rattle.state.specs.State.{State, fresh}
use Rattle.state.specs.Step.{step, step_crash}
use Rattle.format.specs.Format.{event_at}
use Rattle.schedule.specs.Run.{ran_from, ran}

-- no events: nothing is done
pub empty-run : (s : State) → (ran [] 0 s).refusal ≡ 0
unfolding ran_from
empty-run s = refl

-- process 1 of 1 crashes, and then once more: refused by 10, the first stands
abbrev twice : List ℕ
twice = 4 ∷ 1 ∷ 4 ∷ 1 ∷ []

pub crashed-twice : (ran twice 0 (fresh 1 1)).refusal ≡ 10
unfolding ran_from event_at step step_crash crashed crash_refusal down_refusal crash_rule
crashed-twice = refl

pub crashed-once : (ran twice 0 (fresh 1 1)).state.accepted ≡ 1
unfolding ran_from event_at step step_crash crashed crash_refusal down_refusal crash_rule
crashed-once = refl

-- the end cuts an event: 7
pub cut_short : (ran (4 ∷ []) 0 (fresh 1 1)).refusal ≡ 7
unfolding ran_from event_at
cut_short = refl
