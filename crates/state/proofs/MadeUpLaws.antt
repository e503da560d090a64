-- The counting rule excludes the bench with a made-up message count.
use Rattle.std.specs.Prelude.{ℕ, ◌≡◌, refl, []}
use Rattle.std.proofs.Common.{arith}
use Rattle.replica.specs.Handlers.{crash_rule, crash_refusal, crashed, down_refusal}
use Rattle.state.specs.declared.Event.{Event}
use Rattle.state.specs.declared.Event.TheVariants.{Crash}
use Rattle.state.specs.State.{fresh}
use Rattle.state.specs.Step.{step, step_crash}
use Rattle.state.specs.Counting.{CountingRule}
use Rattle.state.specs.Counting.RunBy.{begun, then}
use Rattle.state.specs.MadeUp.{made_up}

-- a crash sends nothing, and the count is 1
pub made_up-miscounts : CountingRule made_up → ⊥
unfolding made_up step step_crash crashed crash_refusal crash_rule down_refusal
made_up-miscounts rule =
    let fall : Event = Crash (record { 0 = 1 }) in
    let counted = rule (made_up (fresh 1 1) fall).state _ (then (fresh 1 1) fall [] (begun 1 1 refl refl) refl) in
    let one : ◌≡◌ {A = ℕ} 1 0 = counted.sent in
    omega arith
