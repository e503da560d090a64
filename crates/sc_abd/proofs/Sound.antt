-- Sound: an accepted event is the step of Algorithm 1 that it names, that step is allowed, and bench and system are the same again.
use Rattle.std.specs.Prelude.{ℕ, ◌<◌, ◌≡◌, ◌||◌, length}
use Rattle.std.proofs.Math.Path.{sym, ap₂, subst}
use Rattle.std.proofs.Common.{ap, ◌∙◌, arith}
use Rattle.state.specs.declared.Event.{Event}
use Rattle.state.specs.declared.Event.TheVariants.{Read, Write, Deliver, Crash, Lose}
use Rattle.state.specs.State.{State, replica_of}
use Rattle.state.specs.Step.{step}
use Rattle.state.specs.Accepted.{message_at, recipient_at}
use Rattle.state.proofs.AcceptedLaws.{read-accepted, write-accepted, deliver-accepted, crash-accepted, lose-accepted}
use Rattle.state.proofs.WellLaws.{Well, message-at}
use Rattle.sc_abd.specs.System.{Call, System, Action, Enabled, at, taken}
use Rattle.sc_abd.specs.Same.{Same}
use Rattle.sc_abd.specs.Demand2.{Names}
use Rattle.sc_abd.proofs.AsMany.{as-many-messages}
use Rattle.sc_abd.specs.Numbering.{found-place}
use Rattle.moves.specs.RequestNumbers.{Numbered}
use Rattle.sc_abd.proofs.SameInvocation.{invoke-enabled, same_read, same_write}
use Rattle.sc_abd.proofs.SameReceipt.{at-message, same-receive}
use Rattle.sc_abd.proofs.SameFailure.{same-crash, same-lose}

-- ---- what the system allows of a message, from what the bench does

module _ (s : State) (w : Well s) (a : System) (same : Same s a) (i : ℕ) (l : i < length s.flight) where
  in-transit : i < length a.transit
  in-transit = omega (arith, as-many-messages s a same)

  pub sender-down : (replica_of s (message_at s i).from.0).crashed ≡ a.crashed (at a i).from
  sender-down =
      let ok = message-at s w i l in
      same.down (message_at s i).from.0 ok.sender.least ok.sender.most ∙ ap (λ m. a.crashed m.from) (sym (at-message s a same i l))

  pub recipient-down : (recipient_at s i).crashed ≡ a.crashed (at a i).to
  recipient-down =
      let ok = message-at s w i l in
      same.down (message_at s i).to.0 ok.recipient.least ok.recipient.most ∙ ap (λ m. a.crashed m.to) (sym (at-message s a same i l))

-- ---- the events

module _ (s : State) (w : Well s) (n : Numbered s) (a : System) (same : Same s a) where
  abbrev Sound : Event → State → Type 0
  Sound e t = (action : Action) × Names s e action × Enabled a action × Same t (taken a action)

  pub step-sound : (e : Event) → (step s e).refusal ≡ 0 → Sound e (step s e).state
  unfolding step
  step-sound (Read p x) z =
      let c = read-accepted s p.0 x z in
      subst (Sound (Read p x)) (sym c.1)
      (Action.invoke p.0 (Call.READ x), Names.read p x, invoke-enabled s w a same p.0 x c.0 (Call.READ x), same_read s w a same p.0 x c.0)
  step-sound (Write p x value) z =
      let c = write-accepted s p.0 x value z in
      subst (Sound (Write p x value)) (sym c.1) (
        Action.invoke p.0 (Call.WRITE x value),
        Names.write p x value,
        invoke-enabled s w a same p.0 x c.0 (Call.WRITE x value),
        same_write s w a same p.0 x c.0 value,
      )
  step-sound (Deliver k) z =
      let c = deliver-accepted s k z in
      let i = c.0 in
      let l = c.1.found.inside in
      subst (Sound (Deliver k)) (sym c.2) (
        Action.receive i,
        Names.deliver k i (found-place s w k i c.1.found),
        (in-transit s w a same i l, sym (recipient-down s w a same i l) ∙ c.1.up),
        same-receive s w n a same i l,
      )
  step-sound (Crash p) z =
      let c = crash-accepted s p.0 z in
      let actor = c.0.actor in
      subst (Sound (Crash p)) (sym c.1) (
        Action.crash p.0,
        Names.crash p,
        (actor.least, omega (arith, actor.most, same.size), sym (same.down p.0 actor.least actor.most) ∙ c.0.up),
        same-crash s w a same p.0 actor,
      )
  step-sound (Lose k) z =
      let c = lose-accepted s k z in
      let i = c.0 in
      let l = c.1.found.inside in
      subst (Sound (Lose k)) (sym c.2) (
        Action.lose i,
        Names.lose k i (found-place s w k i c.1.found),
        (in-transit s w a same i l, ap₂ (λ x y. x || y) (sym (sender-down s w a same i l)) (sym (recipient-down s w a same i l)) ∙ c.1.down),
        same-lose s w a same i,
      )
