-- Why the counting rule stands beside demand 2: demand 2 compares processes, messages and rows, and no count of messages sent. So the bench with a
-- made-up one meets it. (That this bench breaks the counting rule is `made_up-miscounts` in `state`.)
use Rattle.std.specs.Prelude.{ℕ, ◌+◌, ◌-◌, ◌≡◌, refl, Bool}
use Rattle.std.proofs.Common.{sym, ap, subst, ◌∙◌, arith, eq-eqb, ne_eqb}
use Rattle.replica.specs.declared.Phase.{Phase}
use Rattle.replica.specs.declared.Phase.TheVariants.{Idle, Querying, Updating}
use Rattle.replica.specs.declared.Replica.{Replica}
use Rattle.state.specs.declared.Event.{Event}
use Rattle.state.specs.State.{State}
use Rattle.state.specs.Step.{step}
use Rattle.state.specs.MadeUp.{said_sent, one_more, one_fewer, made_up}
use Rattle.sc_abd.specs.Algorithm1.{Process}
use Rattle.sc_abd.specs.System.{System, Action, taken}
use Rattle.sc_abd.specs.Same.{SamePhase, SameProcess, Same}
use Rattle.sc_abd.specs.Demand2.{Names, WithinLimits, ReachedBy, Demand2}
use Rattle.sc_abd.proofs.Theorem.{step-meets-demand2}

-- ---- demand 2 does not see the count

module _ (s : State) (sent : ℕ) where
  phase-uncounted : (phase : Phase) (q : Process) (asks : Bool) → SamePhase s phase q asks → SamePhase (said_sent sent s) phase q asks
  phase-uncounted Idle q asks h = h
  phase-uncounted (Querying row gathered) q asks h = h
  phase-uncounted (Updating row pair) q asks h = h

  process-uncounted : (p : ℕ) (r : Replica) (q : Process) (asks : Bool) → SameProcess s p r q asks → SameProcess (said_sent sent s) p r q asks
  process-uncounted p r q asks h =
      record {
        clock = h.clock;
        number = h.number;
        store = h.store;
        replies = h.replies;
        waits = h.waits;
        phase = phase-uncounted r.phase q asks h.phase;
      }

  same-uncounted : (a : System) → Same s a → Same (said_sent sent s) a
  same-uncounted a h =
      record {
        size = h.size;
        processes = λ p least most. process-uncounted p _ _ _ (h.processes p least most);
        down = h.down;
        flight = h.flight;
        history = h.history;
      }

  names-uncounted : (e : Event) (action : Action) → Names (said_sent sent s) e action → Names s e action
  names-uncounted e action (Names.read p x) = Names.read p x
  names-uncounted e action (Names.write p x v) = Names.write p x v
  names-uncounted e action (Names.deliver k place found) = Names.deliver k place found
  names-uncounted e action (Names.crash p) = Names.crash p
  names-uncounted e action (Names.lose k place found) = Names.lose k place found

  limits-uncounted : (a : System) (action : Action) → WithinLimits s a action → WithinLimits (said_sent sent s) a action
  limits-uncounted a (Action.invoke i call) h = h
  limits-uncounted a (Action.receive place) h = h
  limits-uncounted a (Action.crash i) h = h
  limits-uncounted a (Action.lose place) h = h

-- ---- what it does is what `step` does

taken-off : (s : State) → one_fewer (one_more s) ≡ s
taken-off s = let e : s.sent + 1 - 1 ≡ s.sent = omega arith in ap (λ sent. said_sent sent s) e

honest-state : (s : State) (e : Event) → (step (one_fewer s) e).refusal ≡ 0 → (made_up s e).state ≡ one_more (step (one_fewer s) e).state
unfolding made_up
honest-state s e z = rw (eq-eqb _ _ z) refl

honest : {s : State} → ReachedBy made_up s → ReachedBy step (one_fewer s)
unfolding made_up
honest (ReachedBy.start n m f g) = ReachedBy.start n m f g
honest (ReachedBy.next s e r z) =
    subst (ReachedBy step) (sym (ap one_fewer (honest-state s e z) ∙ taken-off (step (one_fewer s) e).state))
    (ReachedBy.next (one_fewer s) e (honest r) z)

module _ (s : State) (e : Event) (z : (step (one_fewer s) e).refusal ≡ 0) where
  told : (P : State → Type 0) → P (one_more (step (one_fewer s) e).state) → P (made_up s e).state
  told P = subst P (sym (honest-state s e z))

pub made_up-meets-demand2 : Demand2 made_up
unfolding made_up
made_up-meets-demand2 =
    record {
      starts = step-meets-demand2.starts;
      sound = λ s a e r same z.
          let (action, names, on, then) = step-meets-demand2.sound (one_fewer s) a e (honest r) (same-uncounted s _ a same) z in
          (action, names-uncounted s (s.sent - 1) e action names, on, told s e z (λ t. Same t (taken a action)) (same-uncounted _ _ _ then));
      complete = λ s a action r same on limits.
          let (e, names, z, then) = step-meets-demand2.complete (one_fewer s) a action (honest r) (same-uncounted s _ a same) on
          (limits-uncounted s (s.sent - 1) a action limits) in
          (e, names-uncounted s (s.sent - 1) e action names, z, told s e z (λ t. Same t (taken a action)) (same-uncounted _ _ _ then));
      counted = λ s e r z.
          told s e z (λ t. (t.accepted ≡ s.accepted + 1) × (t.m ≡ s.m)) (step-meets-demand2.counted (one_fewer s) e (honest r) z);
      refused = λ s e r n. rw (ne_eqb _ 0 n) refl;
    }
