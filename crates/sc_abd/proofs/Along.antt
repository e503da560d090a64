-- A bench that meets demand 2, followed along a run: after each event it is the same as the algorithm after the steps that the events name.
use Rattle.std.specs.Prelude.{ℕ, ◌≡◌, refl, Bool, true, ◌&&◌, List, [], ◌∷◌, eqb, Option, Some, None}
use Rattle.std.proofs.Common.{sym, ap, subst, eqb-true}
use Rattle.words.specs.RangeLaws.{and_left, and_right}
use Rattle.tables.specs.Tables.{seek}
use Rattle.state.specs.declared.Event.{Event}
use Rattle.state.specs.declared.Event.TheVariants.{Read, Write, Deliver, Crash, Lose}
use Rattle.state.specs.State.{State}
use Rattle.state.specs.Step.{Outcome}
use Rattle.sc_abd.specs.System.{Call, System, Action, taken}
use Rattle.sc_abd.specs.Same.{Same}
use Rattle.sc_abd.specs.Demand2.{Names, Demand2, ReachedBy}
use Rattle.sc_abd.specs.Demand2.Names.{read, write, deliver, crash, lose}
use Rattle.sc_abd.specs.Demand2.ReachedBy.{next}

-- the place that was found; where nothing was found, 0 stands in
abbrev place_of : Option ℕ → ℕ
place_of (Some place) = place
place_of None = 0

-- the one step that an event can name
abbrev pub action_of : State → Event → Action
action_of s (Read p x) = Action.invoke p.0 (Call.READ x)
action_of s (Write p x value) = Action.invoke p.0 (Call.WRITE x value)
action_of s (Deliver k) = Action.receive (place_of (seek k 0 s.flight))
action_of s (Crash p) = Action.crash p.0
action_of s (Lose k) = Action.lose (place_of (seek k 0 s.flight))

pub names-one : {s : State} {e : Event} {action : Action} → Names s e action → action ≡ action_of s e
names-one (read p x) = refl
names-one (write p x v) = refl
names-one (deliver k place found) = ap (λ f. Action.receive (place_of f)) (sym found)
names-one (crash p) = refl
names-one (lose k place found) = ap (λ f. Action.lose (place_of f)) (sym found)

-- ---- the bench and the system after some events, and that all of them were accepted

module _ (f : State → Event → Outcome) where
  abbrev pub bench_after : State → List Event → State
  bench_after s [] = s
  bench_after s (e ∷ events) = bench_after (f s e).state events

  abbrev pub system_after : State → System → List Event → System
  system_after s a [] = a
  system_after s a (e ∷ events) = system_after (f s e).state (taken a (action_of s e)) events

  abbrev pub all_accepted : State → List Event → Bool
  all_accepted s [] = true
  all_accepted s (e ∷ events) = eqb (f s e).refusal 0 && all_accepted (f s e).state events

  pub along : Demand2 f → (s : State) (a : System) (events : List Event) → ReachedBy f s → Same s a → all_accepted s events ≡ true
      → Same (bench_after s events) (system_after s a events)
  along d s a [] r same ok = same
  along d s a (e ∷ events) r same ok =
      let first : eqb (f s e).refusal 0 ≡ true = and_left _ (all_accepted (f s e).state events) ok in
      let accepted : (f s e).refusal ≡ 0 = eqb-true _ _ first in
      let step = d.sound s a e r same accepted in
      along d (f s e).state (taken a (action_of s e)) events (next s e r accepted)
      (subst (λ action. Same (f s e).state (taken a action)) (names-one step.1) step.3)
      (and_right (eqb (f s e).refusal 0) _ ok)
