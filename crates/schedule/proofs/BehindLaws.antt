-- What is left of a run behind a turn: an accepted event is carried out once and the run goes on from the state that it leaves, a refused one changes nothing and ends it.
use Rattle.std.specs.Prelude.{ℕ, ◌≡◌, refl, Bool, true, false, cond, List, eqb}
use Rattle.std.proofs.Common.{sym, ap}
use Rattle.std.proofs.lemmas.Bool.{eqb-false}
use Rattle.state.specs.declared.Event.{Event}
use Rattle.state.specs.State.{State}
use Rattle.state.specs.Step.{step}
use Rattle.state.proofs.Refusals.{refused-changes-nothing}
use Rattle.format.specs.Parse.{Parse, Next, Refused, End}
use Rattle.schedule.specs.Run.{Ran, stopped, followed, turned, ran}
use Rattle.schedule.specs.Turns.{Went, went}

-- what is still to be done from here
abbrev pub left : List ℕ → Bool → ℕ → ℕ → State → Ran
left bytes go number at s = cond go (ran bytes at s) (stopped number s)

abbrev pub left_by : List ℕ → Went → Ran
left_by bytes w = left bytes w.go w.refusal w.at w.state

followed-left : (bytes : List ℕ) (s : State) (event : Event) (at : ℕ) → followed s (λ t. ran bytes at t) (step s event) ≡ left_by bytes (went s (Next event at))
followed-left bytes s event at = go (eqb (step s event).refusal 0) refl
  where
    go : (b : Bool) → eqb (step s event).refusal 0 ≡ b
        → cond b (ran bytes at (step s event).state) (stopped (step s event).refusal s) ≡ left bytes b (step s event).refusal at (step s event).state
    go true e = refl
    go false e = ap (stopped (step s event).refusal) (sym (refused-changes-nothing s event (eqb-false (step s event).refusal 0 e)))

pub turned_left : (bytes : List ℕ) (s : State) (parse : Parse) → turned s (λ j t. ran bytes j t) parse ≡ left_by bytes (went s parse)
turned_left bytes s (Next event at) = followed-left bytes s event at
turned_left bytes s (Refused number) = refl
turned_left bytes s End = refl
