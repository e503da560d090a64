-- A refused event changes nothing, an accepted one counts itself once, and no event changes N or M.
use Rattle.std.specs.Prelude.{◌+◌, ◌≡◌, refl, Bool, true, false, eqb}
use Rattle.std.proofs.Common.{ap, eqb-true}
use Rattle.std.proofs.lemmas.Bool.{eqb-false}
use Rattle.state.specs.declared.Event.{Event}
use Rattle.state.specs.State.{State}
use Rattle.state.specs.Step.{step}
use Rattle.state.specs.Follows.{Follows}
use Rattle.state.specs.Follows.Follows.{reads, writes, delivers, crashes, loses}
use Rattle.state.proofs.FollowsLaws.{step-judged, accepted-follows}

-- N and M as before, and one event more
abbrev Continues : State → State → Type 0
Continues s t = (t.n ≡ s.n) × (t.m ≡ s.m) × (t.accepted ≡ s.accepted + 1)

follows-continues : {s t : State} {e : Event} → Follows s e t → Continues s t
follows-continues (reads p x) = (refl, refl, refl)
follows-continues (writes p x value) = (refl, refl, refl)
follows-continues (delivers k i f) = (refl, refl, refl)
follows-continues (crashes p) = (refl, refl, refl)
follows-continues (loses k i f) = (refl, refl, refl)

pub refused-changes-nothing : (s : State) (e : Event) → ((step s e).refusal ≡ 0 → ⊥) → (step s e).state ≡ s
refused-changes-nothing s e = (step-judged s e).refused

pub accepted-counts-once : (s : State) (e : Event) → (step s e).refusal ≡ 0 → (step s e).state.accepted ≡ s.accepted + 1
accepted-counts-once s e z = (follows-continues (accepted-follows s e z)).2

pub sizes-stay : (s : State) (e : Event) → ((step s e).state.n ≡ s.n) × ((step s e).state.m ≡ s.m)
sizes-stay s e = go (eqb (step s e).refusal 0) refl
  where
    go : (b : Bool) → eqb (step s e).refusal 0 ≡ b → ((step s e).state.n ≡ s.n) × ((step s e).state.m ≡ s.m)
    go true is = let same = follows-continues (accepted-follows s e (eqb-true _ _ is)) in (same.0, same.1)
    go false is = let same = (step-judged s e).refused (eqb-false _ _ is) in (ap (λ t. t.n) same, ap (λ t. t.m) same)
