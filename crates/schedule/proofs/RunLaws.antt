-- A run is its first event and the run of the rest, however many events it may have at most; and what every accepted event keeps, a run keeps.
use Prim.Native.Nat.{ℕ, zero, suc, ◌-◌, ◌<◌, ◌≤◌}
use Rattle.std.specs.Prelude.{◌≡◌, refl, Bool, true, false, cond, List, eqb, length}
use Rattle.std.proofs.Common.{ap, ◌∙◌, arith, eqb-true}
use Rattle.state.specs.declared.Event.{Event}
use Rattle.state.specs.State.{State}
use Rattle.state.specs.Step.{Outcome, step}
use Rattle.state.specs.WellFormed.{well_formed}
use Rattle.state.proofs.Keeps.{keeps}
use Rattle.state.proofs.Sized.{Sized, keeps-sized}
use Rattle.state.specs.Reached.{Reached, next as reaches}
use Rattle.format.specs.Parse.{Parse}
use Rattle.format.specs.Parse.{Next, Refused, End}
use Rattle.format.specs.Format.{event_at}
use Rattle.schedule.specs.Run.{Ran, stopped, followed, turned, ran_from, ran}
use Rattle.schedule.specs.EventLaws.{Onward, onward, at-the-end}

-- ---- how many events it may have at most makes no difference

followed_same : (s : State) (f g : State → Ran) → ((t : State) → f t ≡ g t) → (o : Outcome) → followed s f o ≡ followed s g o
followed_same s f g e o = ap (λ (r : Ran). cond (eqb o.refusal 0) r (stopped o.refusal s)) (e o.state)

turned_same : (bytes : List ℕ) (at : ℕ) (s : State) (f g : ℕ → State → Ran) → ((j : ℕ) (t : State) → at < j → j ≤ length bytes → f j t ≡ g j t)
    → (x : Parse) → Onward bytes at x → turned s f x ≡ turned s g x
turned_same bytes at s f g e End h = refl
turned_same bytes at s f g e (Refused number) h = refl
turned_same bytes at s f g e (Next event j) h = followed_same s (f j) (g j) (λ t. e j t h.0 h.1) (step s event)

pub fuel-same : (a b : ℕ) (bytes : List ℕ) (at : ℕ) (s : State) → length bytes - at ≤ a → length bytes - at ≤ b → ran_from a bytes at s ≡ ran_from b bytes at s
unfolding ran_from
fuel-same zero zero bytes at s l h = refl
fuel-same zero (suc b) bytes at s l h = rw (at-the-end bytes at (omega arith)) refl
fuel-same (suc a) zero bytes at s l h = rw (at-the-end bytes at (omega arith)) refl
fuel-same (suc a) (suc b) bytes at s l h =
    turned_same bytes at s (λ j t. ran_from a bytes j t) (λ j t. ran_from b bytes j t)
    (λ j t u v. fuel-same a b bytes j t (omega arith) (omega arith)) (event_at bytes at) (onward bytes at)

one-turn : (bytes : List ℕ) (at : ℕ) (s : State) → ran_from (suc (length bytes)) bytes at s ≡ turned s (λ j t. ran bytes j t) (event_at bytes at)
unfolding ran_from
one-turn bytes at s =
    turned_same bytes at s (λ j t. ran_from (length bytes) bytes j t) (λ j t. ran bytes j t)
    (λ j t u v. fuel-same (length bytes) (length bytes - j) bytes j t (omega arith) (omega arith)) (event_at bytes at) (onward bytes at)

-- the first event, and the rest
pub run-turn : (bytes : List ℕ) (at : ℕ) (s : State) → ran bytes at s ≡ turned s (λ j t. ran bytes j t) (event_at bytes at)
run-turn bytes at s = fuel-same (length bytes - at) (suc (length bytes)) bytes at s (omega arith) (omega arith) ∙ one-turn bytes at s

-- ---- what every accepted event keeps, a run keeps

module _ (P : State → Type 0) (kept : (s : State) (e : Event) → P s → (step s e).refusal ≡ 0 → P (step s e).state) where
  followed-keeps : (s : State) (go : State → Ran) (e : Event) → P s → ((t : State) → P t → P (go t).state) → P (followed s go (step s e)).state
  followed-keeps s go e p h = by-test (eqb (step s e).refusal 0) refl
    where
      by-test : (b : Bool) → eqb (step s e).refusal 0 ≡ b → P (cond b (go (step s e).state) (stopped (step s e).refusal s)).state
      by-test true is = h (step s e).state (kept s e p (eqb-true (step s e).refusal 0 is))
      by-test false is = p

  turned-keeps : (s : State) (go : ℕ → State → Ran) (x : Parse) → P s → ((j : ℕ) (t : State) → P t → P (go j t).state) → P (turned s go x).state
  turned-keeps s go End p h = p
  turned-keeps s go (Refused number) p h = p
  turned-keeps s go (Next event j) p h = followed-keeps s (go j) event p (h j)

  pub run-keeps : (fuel : ℕ) (bytes : List ℕ) (at : ℕ) (s : State) → P s → P (ran_from fuel bytes at s).state
  unfolding ran_from
  run-keeps zero bytes at s p = p
  run-keeps (suc fuel) bytes at s p = turned-keeps s (λ j t. ran_from fuel bytes j t) (event_at bytes at) p (λ j t q. run-keeps fuel bytes j t q)

pub run-well-formed : (bytes : List ℕ) (at : ℕ) (s : State) → well_formed s ≡ true → well_formed (ran bytes at s).state ≡ true
run-well-formed bytes at s = run-keeps (λ (t : State). well_formed t ≡ true) keeps (length bytes - at) bytes at s

pub run-sized : (bytes : List ℕ) (at : ℕ) (s : State) → Sized s → Sized (ran bytes at s).state
run-sized bytes at s = run-keeps Sized keeps-sized (length bytes - at) bytes at s

pub run-reached : (bytes : List ℕ) (at : ℕ) (s : State) → Reached s → Reached (ran bytes at s).state
run-reached bytes at s = run-keeps Reached reaches (length bytes - at) bytes at s
