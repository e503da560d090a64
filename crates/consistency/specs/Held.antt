-- What a process held: the ghost of the proof. `held k time x` is the stamp that process k stored for register x when its clock last was at
-- most the time. It is computed from the run, and nothing is assumed of it.
use Rattle.std.specs.Prelude.{ℕ, ◌≤◌, ◌<◌, ◌≡◌, cond, leb}
use Rattle.std.proofs.Common.{sym, ◌∙◌, arith, le-leb}
use Rattle.std.proofs.Math.Decide.{dec_le}
use Rattle.std.proofs.lemmas.Bool.{lt-leb}
use Rattle.words.specs.declared.Stamp.{Stamp}
use Rattle.words.specs.Stamps.{start_stamp, AtMost}
use Rattle.words.proofs.StampLaws.{at_most-reflexive, at_most-transitive}
use Rattle.replica.specs.declared.Replica.{Replica}
use Rattle.replica.specs.Handlers.{stored}
use Rattle.state.specs.State.{State, replica_of}
use Rattle.state.specs.Step.{step}
use Rattle.state.specs.Reached.{Reached}
use Rattle.state.specs.Reached.Reached.{start, next}

-- by process, time and register
abbrev pub Held : Type 0
Held = ℕ → ℕ → ℕ → Stamp

abbrev pub clock_at : State → ℕ → ℕ
clock_at s k = (replica_of s k).clock.0

abbrev pub stored_at : State → ℕ → ℕ → Stamp
stored_at s k x = (stored (replica_of s k) x).stamp

-- from its clock on a process holds what it has stored; what it held before stays
unfoldable pub held_after : Held → State → Held
held_after held t k time x = cond (leb (clock_at t k) time) (stored_at t k x) (held k time x)

unfoldable pub held_in : {s : State} → Reached s → Held
held_in (start n m f g) k time x = start_stamp
held_in (next s e r z) k time x = held_after (λ (k time x : ℕ). held_in r k time x) (step s e).state k time x

-- what is held from the clock on is what is stored, and it never falls
pub record Recalls (s : State) (held : Held) : Type 0 where
  pub now : (k time x : ℕ) → 1 ≤ k → clock_at s k ≤ time → held k time x ≡ stored_at s k x
  pub rising : (k x a b : ℕ) → 1 ≤ k → a ≤ b → AtMost (held k a x) (held k b x)

-- a process goes on: no stored stamp falls, and none changes unless the clock rises
pub record Advance (r after : Replica) : Type 0 where
  pub clock : r.clock.0 ≤ after.clock.0
  pub higher : (x : ℕ) → AtMost (stored r x).stamp (stored after x).stamp
  pub still : r.clock.0 ≡ after.clock.0 → (x : ℕ) → (stored r x).stamp ≡ (stored after x).stamp

module _ (s t : State) (held : Held) (recalls : Recalls s held) (advance : (k : ℕ) → 1 ≤ k → Advance (replica_of s k) (replica_of t k)) where
  held-now : (k time x : ℕ) → clock_at t k ≤ time → held_after held t k time x ≡ stored_at t k x
  unfolding held_after
  held-now k time x l = rw (le-leb (clock_at t k) time l)

  held-before : (k time x : ℕ) → time < clock_at t k → held_after held t k time x ≡ held k time x
  unfolding held_after
  held-before k time x l = rw (lt-leb (clock_at t k) time l)

  -- what was held up to the clock stays
  pub held-past : (k time x : ℕ) → 1 ≤ k → time ≤ clock_at s k → held_after held t k time x ≡ held k time x
  held-past k time x first l =
      elim (dec_le (clock_at t k) time) [
        | yes a ↦
            let c = (advance k first).clock in
            held-now k time x a ∙ sym ((advance k first).still (omega arith) x) ∙ sym (recalls.now k time x first (omega arith))
        | no a ↦ held-before k time x (omega arith)
      ]

  -- and at no time is less held than before
  pub held-higher : (k time x : ℕ) → 1 ≤ k → AtMost (held k time x) (held_after held t k time x)
  held-higher k time x first =
      elim (dec_le (clock_at t k) time) [
        | yes a ↦
            let c = (advance k first).clock in
            rw (held-now k time x a, recalls.now k time x first (omega arith)) ((advance k first).higher x)
        | no a ↦ rw (held-before k time x (omega arith)) (at_most-reflexive (held k time x))
      ]

  pub held-recalls : Recalls t (held_after held t)
  held-recalls = record { now = λ k time x first l. held-now k time x l; rising = rises }
    where
      rises : (k x a b : ℕ) → 1 ≤ k → a ≤ b → AtMost (held_after held t k a x) (held_after held t k b x)
      rises k x a b first l =
          elim (dec_le (clock_at t k) a) [
            | yes c ↦ rw (held-now k a x c, held-now k b x (omega arith)) (at_most-reflexive (stored_at t k x))
            | no c ↦
                rw (held-before k a x (omega arith))
                (at_most-transitive (held k a x) (held k b x) (held_after held t k b x) (recalls.rising k x a b first l) (held-higher k b x first))
          ]
