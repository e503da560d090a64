-- After a move every process stores, place by place, a pair no later than its clock that comes from a write of that register.
use Rattle.std.specs.Prelude.{ℕ, suc, ◌-◌, ◌≤◌, ◌<◌, ◌≡◌, refl, List, length, get_or, set}
use Rattle.std.proofs.Common.{ap, ◌∙◌, inl, inr, arith, length-set, get_or-set_same, get_or-set_other}
use Rattle.std.proofs.Math.Decide.{ℕ_discrete}
use Rattle.words.specs.declared.Pair.{Pair}
use Rattle.words.specs.Stamps.{start_pair, newer}
use Rattle.words.proofs.StampLaws.{newer-one}
use Rattle.replica.specs.declared.Replica.{Replica}
use Rattle.replica.specs.declared.Sends.{Sends}
use Rattle.replica.specs.Handlers.{stored}
use Rattle.tables.specs.declared.Row.{Row}
use Rattle.state.specs.State.{State, replica_of}
use Rattle.consistency.specs.Held.{Held, clock_at}
use Rattle.consistency.specs.Moves.{Turn, Move, reached, own-clock, own-pairs}
use Rattle.consistency.specs.Moves.Move.{rests, reads, writes, responds, stores, counts, chooses, gathers, completes}
use Rattle.consistency.specs.Sound.{Sound, Stores, From, said}
use Rattle.consistency.proofs.Kept.{Kept, from-kept, stores-kept}

-- what holds of both pairs holds of the newer
pub newer-is : (P : Pair → Type 0) (a b : Pair) → P a → P b → P (newer a b)
newer-is P a b p q = elim (newer-one a b) [ inl e ↦ rw e p | inr e ↦ rw e q ]

-- what holds at every place of a list, and of a new element at its own, holds when it is put there
set-each : (P : ℕ → Pair → Type 0) (pairs : List Pair) (i : ℕ) (pair : Pair) → i < length pairs
    → ((j : ℕ) → P j (get_or pairs j start_pair)) → P i pair → (j : ℕ) → P j (get_or (set pairs i pair) j start_pair)
set-each P pairs i pair inside old new j =
    elim (ℕ_discrete j i) [
      | yes e ↦ rw (e, get_or-set_same pairs i pair start_pair inside) new
      | no n ↦ rw (get_or-set_other pairs i j pair start_pair n) (old j)
    ]

module _ {s t : State} {held after : Held} (sound : Sound s held) (kept : Kept s held t after) where
  turn-stores : {p : ℕ} {r : Replica} {sends : Sends} {rows : List Row} → Turn s t p r sends rows
      → (1 ≤ p → Stores t p) → (q : ℕ) → 1 ≤ q → Stores t q
  turn-stores {p} turn own q first =
      elim (ℕ_discrete q p) [
        | yes e ↦ rw e (own (omega arith))
        | no n ↦ stores-kept kept q first (ap (λ (r : Replica). r.pairs) (turn.others q first n)) (sound.stores q first)
      ]

  -- the process that moved stores what it did
  turn-same : {p : ℕ} {r : Replica} {sends : Sends} {rows : List Row} → Turn s t p r sends rows
      → r.pairs ≡ (replica_of s p).pairs → (q : ℕ) → 1 ≤ q → Stores t q
  turn-same {p} turn e =
      turn-stores turn (λ first. stores-kept kept p first (own-pairs turn ∙ e) (sound.stores p first))

  pub move-stores : Move s t → (q : ℕ) → 1 ≤ q → Stores t q
  move-stores (rests p c turn) = turn-same turn refl
  move-stores (reads p x ready turn) = turn-same turn refl
  move-stores (writes p x value ready turn) = turn-same turn refl
  move-stores (responds message x flying body turn) = turn-same turn refl
  move-stores (counts message i gathered pair r turn) = turn-same turn refl
  move-stores (chooses message i gathered pair r enough turn) = turn-same turn refl
  move-stores (gathers message i sent a turn) = turn-same turn refl
  move-stores (completes message i sent a enough turn) = turn-same turn refl
  move-stores (stores message x pair flying body turn) = turn-stores turn own
    where
      r : Replica
      r = reached s message

      new : Pair
      new = newer (stored r x) pair

      Early : ℕ → Pair → Type 0
      Early j pair = pair.stamp.time.0 ≤ clock_at t message.to.0

      Sourced : ℕ → Pair → Type 0
      Sourced j pair = From t.rows (suc j) pair

      own : 1 ≤ message.to.0 → Stores t message.to.0
      own first =
          let pairs = own-pairs turn in
          let clock = own-clock turn in
          let old = sound.stores message.to.0 first in
          let tells = said (sound.flight message flying) body in
          let inside : x - 1 < length r.pairs = omega (arith, old.sixteen, tells.first, tells.last) in
          let place : suc (x - 1) ≡ x = omega (arith, tells.first) in
          record {
            sixteen = rw pairs (length-set r.pairs (x - 1) new ∙ old.sixteen);
            early = rw pairs
                (set-each Early r.pairs (x - 1) new inside (λ j. omega (arith, old.early j))
                (newer-is (Early (x - 1)) (stored r x) pair (omega (arith, old.early (x - 1))) (omega (arith, tells.early))));
            source = rw pairs
                (set-each Sourced r.pairs (x - 1) new inside (λ j. from-kept kept (suc j) _ (old.source j))
                (newer-is (Sourced (x - 1)) (stored r x) pair (from-kept kept (suc (x - 1)) _ (old.source (x - 1)))
                (rw place (from-kept kept x pair tells.source))));
          }
