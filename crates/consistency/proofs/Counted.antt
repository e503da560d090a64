-- A reply that counts: with its sender among the repliers the process still asks, or tells, as the invariant says. The replies of a phase are
-- counted so whether or not they are enough to end it.
use Rattle.std.specs.Prelude.{ℕ, ◌≤◌, ◌≡◌}
use mathlib.Core.List.{Memᴰ}
use Rattle.std.proofs.Common.{inl, inr, arith}
use Rattle.words.specs.declared.Message.{Message}
use Rattle.words.specs.declared.Pair.{Pair}
use Rattle.words.specs.QuorumLaws.{Inside, joined-only, joined-inside}
use Rattle.words.specs.Stamps.{newer}
use Rattle.words.proofs.StampLaws.{at_most-transitive, newer-left, newer-right}
use Rattle.replica.specs.declared.Gathered.{Gathered}
use Rattle.state.specs.State.{State, row_of}
use Rattle.consistency.specs.Held.{Held, clock_at}
use Rattle.consistency.specs.Moves.{Responds, Acks, reached, clock_then, repliers_then}
use Rattle.consistency.specs.Sound.{Sound, Asking, Telling, From, said}
use Rattle.consistency.proofs.Kept.{Kept, below-kept, above_kept, from-kept, asking-kept, telling-kept}
use Rattle.consistency.proofs.StoresKept.{newer-is}

-- the repliers are processes of the bench, with the sender too
pub repliers-inside : {s : State} {held : Held} → Sound s held → (message : Message) → Memᴰ message s.flight
    → Inside s.n (repliers_then s message)
repliers-inside {s} sound message flying =
    let c = sound.flight message flying in
    joined-inside s.n (reached s message).repliers message.from.0 c.from_first c.from_last sound.sized.few
    (sound.waits message.to.0 c.to-first).inside

module _ {s t : State} {held after : Held} (sound : Sound s held) (kept : Kept s held t after) (message : Message)
    (clock : clock_at t message.to.0 ≡ clock_then s message) where
  abbrev p : ℕ
  p = message.to.0

  module _ (i : ℕ) (gathered : Gathered) (pair : Pair) (r : Responds s message i gathered pair) where
    pub asked-more : Asking t after p (row_of s i) (newer gathered.best pair) (repliers_then s message)
    asked-more =
        let c = sound.flight message r.flying in
        let waits = sound.waits p c.to-first in
        let says = said c r.body in
        let meant = says.meant i gathered r.phase r.rid in
        let old = asking-kept kept p (row_of s i) gathered.best (reached s message).repliers c.to-first waits.inside (waits.asking i gathered r.phase).1 in
        let own = below-kept kept (row_of s i) pair.stamp message.from.0 c.from_first meant.0 in
        record {
          serves = record {
            own = old.serves.own;
            pending = old.serves.pending;
            early = newer-is (λ pair. pair.stamp.time.0 ≤ clock_at t p) gathered.best pair old.serves.early (omega (arith, says.early));
            source = newer-is (From t.rows (row_of s i).register) gathered.best pair old.serves.source (from-kept kept (row_of s i).register pair meant.1);
          };
          kind = old.kind;
          counted = λ k m.
              elim (joined-only (reached s message).repliers message.from.0 k m) [
                | inl e ↦ rw (← e) (own.0, at_most-transitive _ pair.stamp (newer gathered.best pair).stamp own.1 (newer-right gathered.best pair))
                | inr h ↦
                    let b = old.counted k h in
                    (b.0, at_most-transitive _ gathered.best.stamp (newer gathered.best pair).stamp b.1 (newer-left gathered.best pair))
              ];
        }

  module _ (i : ℕ) (sent : Pair) (a : Acks s message i sent) where
    pub told_more : Telling t after p (row_of s i) sent (repliers_then s message)
    told_more =
        let c = sound.flight message a.flying in
        let waits = sound.waits p c.to-first in
        let says = said c a.body in
        let old = telling-kept kept p (row_of s i) sent (reached s message).repliers c.to-first waits.inside (waits.telling i sent a.phase).1 in
        let k = message.from.0 in
        let x = (row_of s i).register in
        let then = above_kept kept (row_of s i) sent.stamp message.time.0 k c.from_first (says.meant i sent a.phase a.rid) in
        let rising = kept.recalls.rising k x message.time.0 (clock_at t p) c.from_first (omega arith) in
        let own = at_most-transitive sent.stamp (after k message.time.0 x) (after k (clock_at t p) x) then rising in
        record {
          serves = old.serves;
          counted = λ j m.
              elim (joined-only (reached s message).repliers k j m) [ inl e ↦ rw (← e) own | inr h ↦ old.counted j h ];
          written = old.written;
          asked = old.asked;
        }
