-- Document 01, "Numbers of refusal", of what is well formed: a fresh bench is well formed, every accepted event keeps this, and so every state reached is well formed.
use Rattle.std.specs.Prelude.{ℕ, zero, suc, ◌-◌, ◌≤◌, ◌≡◌, refl, true, replicate}
use Rattle.std.proofs.Common.{sym, ap, subst, arith}
use Rattle.std.proofs.lemmas.List.{get_or-replicate}
use Rattle.words.specs.QuorumLaws.{inside-empty, counted-empty}
use Rattle.words.specs.Ranges.{within}
use Rattle.words.specs.Stamps.{start_pair}
use Rattle.state.specs.declared.Event.{Event}
use Rattle.state.specs.declared.Event.TheVariants.{Read, Write, Deliver, Crash, Lose}
use Rattle.state.specs.State.{State, fresh, fresh_replica, replica_of}
use Rattle.state.specs.Step.{step}
use Rattle.state.specs.WellFormed.{every, is_start, pairs_fit, is_fresh, well_formed}
use Rattle.state.specs.Reached.{Reached, start, next}
use Rattle.state.proofs.EveryLaws.{both}
use Rattle.state.proofs.KeepsCrash.{crash-keeps, lose-keeps}
use Rattle.state.proofs.KeepsDeliver.{deliver-keeps}
use Rattle.state.proofs.KeepsInvoke.{read_keeps, write_keeps}
use Rattle.state.specs.Within.{Within}
use Rattle.state.proofs.PairLaws.{within-ok, pair-start}
use Rattle.state.proofs.WellLaws.{ReplicaOk, Well, well, unwell}

-- ---- a fresh bench

starts : (k : ℕ) → every is_start (replicate k start_pair) ≡ true
starts zero = refl
starts (suc k) = starts k

starts_fit : (s : State) (left k : ℕ) → pairs_fit s left (replicate k start_pair) ≡ true
starts_fit s zero k = starts k
starts_fit s (suc left) zero = refl
starts_fit s (suc left) (suc k) = both (pair-start s.accepted s.n) (starts_fit s left k)

module _ (n m : ℕ) (l : Within n 7) (h : Within m 16) where
  fresh_at : (p : ℕ) → 1 ≤ p → p ≤ 7 → replica_of (fresh n m) p ≡ fresh_replica
  fresh_at p a b = get_or-replicate 7 (p - 1) fresh_replica fresh_replica (omega arith)

  fresh_ok : (p : ℕ) → ReplicaOk (fresh n m) p fresh_replica
  fresh_ok p =
      record {
        clock = omega arith;
        rid = omega arith;
        sixteen = refl;
        pairs = starts_fit (fresh n m) m 16;
        inside = inside-empty n;
        few = omega (arith, counted-empty);
        phase = (refl, refl);
      }

  fresh-well : Well (fresh n m)
  fresh-well =
      record {
        processes = l;
        registers = h;
        events = omega arith;
        sends = omega arith;
        balance = refl;
        messages = refl;
        numbers = refl;
        history = refl;
        seven = refl;
        replica = λ p k. subst (ReplicaOk (fresh n m) p) (sym (fresh_at p k.least (omega (arith, k.most, l.most)))) (fresh_ok p);
        beyond = λ p a b. ap is_fresh (fresh_at p (omega arith) b);
      }

pub fresh-well-formed : (n m : ℕ) → within n 7 ≡ true → within m 16 ≡ true → well_formed (fresh n m) ≡ true
fresh-well-formed n m e f = unwell (fresh n m) (fresh-well n m (within-ok n 7 e) (within-ok m 16 f))

-- ---- an accepted event

keeps-well : (s : State) (e : Event) → Well s → (step s e).refusal ≡ 0 → Well (step s e).state
unfolding step
keeps-well s (Read p x) w z = read_keeps s p.0 x w z
keeps-well s (Write p x value) w z = write_keeps s p.0 x value w z
keeps-well s (Deliver k) w z = deliver-keeps s k w z
keeps-well s (Crash p) w z = crash-keeps s p.0 w z
keeps-well s (Lose k) w z = lose-keeps s k w z

pub keeps : (s : State) (e : Event) → well_formed s ≡ true → (step s e).refusal ≡ 0 → well_formed (step s e).state ≡ true
keeps s e w z = unwell (step s e).state (keeps-well s e (well s w) z)

-- ---- a state reached

pub reached-well-formed : (s : State) → Reached s → well_formed s ≡ true
reached-well-formed _ (start n m e f) = fresh-well-formed n m e f
reached-well-formed _ (next s e r z) = keeps s e (reached-well-formed s r) z
