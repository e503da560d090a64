-- A crash and a loss: our step is the system's.
use Rattle.std.specs.Prelude.{ℕ, ◌≤◌, Bool, map}
use Rattle.std.proofs.Math.Path.{refl, ap}
use Rattle.std.proofs.Common.{◌∙◌, append-nil, arith}
use Rattle.std.proofs.Math.Decide.{ℕ_discrete}
use borrow.Author.Tests.{eq-eqb, ne_eqb}
use Rattle.replica.specs.Answer.{Answer}
use Rattle.replica.specs.declared.Phase.{Phase}
use Rattle.replica.specs.declared.Phase.TheVariants.{Idle, Querying, Updating}
use Rattle.replica.specs.Handlers.{crash_rule}
use Rattle.state.specs.State.{State, replica_of}
use Rattle.state.specs.Step.{without_message}
use Rattle.state.specs.Accepted.{crash_next}
use Rattle.state.specs.Within.{Within}
use Rattle.state.proofs.WellLaws.{Well}
use Rattle.sc_abd.specs.Algorithm1.{Process}
use Rattle.sc_abd.specs.System.{System, Action, without, taken}
use Rattle.sc_abd.specs.Same.{packet_of, SamePhase, SameProcess, Same}
use Rattle.sc_abd.proofs.Packets.{packets-without}
use Rattle.moves.specs.Places.{own-after, other_after}
use Rattle.sc_abd.proofs.SameMove.{rows-kept, process-moved}

module _ (s : State) (w : Well s) (a : System) (same : Same s a) where
  pub same-crash : (p : ℕ) → Within p s.n → Same (crash_next s p) (taken a (Action.crash p))
  unfolding crash_rule
  same-crash p actor =
      record {
        size = same.size;
        processes = λ q l m. elim (ℕ_discrete q p) [
          | yes e ↦ rw (e, own-after s w.seven p actor.least most answer.replica) (crashed (still p actor.least actor.most))
          | no n ↦ rw (other_after s w.seven p actor.least most answer.replica q l n) (still q l m)
        ];
        down = λ q l m. elim (ℕ_discrete q p) [
          | yes e ↦ rw (e, own-after s w.seven p actor.least most answer.replica, eq-eqb p p refl) refl
          | no n ↦ rw (other_after s w.seven p actor.least most answer.replica q l n, ne_eqb q p n) (same.down q l m)
        ];
        flight = ap (map packet_of) (append-nil s.flight) ∙ same.flight;
        history = same.history;
      }
    where
      answer : Answer
      answer = crash_rule (replica_of s p)

      most : p ≤ 7
      most = omega (arith, actor.most, w.processes.most)

      still : (q : ℕ) → 1 ≤ q → q ≤ s.n → SameProcess (crash_next s p) q (replica_of s q) (a.processes q) (a.asking q)
      still q l m =
          process-moved s p answer s.flight s.delivered s.rows q (rows-kept s q) (replica_of s q) (a.processes q) (a.asking q)
          (same.processes q l m)

      crashed : SameProcess (crash_next s p) p (replica_of s p) (a.processes p) (a.asking p)
          → SameProcess (crash_next s p) p answer.replica (a.processes p) (a.asking p)
      crashed h = record { clock = h.clock; number = h.number; store = h.store; replies = h.replies; waits = h.waits; phase = h.phase }

  phase-lost : (i : ℕ) (phase : Phase) (q : Process) (asks : Bool) → SamePhase s phase q asks → SamePhase (without_message s i) phase q asks
  phase-lost i Idle q asks h = h
  phase-lost i (Querying row gathered) q asks h = h
  phase-lost i (Updating row sent) q asks h = h

  pub same-lose : (i : ℕ) → Same (without_message s i) (taken a (Action.lose i))
  same-lose i =
      record {
        size = same.size;
        processes = λ p l m. lost p (same.processes p l m);
        down = same.down;
        flight = packets-without i s.flight ∙ ap (without i) same.flight;
        history = same.history;
      }
    where
      lost : (p : ℕ) → SameProcess s p (replica_of s p) (a.processes p) (a.asking p)
          → SameProcess (without_message s i) p (replica_of s p) (a.processes p) (a.asking p)
      lost p h =
          record {
            clock = h.clock;
            number = h.number;
            store = h.store;
            replies = h.replies;
            waits = h.waits;
            phase = phase-lost i (replica_of s p).phase (a.processes p) (a.asking p) h.phase;
          }
