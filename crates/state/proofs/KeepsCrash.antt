-- An accepted crash, and an accepted loss of a message, keep well-formedness: a crash changes one replica's sign of life, a loss takes a message off.
use Rattle.std.specs.Prelude.{ℕ, ◌<◌, ◌≡◌, refl, length}
use Rattle.std.proofs.Common.{sym, subst, arith}
use Rattle.replica.specs.Answer.{Answer}
use Rattle.replica.specs.Handlers.{crash_rule}
use Rattle.tables.specs.Tables.{removed}
use Rattle.state.specs.State.{State, replica_of}
use Rattle.state.specs.Step.{moved, without_message, step_crash, step_lose}
use Rattle.state.specs.WellFormed.{message_fits}
use Rattle.state.specs.Accepted.{crash_next}
use Rattle.state.proofs.AcceptedLaws.{Crashable, crash-accepted, lose-accepted}
use Rattle.state.proofs.EveryLaws.{every_removed, length_removed}
use Rattle.state.proofs.FlightLaws.{rising-removed}
use Rattle.state.proofs.KeepsMoved.{moved_later, moved-well}
use Rattle.state.proofs.LaterLaws.{Later, kept-rows, messages-later, rows-later, replica-later}
use Rattle.state.proofs.WellLaws.{ReplicaOk, Well}

-- ---- crash

module _ (s : State) (w : Well s) (p : ℕ) (c : Crashable s p) where
  crash-well : Well (crash_next s p)
  unfolding crash_rule
  crash-well =
      moved-well s p answer s.flight s.delivered s.rows w
      (record {
        room = c.room;
        actor = c.actor;
        taken = refl;
        messages = w.messages;
        numbers = w.numbers;
        history = rows-later s t later_of s.rows w.history;
        own =
            record {
              clock = o.clock;
              rid = o.rid;
              sixteen = o.sixteen;
              pairs = o.pairs;
              inside = o.inside;
              few = o.few;
              phase = o.phase;
            };
        sends = tt;
        others = λ q f. kept-rows s t q refl;
      })
    where
      answer : Answer
      answer = crash_rule (replica_of s p)

      t : State
      t = moved s p answer s.flight s.delivered s.rows

      later_of : Later s t
      later_of = moved_later s p answer s.flight s.delivered s.rows

      o : ReplicaOk t p (replica_of s p)
      o = replica-later s t later_of p (kept-rows s t p refl) (replica_of s p) (w.replica p c.actor)

pub crash-keeps : (s : State) (p : ℕ) → Well s → (step_crash s p).refusal ≡ 0 → Well (step_crash s p).state
crash-keeps s p w e = let a = crash-accepted s p e in subst Well (sym a.1) (crash-well s w p a.0)

-- ---- lose

lose-well : (s : State) → Well s → s.accepted < 12000 → (i : ℕ) → i < length s.flight → Well (without_message s i)
lose-well s w room i inside =
    record {
      processes = w.processes;
      registers = w.registers;
      events = omega arith;
      sends = omega (arith, w.sends);
      balance = omega (arith, w.balance, length_removed i s.flight inside);
      messages = messages-later s t later (removed i s.flight) (every_removed (message_fits s) i s.flight w.messages);
      numbers = rising-removed 0 s.sent i s.flight w.numbers;
      history = rows-later s t later s.rows w.history;
      seven = w.seven;
      replica = λ p l. replica-later s t later p (kept-rows s t p refl) (replica_of s p) (w.replica p l);
      beyond = w.beyond;
    }
  where
    t : State
    t = without_message s i

    later : Later s t
    later = record { same-n = refl; same-m = refl; more = omega arith }

pub lose-keeps : (s : State) (k : ℕ) → Well s → (step_lose s k).refusal ≡ 0 → Well (step_lose s k).state
lose-keeps s k w e =
    let a = lose-accepted s k e in
    subst Well (sym a.2) (lose-well s w a.1.found.room a.0 a.1.found.inside)
