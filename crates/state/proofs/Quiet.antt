-- The answers to a message that end no phase: in a well-formed state what the plain rules make of the replica, and what they send, fit one event
-- later. And the replica of one that does, and of one that is counted on the way there.
use Rattle.std.specs.Prelude.{ℕ, ◌+◌, ◌-◌, ◌≤◌, ◌≡◌, true, false, leb}
use Rattle.std.proofs.Math.Path.{refl}
use Rattle.std.proofs.Common.{ap, ◌∙◌, arith, leb-false}
use Rattle.std.proofs.Math.ListN.{length-set}
use Rattle.words.specs.declared.Message.{Message}
use Rattle.words.specs.declared.Pair.{Pair}
use Rattle.words.specs.Quorum.{joined, counted}
use Rattle.words.specs.QuorumLaws.{Inside, inside-empty, joined-inside}
use Rattle.words.specs.Ranges.{pair_fits}
use Rattle.words.specs.Stamps.{newer}
use Rattle.replica.specs.Answer.{Answer}
use Rattle.replica.specs.declared.Ended.TheVariants.{Pending}
use Rattle.replica.specs.declared.Phase.{Phase}
use Rattle.replica.specs.Clock.{after}
use Rattle.replica.specs.ClockLaws.{after-least}
use Rattle.replica.specs.Handlers.{stored, discarded, query_rule, update_rule, became as placed}
use Rattle.state.specs.Needed.{needed}
use Rattle.state.proofs.NeededLaws.{empty-few, needed-same}
use Rattle.state.specs.State.{State, replica_of}
use Rattle.state.specs.WellFormed.{pairs_fit}
use Rattle.state.proofs.KeepsMoved.{SendsOk}
use Rattle.state.proofs.LaterLaws.{Later, kept-rows, replica-later, pair-later, pairs-later}
use Rattle.state.specs.Within.{Within}
use Rattle.state.proofs.PairLaws.{pair-newer, pairs_set}
use Rattle.state.proofs.WellLaws.{MessageOk, PhaseOk, ReplicaOk, Well, stored_at}

-- one event later, and nothing else
abbrev pub ahead : State → State
ahead s =
    record {
      n = s.n;
      m = s.m;
      accepted = s.accepted + 1;
      sent = s.sent;
      delivered = s.delivered;
      lost = s.lost;
      replicas = s.replicas;
      flight = s.flight;
      rows = s.rows;
    }

pub ahead-later : (s : State) → Later s (ahead s)
ahead-later s = record { same-n = refl; same-m = refl; more = omega arith }

pub record Quiet (s : State) (p : ℕ) (answer : Answer) : Type 0 where
  pub own : ReplicaOk (ahead s) p answer.replica
  pub sends : SendsOk (ahead s) answer.sends
  pub ended : answer.ended ≡ Pending

-- a message to p, received in a well-formed state
module _ (s : State) (w : Well s) (p : ℕ) (actor : Within p s.n) (x : Message) (k : MessageOk s x) where
  pub received-clock : after (replica_of s p).clock.0 x.time.0 ≤ s.accepted + 1
  received-clock = after-least (w.replica p actor).clock k.time

  pub own-later : ReplicaOk (ahead s) p (replica_of s p)
  own-later = replica-later s (ahead s) (ahead-later s) p (kept-rows s (ahead s) p refl) (replica_of s p) (w.replica p actor)

  pub discarded-quiet : Quiet s p (discarded (replica_of s p))
  discarded-quiet = record { own = own-later; sends = tt; ended = refl }

  stored-fits : (y : ℕ) → Within y s.m → pair_fits (s.accepted + 1) s.n (stored (replica_of s p) y) ≡ true
  stored-fits y l = pair-later s (ahead s) (ahead-later s) (stored (replica_of s p) y) (stored_at s w p y actor l)

  pub query-quiet : (y : ℕ) → Within y s.m → Quiet s p (query_rule (replica_of s p) x.from x.time x.rid y)
  unfolding query_rule
  query-quiet y l =
      record {
        own =
            record {
              clock = received-clock;
              rid = own-later.rid;
              sixteen = own-later.sixteen;
              pairs = own-later.pairs;
              inside = own-later.inside;
              few = own-later.few;
              phase = own-later.phase;
            };
        sends = (k.sender, record { time = received-clock; rid = omega (arith, k.rid); body = stored-fits y l });
        ended = refl;
      }

  pub update-quiet : (y : ℕ) (pair : Pair) → Within y s.m → pair_fits s.accepted s.n pair ≡ true
      → Quiet s p (update_rule (replica_of s p) x.from x.time x.rid y pair)
  unfolding update_rule
  update-quiet y pair l f =
      record {
        own =
            record {
              clock = received-clock;
              rid = own-later.rid;
              sixteen = length-set (replica_of s p).pairs (y - 1) (newer (stored (replica_of s p) y) pair) ∙ own-later.sixteen;
              pairs =
                  pairs_set (ahead s) s.m (replica_of s p).pairs (y - 1) (newer (stored (replica_of s p) y) pair) own-later.pairs
                  (omega (arith, l.least, l.most))
                  (pair-newer (s.accepted + 1) s.n (stored (replica_of s p) y) pair (stored-fits y l) (pair-later s (ahead s) (ahead-later s) pair f));
              inside = own-later.inside;
              few = own-later.few;
              phase = own-later.phase;
            };
        sends = (k.sender, record { time = received-clock; rid = omega (arith, k.rid); body = refl });
        ended = refl;
      }

  -- ---- a replica that moved on: its set is empty, or has one more and is no majority yet

  pub own-emptied : (t : State) → Later (ahead s) t → (phase : Phase) → PhaseOk t p phase 0
      → ReplicaOk t p (placed (replica_of s p) (after (replica_of s p).clock.0 x.time.0) ((replica_of s p).rid.0 + 1) phase 0 (replica_of s p).pairs)
  own-emptied t l phase o =
      record {
        clock = omega (arith, received-clock, l.more);
        rid = omega (arith, (w.replica p actor).rid, l.more);
        sixteen = own-later.sixteen;
        pairs =
            ap (λ (left : ℕ). pairs_fit t left (replica_of s p).pairs) l.same-m
            ∙ pairs-later (ahead s) t l s.m (replica_of s p).pairs own-later.pairs;
        inside = inside-empty t.n;
        few = empty-few t phase 0 refl;
        phase = o;
      }

  -- with the sender, the set is one of processes 1..N
  pub joined-within : Inside s.n (joined (replica_of s p).repliers x.from.0)
  joined-within =
      joined-inside s.n (replica_of s p).repliers x.from.0 k.sender.least k.sender.most w.processes.most (w.replica p actor).inside

  pub own-joined : (phase : Phase) → PhaseOk (ahead s) p phase (joined (replica_of s p).repliers x.from.0)
      → leb (needed s phase) (counted (joined (replica_of s p).repliers x.from.0)) ≡ false
      → ReplicaOk (ahead s) p
      (placed (replica_of s p) (after (replica_of s p).clock.0 x.time.0) (replica_of s p).rid.0 phase (joined (replica_of s p).repliers x.from.0) (replica_of s p).pairs)
  own-joined phase o few =
      record {
        clock = received-clock;
        rid = own-later.rid;
        sixteen = own-later.sixteen;
        pairs = own-later.pairs;
        inside = joined-within;
        few = rw (needed-same s (ahead s) refl phase) (leb-false (needed s phase) (counted (joined (replica_of s p).repliers x.from.0)) few);
        phase = o;
      }
