-- A message is received: whatever its body, our step is the algorithm's.
use Rattle.std.specs.Prelude.{ℕ, ◌<◌, ◌≡◌, true, List, length, get_or}
use Rattle.std.proofs.Math.Path.{refl}
use Rattle.std.proofs.Common.{sym, ap, subst₂, ◌∙◌}
use Rattle.words.specs.declared.Body.{Body}
use Rattle.words.specs.declared.Body.TheVariants.{Query, Response, Update, Ack}
use Rattle.words.specs.Ranges.{within, pair_fits}
use Rattle.words.specs.RangeLaws.{and_left}
use Rattle.replica.specs.Handlers.{query_rule, update_rule}
use Rattle.state.specs.State.{State, replica_of}
use Rattle.state.specs.WellFormed.{body_fits}
use Rattle.state.specs.Accepted.{message_at, plain_by, deliver_next}
use Rattle.state.proofs.PairLaws.{within-ok}
use Rattle.state.proofs.WellLaws.{MessageOk, Well, message-at}
use Rattle.sc_abd.specs.Algorithm1.{Packet, on_receipt}
use Rattle.sc_abd.specs.System.{System, Action, nowhere, at, repliers_of, joined_by, taken}
use Rattle.sc_abd.specs.Same.{content_of, packet_of, Same}
use Rattle.sc_abd.proofs.Packets.{packet-at}
use Rattle.moves.specs.RequestNumbers.{Numbered}
use Rattle.sc_abd.proofs.SameRequest.{system, same-query, same_update}
use Rattle.sc_abd.proofs.SameResponse.{next_by, same-response}
use Rattle.sc_abd.proofs.SameAck.{same-ack}

-- the packet at a place is the message there
pub at-message : (s : State) (a : System) → Same s a → (i : ℕ) → i < length s.flight → at a i ≡ packet_of (message_at s i)
at-message s a same i l = ap (λ (t : List Packet). get_or t i nowhere) (sym same.flight) ∙ packet-at i s.flight l

-- this packet, at place i, is received in a system of n processes
abbrev received_as : System → ℕ → Packet → ℕ → System
received_as a i m n =
    system a i m.to (repliers_of n (joined_by (a.processes m.to).responses m.from m.content))
    (on_receipt n m.to (a.processes m.to) m.from m.content)

module _ (s : State) (w : Well s) (n : Numbered s) (a : System) (same : Same s a) (i : ℕ) (l : i < length s.flight) where
  ok : MessageOk s (message_at s i)
  ok = message-at s w i l

  by-body : (body : Body) → (message_at s i).body ≡ body → body_fits s body ≡ true
      → Same (next_by s i (message_at s i).to.0 (plain_by s (replica_of s (message_at s i).to.0) (message_at s i) body))
      (system a i (message_at s i).to.0
      (repliers_of s.n (joined_by (a.processes (message_at s i).to.0).responses (message_at s i).from.0
      (content_of (message_at s i).time.0 (message_at s i).rid.0 body)))
      (on_receipt s.n (message_at s i).to.0 (a.processes (message_at s i).to.0) (message_at s i).from.0
      (content_of (message_at s i).time.0 (message_at s i).rid.0 body)))
  unfolding query_rule update_rule
  by-body (Query x) e f = same-query s w a same i (message_at s i).to.0 ok.recipient (message_at s i) x (within-ok x s.m f) _
  by-body (Response pair) e f = same-response s w n a same i l (message_at s i).to.0 ok.recipient refl pair e
  by-body (Update x pair) e f =
      same_update s w a same i (message_at s i).to.0 ok.recipient (message_at s i) x pair
      (within-ok x s.m (and_left (within x s.m) (pair_fits s.accepted s.n pair) f)) _
  by-body Ack e f = same-ack s w n a same i l (message_at s i).to.0 ok.recipient refl e

  pub same-receive : Same (deliver_next s i) (taken a (Action.receive i))
  same-receive =
      subst₂ (λ (m : Packet) (k : ℕ). Same (deliver_next s i) (received_as a i m k)) (sym (at-message s a same i l)) same.size
      (by-body (message_at s i).body refl ok.body)
