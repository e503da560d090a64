-- After a move every message in flight says what the invariant says: those that flew before, and those that the move sent.
use Rattle.std.specs.Prelude.{ℕ, suc, ◌+◌, ◌-◌, ◌≤◌, ◌<◌, ◌≡◌, refl, length}
use Rattle.std.proofs.Common.{sym, ap, subst, ◌∙◌, inl, inr, arith, get_or-set_same}
use mathlib.Core.List.{List, Memᴰ}
use Rattle.words.specs.declared.Body.TheVariants.{Query, Response, Update, Ack}
use Rattle.words.specs.declared.Message.{Message}
use Rattle.words.specs.declared.Pair.{Pair}
use Rattle.words.specs.Stamps.{start_pair, newer, AtMost}
use Rattle.words.proofs.StampLaws.{newer-right}
use Rattle.replica.specs.declared.Letter.{Letter}
use Rattle.replica.specs.declared.Phase.TheVariants.{Querying, Updating}
use Rattle.replica.specs.declared.Replica.{Replica}
use Rattle.replica.specs.declared.Sends.{Sends}
use Rattle.replica.specs.Gathering.{nothing_gathered}
use Rattle.replica.specs.Handlers.{stored, letter}
use Rattle.tables.specs.declared.Row.{Row}
use Rattle.state.specs.State.{State, replica_of, row_of}
use Rattle.consistency.specs.Held.{Held, clock_at, stored_at}
use Rattle.consistency.specs.Moves.{Bears, Sent, Turn, Move, reached, clock_then, written_pair, own-clock, own-rid, own-phase}
use Rattle.consistency.specs.Moves.Move.{rests, reads, writes, responds, stores, counts, chooses, gathers, completes}
use Rattle.consistency.specs.Sound.{begun-by, Sound, From, Carried, Says, QueryOf, UpdateOf, ResponseOf, AckOf, said}
use Rattle.consistency.proofs.Kept.{Kept, carried-kept, from-kept, while-asking, while-telling}
use Rattle.consistency.proofs.Counted.{asked-more}
use Rattle.consistency.proofs.Begun.{last_row, written-source}

module _ {s t : State} {held after : Held} (sound : Sound s held) (kept : Kept s held t after) where
  turn-flight : {p : ℕ} {r : Replica} {sends : Sends} {rows : List Row} → Turn s t p r sends rows
      → ((message : Message) → Sent s.n p sends message → Carried t after message)
      → (message : Message) → Memᴰ message t.flight → Carried t after message
  turn-flight turn new message m =
      elim (turn.flight message m) [
        | inl old ↦ carried-kept kept sound.waits message (sound.begun message old) (sound.flight message old)
        | inr sent ↦ new message sent
      ]

  -- a message that bears p's letter, from p to another process
  bears-carried : (message : Message) (p : ℕ) (letter : Letter) → Bears message p letter → 1 ≤ p → p ≤ s.n
      → 1 ≤ message.to.0 → message.to.0 ≤ s.n
      → Says t after message letter.body → Carried t after message
  bears-carried message p letter b first last to-first to_last says =
      record {
        from_first = omega (arith, b.sender);
        from_last = rw kept.processes (omega (arith, b.sender));
        to-first = to-first;
        to_last = rw kept.processes to_last;
        says = subst (Says t after message) (sym b.body) says;
      }

  -- ---- what a request says

  module _ (p x clock rid : ℕ) (m : Message) (first : 1 ≤ x) (last : x ≤ 16) (own : (replica_of t p).rid.0 ≡ rid)
      (i : ℕ) (register : (row_of t i).register ≡ x) where
    query-sent : Bears m p (letter clock rid (Query x)) → (replica_of t p).phase ≡ Querying i nothing_gathered → (row_of t i).invoked.0 ≤ clock
        → Says t after m (Query x)
    query-sent b phase invoked =
        record {
          first = first;
          last = last;
          meant = rw b.sender λ j gathered e f. subst (λ (j : ℕ). QueryOf m x (row_of t j)) (cc) (register, omega (arith, b.time));
        }

    update-sent : (pair : Pair) → Bears m p (letter clock rid (Update x pair)) → (replica_of t p).phase ≡ Updating i pair
        → pair.stamp.time.0 ≤ clock → From t.rows x pair
        → Says t after m (Update x pair)
    update-sent pair b phase early source =
        record {
          first = first;
          last = last;
          early = omega (arith, b.time);
          source = source;
          meant = rw b.sender λ j sent e f. (subst (λ (j : ℕ). (row_of t j).register ≡ x) (cc) register, cc);
        }

  -- ---- what a reply says

  -- k stores this stamp for x from its clock on
  stored-now : (k x : ℕ) (pair : Pair) → 1 ≤ k → stored_at t k x ≡ pair.stamp → after k (clock_at t k) x ≡ pair.stamp
  stored-now k x pair first e = kept.recalls.now k (clock_at t k) x first (omega arith) ∙ e

  module _ (message : Message) (x : ℕ) (flying : Memᴰ message s.flight) (m : Message) (to : m.to.0 ≡ message.from.0) where
    abbrev k : ℕ
    k = message.to.0

    response-sent : message.body ≡ Query x → (pair : Pair) → stored (reached s message) x ≡ pair → stored_at t k x ≡ pair.stamp
        → clock_at t k ≡ clock_then s message
        → Bears m k (letter (clock_then s message) message.rid.0 (Response pair))
        → Says t after m (Response pair)
    response-sent body pair same now clock b =
        let c = sound.flight message flying in
        let asks = said c body in
        let store = sound.stores k c.to-first in
        let place : suc (x - 1) ≡ x = omega (arith, asks.first) in
        let early = store.early (x - 1) in
        let source = from-kept kept x pair (rw (place, same) at (store.source (x - 1))) in
        record {
          early = rw (← same) (omega (arith, b.time));
          meant = rw (to, b.rid)
              (while-asking kept sound.waits message.from.0 message.rid.0 (QueryOf message x) (ResponseOf t after m pair)
              c.from_first (begun-by sound message flying (Query x) body)
              (λ r then kept_row h.
              let invoked : then.invoked.0 ≤ clock_at t k = omega (arith, kept_row.invoked, h.1) in
              rw (b.sender, kept_row.register ∙ h.0) (
                (
                  invoked,
                  subst (AtMost (after k then.invoked.0 x)) (stored-now k x pair c.to-first now)
                      (kept.recalls.rising k x then.invoked.0 (clock_at t k) c.to-first invoked),
                ),
                source,
              ))
              asks.meant);
        }

    ack-sent : (pair : Pair) → message.body ≡ Update x pair → AtMost pair.stamp (stored_at t k x) → clock_at t k ≡ clock_then s message
        → Bears m k (letter (clock_then s message) message.rid.0 Ack)
        → Says t after m Ack
    ack-sent pair body now clock b =
        let c = sound.flight message flying in
        let tells = said c body in
        record {
          meant = rw (to, b.rid)
              (while-telling kept sound.waits message.from.0 message.rid.0 (UpdateOf x pair) (AckOf after m) c.from_first (begun-by sound message flying (Update x pair) body)
              (λ r then sent kept_row h.
              rw (b.sender, b.time, ← clock, kept_row.register ∙ h.0, h.1, kept.recalls.now k (clock_at t k) x c.to-first (omega arith)) now)
              tells.meant);
        }

  -- ---- every move

  none-sent : (message : Message) → ⊥ → Carried t after message
  none-sent message e = absurd e

  pub move-flight : Move s t → (message : Message) → Memᴰ message t.flight → Carried t after message
  move-flight (rests p c turn) = turn-flight turn none-sent
  move-flight (counts message i gathered pair r turn) = turn-flight turn none-sent
  move-flight (gathers message i sent a turn) = turn-flight turn none-sent
  move-flight (completes message i sent a enough turn) = turn-flight turn none-sent
  move-flight (reads p x ready turn) = turn-flight turn λ m sent.
      let last = last_row s.rows t.rows _ turn.rows in
      bears-carried m p _ sent.0 ready.least ready.most sent.1 sent.2
      (query-sent p x _ _ m ready.first (omega (arith, sound.sized.registers, ready.last)) (own-rid turn)
      (length s.rows + 1) (ap (λ (r : Row). r.register) last.1)
      sent.0 (own-phase turn) (omega (arith, ap (λ (r : Row). r.invoked.0) last.1)))
  move-flight (writes p x value ready turn) = turn-flight turn λ m sent.
      let last = last_row s.rows t.rows _ turn.rows in
      bears-carried m p _ sent.0 ready.least ready.most sent.1 sent.2
      (update-sent p x _ _ m ready.first (omega (arith, sound.sized.registers, ready.last)) (own-rid turn)
      (length s.rows + 1) (ap (λ (r : Row). r.register) last.1)
      (written_pair (replica_of s p) p value) sent.0 (own-phase turn) (omega arith)
      (written-source s.rows t.rows p x value _ turn.rows))
  move-flight (responds message x flying body turn) = turn-flight turn λ m sent.
      let c = sound.flight message flying in
      bears-carried m message.to.0 _ sent.0 c.to-first c.to_last (rw sent.1 c.from_first) (rw sent.1 c.from_last)
      (response-sent message x flying m sent.1 body (stored (reached s message) x) refl (ap (λ (r : Replica). (stored r x).stamp) turn.own)
      (own-clock turn) sent.0)
  move-flight (stores message x pair flying body turn) = turn-flight turn λ m sent.
      let c = sound.flight message flying in
      let tells = said c body in
      let old = sound.stores message.to.0 c.to-first in
      let inside : x - 1 < length (reached s message).pairs = omega (arith, old.sixteen, tells.first, tells.last) in
      let store = ap (λ (r : Replica). (stored r x).stamp) turn.own in
      let kept_pair = get_or-set_same (reached s message).pairs (x - 1) (newer (stored (reached s message) x) pair) start_pair inside in
      bears-carried m message.to.0 _ sent.0 c.to-first c.to_last (rw sent.1 c.from_first) (rw sent.1 c.from_last)
      (ack-sent message x flying m sent.1 pair body
      (subst (AtMost pair.stamp) (sym (store ∙ ap (λ (p : Pair). p.stamp) kept_pair)) (newer-right (stored (reached s message) x) pair))
      (own-clock turn) sent.0)
  move-flight (chooses message i gathered pair r enough turn) = turn-flight turn λ m sent.
      let c = sound.flight message r.flying in
      let numbered = ((sound.waits message.to.0 c.to-first).asking i gathered r.phase).0 in
      let row = sound.rows (i - 1) (omega arith) in
      let clock = own-clock turn in
      let asked = asked-more sound kept message clock i gathered pair r in
      bears-carried m message.to.0 _ sent.0 c.to-first c.to_last sent.1 sent.2
      (update-sent message.to.0 (row_of s i).register (clock_then s message) _ m row.register-first row.register-last (own-rid turn)
      i (rw turn.rows)
      (newer gathered.best pair) sent.0 (own-phase turn) (omega (arith, asked.serves.early)) asked.serves.source)
