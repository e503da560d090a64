-- What every move makes of the exchanges.
use Rattle.std.specs.Prelude.{ℕ, ◌+◌, ◌<◌, ◌≡◌, refl, ◌≢◌, Bool, true, false, cond, ◌||◌, List, [], ◌∷◌, length, Some}
use Rattle.std.proofs.Common.{sym, ap, subst, ◌∙◌, arith}
use Rattle.std.proofs.Math.Bool.{or_comm}
use Rattle.std.proofs.Math.Decide.{ℕ_discrete}
use Rattle.words.specs.declared.Body.{Body}
use Rattle.words.specs.declared.Message.{Message}
use Rattle.words.specs.declared.Pair.{Pair}
use Rattle.words.specs.Quorum.{member}
use Rattle.words.specs.QuorumLaws.{joined-has}
use Rattle.words.specs.Stamps.{newer}
use Rattle.replica.specs.declared.Phase.{Phase}
use Rattle.replica.specs.declared.Phase.TheVariants.{Idle}
use Rattle.replica.specs.declared.Sends.{Sends}
use Rattle.replica.specs.declared.Sends.TheVariants.{Nothing}
use Rattle.replica.specs.Handlers.{letter}
use Rattle.tables.specs.declared.Row.{Row}
use Rattle.tables.specs.Tables.{empty_message, seek, removed}
use Rattle.state.specs.declared.Event.{Event}
use Rattle.state.specs.State.{State, replica_of, row_of}
use Rattle.state.specs.Step.{message_of, without_message}
use Rattle.state.specs.Accepted.{message_at, recipient_at}
use Rattle.moves.specs.Effect.{Effect, After}
use Rattle.moves.specs.Effect.Effect.{kept, lost}
use Rattle.moves.specs.Lists.{one, All, all-removed, count_if, count-removed}
use Rattle.moves.specs.Move.{Begins, beginning, asking, begun, Delivers, Discarded, clock_then, repliers_then}
use Rattle.moves.specs.Move.{hearing, counting, ending, replying, telling, arrived, down_now, Move}
use Rattle.moves.specs.Move.Move.{reads, writes, responds, stores, discards, counts, chooses, gathers, completes, crashes, loses}
use Rattle.moves.specs.OfLaws.{of-asker, of-asked, of-rid, of_none, reply-asker, reply-asked, joined-other}
use Rattle.moves.specs.Placed.{Ends, Placed}
use Rattle.moves.proofs.PlacedLaws.{found_inside, ends_at}
use Rattle.moves.specs.PresentLaws.{known_at, present-stage, own-reply, not-counted}
use Rattle.moves.specs.RequestNumbers.{is_of, exchanged, Known, Numbered}
use Rattle.moves.specs.Stages.{is_reply, asker, stage_of, stage_for}
use Rattle.moves.specs.TurnLaws.{Left, Next, goes_on, stays_on}

-- ---- an operation begins

begun-after : (s : State) → Placed s → Numbered s → (p x : ℕ) → Begins s p x → (phase : Phase) (request : Body) (row : Row)
    → is_reply request ≡ false → stage_of phase ≡ stage_for request → After s (begun s p phase request row)
begun-after s w n p x b phase request row e f =
    goes_on s w p b.actor (beginning s p phase) (asking s p request) s.flight s.delivered _
    (record { known = n.timely; others = λ q j k g. refl }) refl ((w.sets p b.actor).empty b.idle) (λ g. g) (e, refl, f)

-- what is known of a message is known by its asker, its number and its phase alone
known_alike : (t : State) (m k : Message) → asker k ≡ asker m → k.rid.0 ≡ m.rid.0 → stage_for k.body ≡ stage_for m.body → Known t m → Known t k
known_alike t m k a e f h = (
  omega (arith, h.0),
  rw a (record { reached = omega (arith, h.1.reached); present = λ g. h.1.present (sym e ∙ g) ∙ sym f }),
)

-- ---- the message at place i is delivered

module _ (s : State) (w : Placed s) (n : Numbered s) (k i count : ℕ) (d : Delivers s k i count) where
  inside : i < length s.flight
  inside = found_inside s k i d.found

  between : Ends s.n (message_at s i)
  between = ends_at s w k i d.found

  rest-known : All (Known s) (removed i s.flight)
  rest-known = all-removed (Known s) i s.flight n.timely

  without : (q j rid : ℕ) → count_if (is_of q j rid) (removed i s.flight) + one (is_of q j rid (message_at s i)) ≡ count_if (is_of q j rid) s.flight
  without q j rid = count-removed (is_of q j rid) s.flight empty_message i inside

  untouched : (q j rid : ℕ) → (is_of q j rid (message_at s i) ≡ true → ⊥) → count_if (is_of q j rid) (removed i s.flight) ≡ count_if (is_of q j rid) s.flight
  untouched q j rid f =
      let none : one (is_of q j rid (message_at s i)) ≡ 0 = ap one (of_none q j rid (message_at s i) f) in
      omega (arith, without q j rid)

  -- a request, and the reply to it in its place
  replied-after : (pairs : List Pair) (body : Body) → is_reply (message_at s i).body ≡ false → is_reply body ≡ true
      → stage_for body ≡ stage_for (message_at s i).body → After s (arrived s i (hearing s i pairs) (replying s i body) s.rows)
  replied-after pairs body request reply for =
      stays_on s w (message_at s i).to.0 between.recipient (hearing s i pairs) (replying s i body) (removed i s.flight) (s.delivered + 1) s.rows
      refl refl (λ e. e) rest-known
      (λ keep. (known_alike after (message_at s i) new (rw (request, reply) refl) refl for (keep (message_at s i) (known_at s n i inside)), tt))
      (λ j. omega (arith, counts (message_at s i).to.0 j (recipient_at s i).rid.0))
      (λ q j rid g. counts q j rid)
    where
      after : State
      after = arrived s i (hearing s i pairs) (replying s i body) s.rows

      new : Message
      new = message_of (s.sent + 1) (message_at s i).to.0 (message_at s i).from.0 (letter (clock_then s i) (message_at s i).rid.0 body)

      counts : (q j rid : ℕ) → count_if (is_of q j rid) (removed i s.flight) + count_if (is_of q j rid) (new ∷ []) ≡ count_if (is_of q j rid) s.flight
      counts q j rid =
          let same : one (is_of q j rid new) ≡ one (is_of q j rid (message_at s i)) = rw (request, reply) refl in
          omega (arith, without q j rid)

  module _ (reply : is_reply (message_at s i).body ≡ true) where
    to-recipient : (q j rid : ℕ) → q ≢ (message_at s i).to.0 → is_of q j rid (message_at s i) ≡ true → ⊥
    to-recipient q j rid f o = f (sym (of-asker q j rid (message_at s i) o) ∙ reply-asker (message_at s i) reply)

    rest-left : Left s (message_at s i).to.0 (removed i s.flight)
    rest-left = record { known = rest-known; others = λ q j rid f. untouched q j rid (to-recipient q j rid f) }

    -- it does not count: it is of no exchange of the present number
    discarded-after : Discarded s i → After s (arrived s i (recipient_at s i) Nothing s.rows)
    discarded-after c =
        stays_on s w (message_at s i).to.0 between.recipient (recipient_at s i) Nothing (removed i s.flight) (s.delivered + 1) s.rows refl refl
        (λ e. e) rest-known (λ keep. tt)
        (λ j. omega (
          arith,
          untouched (message_at s i).to.0 j (recipient_at s i).rid.0 λ o.
              let present = of-rid (message_at s i).to.0 j (recipient_at s i).rid.0 (message_at s i) o in
              c.another (present-stage s n i inside _ refl reply present) present,
        ))
        (λ q j rid f. omega (arith, rest-left.others q j rid f))

    -- it counts, and more are needed: the exchange with its sender is from now on a counted reply
    counted-after : (phase : Phase) → (message_at s i).rid.0 ≡ (recipient_at s i).rid.0 → stage_of phase ≡ stage_of (recipient_at s i).phase
        → After s (arrived s i (counting s i phase) Nothing s.rows)
    counted-after phase present stage =
        stays_on s w a between.recipient (counting s i phase) Nothing (removed i s.flight) (s.delivered + 1) s.rows refl stage
        (λ e. e) rest-known (λ keep. tt) mine
        (λ q j rid f. omega (arith, rest-left.others q j rid f))
      where
        a : ℕ
        a = (message_at s i).to.0

        sender : count_if (is_of a (message_at s i).from.0 (recipient_at s i).rid.0) (removed i s.flight) + 0
            + one (member (repliers_then s i) (message_at s i).from.0) ≡ exchanged s a (message_at s i).from.0
        sender =
            let one_less = rw (own-reply s n i inside _ refl reply present) at (without a (message_at s i).from.0 (recipient_at s i).rid.0) in
            let before : one (member (recipient_at s i).repliers (message_at s i).from.0) ≡ 0
            = ap one (not-counted s n i inside _ refl reply present between.recipient.least) in
            let now : one (member (repliers_then s i) (message_at s i).from.0) ≡ 1
            = ap one (joined-has (recipient_at s i).repliers (message_at s i).from.0 (omega (arith, between.sender.most, w.processes.most))) in
            omega arith

        mine : (j : ℕ) → count_if (is_of a j (recipient_at s i).rid.0) (removed i s.flight) + 0 + one (member (repliers_then s i) j) ≡ exchanged s a j
        mine j =
            elim (ℕ_discrete (message_at s i).from.0 j) [
              | yes e ↦
                  subst
                  (λ k. count_if (is_of a k (recipient_at s i).rid.0) (removed i s.flight) + 0 + one (member (repliers_then s i) k) ≡ exchanged s a k)
                  e sender
              | no f ↦
                  let old = untouched a j (recipient_at s i).rid.0 λ o.
                  f (sym (reply-asked (message_at s i) reply) ∙ of-asked a j (recipient_at s i).rid.0 (message_at s i) o) in
                  let set : one (member (repliers_then s i) j) ≡ one (member (recipient_at s i).repliers j)
                  = ap one (joined-other (recipient_at s i).repliers (message_at s i).from.0 j f) in
                  omega arith
            ]

    -- it ends the phase
    ended-after : (phase : Phase) (sends : Sends) (rows : List Row) → Next (ending s i phase) sends → After s (arrived s i (ending s i phase) sends rows)
    ended-after phase sends rows ok =
        goes_on s w (message_at s i).to.0 between.recipient (ending s i phase) sends (removed i s.flight) (s.delivered + 1) rows
        rest-left refl refl (λ e. e) ok

-- ---- a message is lost: one end of its exchange is down

lost-after : (s : State) → Placed s → Numbered s → (k i : ℕ) → seek k 0 s.flight ≡ Some i
    → ((replica_of s (message_at s i).from.0).crashed || (recipient_at s i).crashed) ≡ true → After s (without_message s i)
lost-after s w n k i found down =
    record {
      processes = refl;
      down = λ p l e. e;
      timely = all-removed (Known s) i s.flight n.timely;
      effect = λ p j l. by p j (is_of p j (replica_of s p).rid.0 (message_at s i)) refl;
    }
  where
    less : (p j : ℕ) → count_if (is_of p j (replica_of s p).rid.0) (removed i s.flight) + one (is_of p j (replica_of s p).rid.0 (message_at s i))
        ≡ count_if (is_of p j (replica_of s p).rid.0) s.flight
    less p j = count-removed (is_of p j (replica_of s p).rid.0) s.flight empty_message i (found_inside s k i found)

    either_end : (reply : Bool) (from to : ℕ) → ((replica_of s from).crashed || (replica_of s to).crashed) ≡ true
        → ((replica_of s (cond reply to from)).crashed || (replica_of s (cond reply from to)).crashed) ≡ true
    either_end true from to h = or_comm (replica_of s to).crashed (replica_of s from).crashed ∙ h
    either_end false from to h = h

    by : (p j : ℕ) (b : Bool) → is_of p j (replica_of s p).rid.0 (message_at s i) ≡ b → Effect s (without_message s i) p j
    by p j false e = kept (refl, refl) (omega (arith, rw e at (less p j)))
    by p j true e =
        lost (refl, refl)
        (subst (λ q. ((replica_of s q).crashed || (replica_of s j).crashed) ≡ true) (of-asker p j _ (message_at s i) e)
        (subst (λ q. ((replica_of s (asker (message_at s i))).crashed || (replica_of s q).crashed) ≡ true) (of-asked p j _ (message_at s i) e)
        (either_end (is_reply (message_at s i).body) (message_at s i).from.0 (message_at s i).to.0 down)))
        (omega (arith, less p j))

-- ---- every move

pub move-after : {s t : State} {e : Event} → Placed s → Numbered s → Move s e t → After s t
move-after {s} w n (reads p x b) = begun-after s w n p.0 x b _ _ _ refl refl
move-after {s} w n (writes p x value b) = begun-after s w n p.0 x b _ _ _ refl refl
move-after {s} w n (responds k i x d e) = replied-after s w n k i 1 d _ _ (ap is_reply e) refl (sym (ap stage_for e))
move-after {s} w n (stores k i x pair d e) = replied-after s w n k i 1 d _ _ (ap is_reply e) refl (sym (ap stage_for e))
move-after {s} w n (discards k i d c) = discarded-after s w n k i 0 d c.reply c
move-after {s} w n (counts k i row gathered pair d c l) =
    counted-after s w n k i 0 d (ap is_reply c.body) _ c.present (sym (ap stage_of c.phase))
move-after {s} w n (chooses k i row gathered pair d c l) =
    ended-after s w n k i s.n d (ap is_reply c.body) _ (telling s i (row_of s row).register (newer gathered.best pair)) _ (refl, refl, refl)
move-after {s} w n (gathers k i row sent d c l) =
    counted-after s w n k i 0 d (ap is_reply c.body) _ c.present (sym (ap stage_of c.phase))
move-after {s} w n (completes k i row sent d c l) = ended-after s w n k i 0 d (ap is_reply c.body) Idle Nothing _ refl
move-after {s} w n (crashes p a up) =
    stays_on s w p.0 a (down_now (replica_of s p.0)) Nothing s.flight s.delivered s.rows refl refl (λ e. up) n.timely (λ keep. tt)
    (λ j. omega arith) (λ q j k f. omega arith)
move-after {s} w n (loses k i f down) = lost-after s w n k i f down
