-- The exchange both ways, in every state reached, the limit of events set aside or not: a loss takes only messages of crashed processes, a request to a
-- live process is answered or still in flight, a reply is counted or in flight.
use Rattle.std.specs.Prelude.{ℕ, suc, ◌≤◌, ◌<◌, ◌≡◌, refl, Bool, true, false, List, [], ◌∷◌, length, get_or}
use Rattle.std.proofs.Common.{sym, ap, ◌∙◌, true≢false, arith}
use Rattle.std.proofs.lemmas.Bool.{false≢true, not-true}
use Rattle.words.specs.declared.Message.{Message}
use Rattle.words.specs.Quorum.{member}
use Rattle.replica.specs.declared.Phase.{Phase}
use Rattle.replica.specs.declared.Phase.TheVariants.{Idle, Querying, Updating}
use Rattle.replica.specs.Handlers.{is_idle}
use Rattle.tables.specs.Tables.{empty_message}
use Rattle.state.specs.declared.Event.{Event}
use Rattle.state.specs.State.{State, replica_of, fresh}
use Rattle.state.specs.Accepted.{message_at}
use Rattle.state.specs.Reached.{Reached}
use Rattle.moves.specs.CountLaws.{many_more, counted-many}
use Rattle.moves.specs.Effect.{Effect, After}
use Rattle.moves.specs.Effect.Effect.{kept, asked, ended, lost}
use Rattle.moves.proofs.EffectLaws.{move-after}
use Rattle.moves.specs.Exchange.{Live, Waits, Exchanging, Flies, Stands, is_up, up_count}
use Rattle.moves.specs.Exchange.Stands.{counted, replied, requested}
use Rattle.moves.specs.Free.{FreelyReached}
use Rattle.moves.proofs.FreeLaws.{freely-kept, reached-freely}
use Rattle.moves.specs.Lists.{one, all-at, count_if}
use Rattle.moves.specs.Move.{Move}
use Rattle.state.specs.Needed.{needed}
use Rattle.moves.specs.OfLaws.{of-asker, of-asked, of-rid, request-asker, request-asked, reply-asker, reply-asked}
use Rattle.moves.specs.Placed.{Placed}
use Rattle.moves.proofs.PlacedLaws.{freely-placed}
use Rattle.moves.specs.Places.{fresh-replica}
use Rattle.moves.specs.RequestNumbers.{Timely, is_of, exchanged, Known, Numbered}
use Rattle.moves.proofs.RequestNumberLaws.{freely-numbered}
use Rattle.moves.specs.Stages.{Stage, is_reply, stage_of}

resting : Stage → Bool
resting Stage.idle = true
resting Stage.querying = false
resting Stage.updating = false

-- idle or not is said by the stage
idle-stage : (phase : Phase) → is_idle phase ≡ resting (stage_of phase)
unfolding resting
idle-stage Idle = refl
idle-stage (Querying row gathered) = refl
idle-stage (Updating row sent) = refl

after-exchanging : {s t : State} → Exchanging s → After s t → Exchanging t
after-exchanging {s} {t} x a p j w l = by (a.effect p j w.live.process.least)
  where
    before : (q : ℕ) → Live t q → Live s q
    before q h =
        let most = h.process.most in
        record {
          process = record { least = h.process.least; most = omega (arith, a.processes) };
          up = a.down q h.process.least h.up;
        }

    by : Effect s t p j → exchanged t p j ≡ 1
    by (kept stays e) =
        let busy : is_idle (replica_of s p).phase ≡ false
        = idle-stage (replica_of s p).phase ∙ ap resting (sym stays.1) ∙ sym (idle-stage (replica_of t p).phase) ∙ w.busy in
        e ∙ x p j (record { live = before p w.live; busy = busy }) (before j l)
    by (asked on most one) = one (before j l).process
    by (ended on idle e) = absurd (true≢false (ap is_idle (sym idle) ∙ w.busy))
    by (lost stays down fewer) = absurd (false≢true (rw ((before p w.live).up, (before j l).up) at down))

pub move-exchanging : {s t : State} {e : Event} → Placed s → Numbered s → Exchanging s → Move s e t → Exchanging t
move-exchanging w n x move = after-exchanging x (move-after w n move)

fresh-exchanging : (n m : ℕ) → Exchanging (fresh n m)
fresh-exchanging n m p j w l = absurd (true≢false (ap (λ r. is_idle r.phase) (sym (fresh-replica n m p)) ∙ w.busy))

pub freely-exchanging : {s : State} → FreelyReached s → Exchanging s
freely-exchanging =
    freely-kept Exchanging (λ n m e f. fresh-exchanging n m) (λ s e t r x move. move-exchanging (freely-placed r) (freely-numbered r) x move)

pub reached-exchanging : (s : State) → Reached s → Exchanging s
reached-exchanging s r = freely-exchanging (reached-freely r)

-- while a process is at one number, nothing new comes into its exchanges
pub move-shrinks : {s t : State} {e : Event} → Placed s → Numbered s → Move s e t → (p j : ℕ) → 1 ≤ p → (replica_of t p).rid.0 ≡ (replica_of s p).rid.0
    → exchanged t p j ≤ exchanged s p j
move-shrinks {s} {t} w n move p j l same = by ((move-after w n move).effect p j l)
  where
    by : Effect s t p j → exchanged t p j ≤ exchanged s p j
    by (kept stays e) = omega arith
    by (asked on most one) = absurd (omega arith)
    by (ended on idle e) = absurd (omega arith)
    by (lost stays down fewer) = fewer

-- ---- how it stands

count-some : {A : Type 0} (f : A → Bool) (xs : List A) (d : A) → 1 ≤ count_if f xs → (i : ℕ) × (i < length xs) × (f (get_or xs i d) ≡ true)
count-some f [] d l = absurd (omega arith)
count-some f (x ∷ xs) d l = by (f x) refl (count-some f xs d)
  where
    by : (b : Bool) → f x ≡ b → (1 ≤ count_if f xs → (i : ℕ) × (i < length xs) × (f (get_or xs i d) ≡ true))
        → (i : ℕ) × (i < length (x ∷ xs)) × (f (get_or (x ∷ xs) i d) ≡ true)
    by true e later = (0, omega arith, e)
    by false e later = let r = later (omega (arith, ap one e)) in (suc r.0, omega arith, r.2)

module _ (s : State) (n : Numbered s) (p j i : ℕ) (inside : i < length s.flight) (o : is_of p j (replica_of s p).rid.0 (message_at s i) ≡ true) where
  known : Timely (replica_of s p) (message_at s i)
  known = rw (of-asker p j _ (message_at s i) o) at (all-at (Known s) s.flight empty_message i inside n.timely).1

  flies : (from to : ℕ) → (message_at s i).from.0 ≡ from → (message_at s i).to.0 ≡ to → Flies s p i from to
  flies from to e f =
      let present = of-rid p j _ (message_at s i) o in
      record { inside = inside; sender = e; recipient = f; present = present; stage = known.present present }

  -- a message of the exchange is the reply or the request
  in-flight : Stands s p j
  in-flight = by (is_reply (message_at s i).body) refl
    where
      m : Message
      m = message_at s i

      by : (b : Bool) → is_reply m.body ≡ b → Stands s p j
      by true e =
          replied i (flies j p (sym (reply-asked m e) ∙ of-asked p j _ m o) (sym (reply-asker m e) ∙ of-asker p j _ m o)) e
      by false e =
          requested i (flies p j (sym (request-asker m e) ∙ of-asker p j _ m o) (sym (request-asked m e) ∙ of-asked p j _ m o)) e

module _ (s : State) (x : Exchanging s) (p j : ℕ) (w : Waits s p) (l : Live s j) where
  -- counted, or a reply in flight, or a request in flight; and no second one, by `Numbered`
  pub stands : Numbered s → Stands s p j
  stands n = by (member (replica_of s p).repliers j) refl
    where
      by : (b : Bool) → member (replica_of s p).repliers j ≡ b → Stands s p j
      by true e = counted e
      by false e =
          let some = count-some (is_of p j (replica_of s p).rid.0) s.flight empty_message (omega (arith, x p j w l, ap one e)) in
          in-flight s n p j some.0 some.1 some.2

  -- with nothing in flight it is counted
  pub silent-counted : s.flight ≡ [] → member (replica_of s p).repliers j ≡ true
  silent-counted e = by (member (replica_of s p).repliers j) refl
    where
      by : (b : Bool) → member (replica_of s p).repliers j ≡ b → b ≡ true
      by true f = refl
      by false f = absurd (omega (arith, x p j w l, ap one f, ap (count_if (is_of p j (replica_of s p).rid.0)) e))

-- so with nothing in flight fewer are up than a process that waits needs
pub silent-few : (s : State) → Placed s → Exchanging s → s.flight ≡ [] → (p : ℕ) → Waits s p → up_count s < needed s (replica_of s p).phase
silent-few s w x e p h =
    let mine = w.sets p h.live.process in
    let more = many_more (is_up s) (member (replica_of s p).repliers) 1 s.n λ q a b u.
    silent-counted s x p q h (record { process = record { least = a; most = omega arith }; up = not-true _ u }) e in
    omega (arith, mine.few, counted-many s.n (replica_of s p).repliers w.processes.most mine.inside)
