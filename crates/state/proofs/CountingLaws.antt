-- The four counters of a state are the sums over its run, and what was sent is delivered, lost or in flight.
use Prim.Native.Nat.{ℕ, ◌+◌, ◌<◌}
use Rattle.std.specs.Prelude.{◌≡◌, Bool, true, false, cond, ◌&&◌, List, [], ◌∷◌, eqb, leb, length, Some, Option, None}
use Rattle.std.proofs.Math.Path.{refl}
use Rattle.std.proofs.Common.{sym, ap, ◌∙◌, arith, length-append}
use Rattle.std.proofs.Math.Seq.{take-length}
use Rattle.words.specs.declared.Body.{Body}
use Rattle.words.specs.declared.Body.TheVariants.{Query, Response, Update, Ack}
use Rattle.words.specs.declared.Message.{Message}
use Rattle.words.specs.declared.Pair.{Pair}
use Rattle.words.specs.Quorum.{joined, counted}
use Rattle.replica.specs.Answer.{Answer}
use Rattle.replica.specs.declared.Gathered.{Gathered}
use Rattle.replica.specs.declared.Phase.{Phase}
use Rattle.replica.specs.declared.Phase.TheVariants.{Idle, Querying, Updating}
use Rattle.replica.specs.declared.Replica.{Replica}
use Rattle.replica.specs.Handlers.{read_rule, write_rule, query_rule, update_rule, crash_rule}
use Rattle.replica.specs.Handlers.{response_counts, response_counted, response_taken, response_rule, ack_counts, ack_counted, ack_taken, ack_rule}
use Rattle.replica.specs.Numbers.{sent_by}
use Rattle.tables.specs.declared.Row.{Row}
use Rattle.tables.specs.Tables.{seek, removed}
use Rattle.tables.specs.TableLaws.{seek-at}
use Rattle.state.specs.declared.Event.{Event}
use Rattle.state.specs.declared.Event.TheVariants.{Read, Write, Deliver, Crash}
use Rattle.state.specs.Needed.{needed}
use Rattle.state.specs.State.{State}
use Rattle.state.specs.Step.{moved, posted, asked_register, step}
use Rattle.state.specs.Reached.{Reached}
use Rattle.state.specs.Reached.Reached.{start, next}
use Rattle.state.specs.Follows.{Follows, read_of, write_of, crash_of, rule_by, rule_at, message_at, recipient_of, receiver_of}
use Rattle.state.specs.Follows.Follows.{reads, writes, delivers, crashes, loses}
use Rattle.state.proofs.FollowsLaws.{either_way, accepted-follows}
use Rattle.state.proofs.Refusals.{accepted-counts-once}
use Rattle.state.proofs.EveryLaws.{length_removed}
use Rattle.state.proofs.KeepsMoved.{posted-length}
use Rattle.state.specs.Counting.{Moment, Run, is_querying, makes_query_majority, sent_on_receipt, sent_on_found}
use Rattle.state.specs.Counting.{sent_at, delivered_at, lost_at, Counted, CountingRule}
use Rattle.state.specs.Counting.RunBy.{begun, then}

-- a message that was found is in the table
pub seek-within : (k i : ℕ) (xs : List Message) → seek k 0 xs ≡ Some i → i < length xs
seek-within k i xs e = (seek-at k (length xs) i xs (sym (ap (seek k 0) (take-length xs) ∙ e))).0

-- ---- what a rule sends is what document 01 says

ap-cond : {A B : Type 0} (f : A → B) (b : Bool) (x y : A) → f (cond b x y) ≡ cond b (f x) (f y)
ap-cond f true x y = refl
ap-cond f false x y = refl

module _ (s : State) (r : Replica) (message : Message) where
  abbrev n : ℕ
  n = s.n

  -- with the sender there are enough for this phase
  abbrev enough : Phase → Bool
  enough phase = leb (needed s phase) (counted (joined r.repliers message.from.0))

  response-sends : (x : ℕ) (pair : Pair)
      → sent_by n (response_rule r n x message.from message.time message.rid pair).sends ≡ cond (makes_query_majority s r message) n 0
  unfolding response_rule response_counted
  response-sends x pair = by-phase r.phase
    where
      sent_if : Option (ℕ × Gathered) → ℕ
      sent_if counts = sent_by n (response_taken counts r n x message.from message.time pair).sends

      by_number : (row : ℕ) (gathered : Gathered) (same : Bool) → sent_if (cond same (Some (row, gathered)) None) ≡ cond (same && enough (Querying row gathered)) n 0
      by_number row gathered true = ap-cond (λ (a : Answer). sent_by n a.sends) (enough (Querying row gathered)) _ _
      by_number row gathered false = refl

      by-phase : (phase : Phase)
          → sent_if (response_counts phase r.rid message.rid) ≡ cond (is_querying phase && eqb message.rid.0 r.rid.0 && enough phase) n 0
      by-phase Idle = refl
      by-phase (Querying row gathered) = by_number row gathered (eqb message.rid.0 r.rid.0)
      by-phase (Updating row sent) = refl

  ack-sends : sent_by n (ack_rule r n message.from message.time message.rid).sends ≡ 0
  unfolding ack_rule ack_counted
  ack-sends = by_count (ack_counts r.phase r.rid message.rid)
    where
      by_count : (counts : Option (ℕ × Pair)) → sent_by n (ack_taken counts r n message.from message.time).sends ≡ 0
      by_count None = refl
      by_count (Some waiting) = either_way (λ (a : Answer). sent_by n a.sends ≡ 0) (enough (Updating waiting.0 waiting.1)) _ _ refl refl

receipt-sends : (s : State) (r : Replica) (message : Message) (body : Body)
    → sent_by s.n (rule_by s r message body).sends ≡ sent_on_receipt s r message body
unfolding query_rule update_rule
receipt-sends s r message (Query x) = refl
receipt-sends s r message (Response pair) = response-sends s r message (asked_register s r.phase) pair
receipt-sends s r message (Update x pair) = refl
receipt-sends s r message Ack = ack-sends s r message

-- ---- one event

record Tallied (s : State) (e : Event) (t : State) : Type 0 where
  sent : t.sent ≡ s.sent + sent_at s e
  delivered : t.delivered ≡ s.delivered + delivered_at e
  lost : t.lost ≡ s.lost + lost_at e
  flight : length t.flight + delivered_at e + lost_at e ≡ length s.flight + sent_at s e

-- p's answer sends what it is to send, and the list it is appended to lacks the message that was delivered, if one was
moved-tallied : (s : State) (e : Event) (p : ℕ) (answer : Answer) (flight : List Message) (delivered : ℕ) (rows : List Row)
    → sent_by s.n answer.sends ≡ sent_at s e → delivered ≡ s.delivered + delivered_at e → lost_at e ≡ 0
    → length flight + delivered_at e ≡ length s.flight
    → Tallied s e (moved s p answer flight delivered rows)
moved-tallied s e p answer flight delivered rows h l m n =
    omega (arith, length-append flight (posted s p answer.sends), posted-length s p answer.sends)

follows-tallied : {s t : State} {e : Event} → Follows s e t → Tallied s e t
unfolding read_rule write_rule crash_rule
follows-tallied {s} (reads p x) = moved-tallied s (Read p x) p.0 (read_of s p x) s.flight s.delivered _ refl (omega arith) refl (omega arith)
follows-tallied {s} (writes p x value) =
    moved-tallied s (Write p x value) p.0 (write_of s p x value) s.flight s.delivered _ refl (omega arith) refl (omega arith)
follows-tallied {s} (delivers k i f) =
    moved-tallied s (Deliver k) (recipient_of s i) (rule_at s i) (removed i s.flight) _ _
    (receipt-sends s (receiver_of s i) (message_at s i) (message_at s i).body ∙ sym (ap (sent_on_found s) f)) refl refl
    (length_removed i s.flight (seek-within k i s.flight f))
follows-tallied {s} (crashes p) = moved-tallied s (Crash p) p.0 (crash_of s p) s.flight s.delivered _ refl (omega arith) refl (omega arith)
follows-tallied {s} (loses k i f) = omega (arith, length_removed i s.flight (seek-within k i s.flight f))

-- ---- a run

pub run-counted : CountingRule step
run-counted s run (begun n m f g) = record { accepted = refl; sent = refl; delivered = refl; lost = refl; balance = refl }
run-counted t longer (then s e run r z) = continued (run-counted s run r) (accepted-counts-once s e z) (follows-tallied (accepted-follows s e z))
  where
    continued : {t : State} → Counted s run → t.accepted ≡ s.accepted + 1 → Tallied s e t → Counted t (record { before = s; event = e } ∷ run)
    continued c once d = omega arith

-- the states of runs are the states reached
pub reached-run : {s : State} → Reached s → (run : List Moment) × Run s run
reached-run (start n m f g) = ([], begun n m f g)
reached-run (next s e r z) = let (run, q) = reached-run r in (record { before = s; event = e } ∷ run, then s e run q z)

pub run-reached : {s : State} {run : List Moment} → Run s run → Reached s
run-reached (begun n m f g) = start n m f g
run-reached (then s e run r z) = next s e (run-reached r) z
