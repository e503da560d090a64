-- Document 01: "Each accepted event adds at most 1 to the greatest among the clocks and the times of messages in flight, so no clock passes the
-- count of accepted events."
use Rattle.std.specs.Prelude.{ℕ, zero, suc, ◌+◌, ◌-◌, ◌≤◌, ◌≡◌, List, [], ◌∷◌, ◌++◌, get_or, set}
use Rattle.std.proofs.Common.{arith}
use Rattle.words.specs.declared.Body.{Body}
use Rattle.words.specs.declared.Body.TheVariants.{Response, Ack}
use Rattle.words.specs.declared.Message.{Message}
use Rattle.words.specs.Stamps.{newer}
use Rattle.replica.specs.declared.Ended.TheVariants.{Pending}
use Rattle.replica.specs.declared.Phase.{Phase}
use Rattle.replica.specs.declared.Replica.{Replica}
use Rattle.replica.specs.declared.Sends.{Sends}
use Rattle.replica.specs.declared.Sends.TheVariants.{Nothing, Reply, Broadcast}
use Rattle.replica.specs.ClockLaws.{after-least}
use Rattle.replica.specs.Handlers.{stored}
use Rattle.replica.specs.Answer.{accepted}
use Rattle.tables.specs.Tables.{empty_message, empty_row, removed, copies, following}
use Rattle.state.specs.declared.Event.{Event}
use Rattle.state.specs.State.{State, fresh_replica, replica_of, row_of}
use Rattle.state.specs.Step.{step, moved, posted}
use Rattle.state.specs.Accepted.{message_at, recipient_at}
use Rattle.state.specs.Reached.{Reached}
use Rattle.state.specs.Reached.Reached.{start, next}
use Rattle.state.proofs.Refusals.{accepted-counts-once}
use Rattle.state.specs.ClockGrowth.{greatest_of, clock_of, time_of, greatest}
use Rattle.moves.specs.Move.{beginning, asking, begun, clock_then, replying, telling, arrived, down_now, Move}
use Rattle.moves.specs.Move.Move.{reads, writes, responds, stores, discards, counts, chooses, gathers, completes, crashes, loses}
use Rattle.moves.proofs.MoveLaws.{moves}

-- ---- a bound of a list's numbers bounds what is taken from it, and what is made of it with elements that it bounds

module _ {A : Type 0} (number : A → ℕ) (bound : ℕ) where
  get_or-below : (xs : List A) (i : ℕ) (d : A) → greatest_of number xs ≤ bound → number d ≤ bound → number (get_or xs i d) ≤ bound
  get_or-below [] i d h l = l
  get_or-below (x ∷ xs) zero d h l = omega arith
  get_or-below (x ∷ xs) (suc i) d h l = get_or-below xs i d (omega arith) l

  set_below : (xs : List A) (i : ℕ) (a : A) → greatest_of number xs ≤ bound → number a ≤ bound → greatest_of number (set xs i a) ≤ bound
  set_below [] i a h l = h
  set_below (x ∷ xs) zero a h l = omega arith
  set_below (x ∷ xs) (suc i) a h l = let rest = set_below xs i a (omega arith) l in omega arith

  append-below : (xs ys : List A) → greatest_of number xs ≤ bound → greatest_of number ys ≤ bound → greatest_of number (xs ++ ys) ≤ bound
  append-below [] ys h l = l
  append-below (x ∷ xs) ys h l = let rest = append-below xs ys (omega arith) l in omega arith

  removed-below : (i : ℕ) (xs : List A) → greatest_of number xs ≤ bound → greatest_of number (removed i xs) ≤ bound
  removed-below i [] h = h
  removed-below zero (x ∷ xs) h = omega arith
  removed-below (suc i) (x ∷ xs) h = let rest = removed-below i xs (omega arith) in omega arith

copies-below : (bound : ℕ) (message : Message) (count : ℕ) → message.time.0 ≤ bound → greatest_of time_of (copies message count) ≤ bound
copies-below bound message zero h = omega arith
copies-below bound message (suc count) h = let rest = copies-below bound (following message) count h in omega arith

-- ---- one turn: what the process becomes, and what it sends, is one later at most

abbrev sending_time : Sends → ℕ
sending_time Nothing = 0
sending_time (Reply to letter) = letter.time.0
sending_time (Broadcast letter) = letter.time.0

posted-below : (bound : ℕ) (s : State) (p : ℕ) (sends : Sends) → sending_time sends ≤ bound → greatest_of time_of (posted s p sends) ≤ bound
posted-below bound s p Nothing h = h
posted-below bound s p (Reply to letter) h = omega arith
posted-below bound s p (Broadcast letter) h = copies-below bound _ s.n h

module _ (s : State) where
  own_below : (p : ℕ) → (replica_of s p).clock.0 ≤ greatest s
  own_below p = get_or-below clock_of (greatest s) s.replicas (p - 1) fresh_replica (omega arith) (omega arith)

  -- a receipt is one later than the later of its process and its message
  receipt-below : (i : ℕ) → clock_then s i ≤ greatest s + 1
  receipt-below i =
      after-least (own_below (message_at s i).to.0) (get_or-below time_of (greatest s) s.flight i empty_message (omega arith) (omega arith))

  -- the count delivered and the rows do not matter
  turned-below : (p : ℕ) (r : Replica) (sends : Sends) (flight : List Message)
      → r.clock.0 ≤ greatest s + 1 → sending_time sends ≤ greatest s + 1 → greatest_of time_of flight ≤ greatest s + 1
      → greatest (moved s p (accepted r sends Pending) flight s.delivered s.rows) ≤ greatest s + 1
  turned-below p r sends flight a b l =
      let clocks = set_below clock_of (greatest s + 1) s.replicas (p - 1) r (omega arith) a in
      let times = append-below time_of (greatest s + 1) flight (posted s p sends) l (posted-below (greatest s + 1) s p sends b) in
      omega arith

  begun-below : (p : ℕ) (phase : Phase) (request : Body) → greatest (begun s p phase request empty_row) ≤ greatest s + 1
  begun-below p phase request =
      let own = own_below p in
      turned-below p (beginning s p phase) (asking s p request) s.flight (omega arith) (omega arith) (omega arith)

  received-below : (i : ℕ) (r : Replica) (sends : Sends) → r.clock.0 ≤ greatest s + 1 → sending_time sends ≤ greatest s + 1
      → greatest (arrived s i r sends s.rows) ≤ greatest s + 1
  received-below i r sends a b =
      turned-below (message_at s i).to.0 r sends (removed i s.flight) a b
      (removed-below time_of (greatest s + 1) i s.flight (omega arith))

-- ---- every move

move-grows : {s t : State} {e : Event} → Move s e t → greatest t ≤ greatest s + 1
move-grows {s} (reads p x b) = begun-below s p.0 _ _
move-grows {s} (writes p x value b) = begun-below s p.0 _ _
move-grows {s} (responds k i x d e) = received-below s i _ (replying s i (Response (stored (recipient_at s i) x))) (receipt-below s i) (receipt-below s i)
move-grows {s} (stores k i x pair d e) = received-below s i _ (replying s i Ack) (receipt-below s i) (receipt-below s i)
move-grows {s} (discards k i d c) = received-below s i _ Nothing (let own = own_below s (message_at s i).to.0 in omega arith) (omega arith)
move-grows {s} (counts k i row gathered pair d c l) = received-below s i _ Nothing (receipt-below s i) (omega arith)
move-grows {s} (chooses k i row gathered pair d c l) =
    received-below s i _ (telling s i (row_of s row).register (newer gathered.best pair)) (receipt-below s i) (receipt-below s i)
move-grows {s} (gathers k i row sent d c l) = received-below s i _ Nothing (receipt-below s i) (omega arith)
move-grows {s} (completes k i row sent d c l) = received-below s i _ Nothing (receipt-below s i) (omega arith)
move-grows {s} (crashes p a up) =
    let own = own_below s p.0 in
    turned-below s p.0 (down_now (replica_of s p.0)) Nothing s.flight (omega arith) (omega arith) (omega arith)
move-grows {s} (loses k i f down) =
    let times = removed-below time_of (greatest s) i s.flight (omega arith) in
    omega arith

pub grows-by-one : (s : State) (e : Event) → (step s e).refusal ≡ 0 → greatest (step s e).state ≤ greatest s + 1
grows-by-one s e z = move-grows (moves s e z)

-- ---- the states reached

pub reached-greatest : {s : State} → Reached s → greatest s ≤ s.accepted
reached-greatest (start n m f g) = omega arith
reached-greatest (next s e r z) =
    let before = reached-greatest r in
    omega (arith, grows-by-one s e z, accepted-counts-once s e z)

pub clock-within : {s : State} → Reached s → (p : ℕ) → (replica_of s p).clock.0 ≤ s.accepted
clock-within {s} r p = omega (arith, own_below s p, reached-greatest r)
