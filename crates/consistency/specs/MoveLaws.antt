-- Every accepted event is a move, of the states without their rows' sets: from a state with its seven replicas, whose messages in flight go to processes
-- 1 to 7.
use Rattle.std.specs.Prelude.{ℕ, zero, suc, ◌+◌, ◌-◌, ◌≤◌, ◌<◌, ◌≡◌, refl, length, get_or, set}
use Rattle.std.proofs.Common.{sym, ap, subst, ◌∙◌, inl, inr, arith, length-set, get_or-set_same, get_or-set_other}
use mathlib.Core.List.Memᴰ
use mathlib.Core.List.{List, [], ◌∷◌, ◌++◌, map, Memᴰ}
use Rattle.std.proofs.lemmas.List.{length-map}
use Rattle.words.specs.declared.Message.{Message}
use Rattle.words.specs.declared.Pair.{Pair}
use Rattle.words.specs.declared.Time.{Time}
use Rattle.words.specs.declared.Body.TheVariants.{Query, Response, Update, Ack as Acked}
use Rattle.words.specs.Stamps.{newer}
use Rattle.replica.specs.Answer.{Answer}
use Rattle.replica.specs.declared.Ended.TheVariants.{Pending}
use Rattle.replica.specs.declared.Gathered.{Gathered}
use Rattle.replica.specs.declared.Phase.TheVariants.{Idle, Querying, Updating}
use Rattle.replica.specs.declared.Replica.{Replica}
use Rattle.replica.specs.declared.Sends.{Sends}
use Rattle.replica.specs.declared.Sends.TheVariants.{Nothing, Reply, Broadcast}
use Rattle.replica.specs.Gathering.{nothing_gathered, gathered_with}
use Rattle.replica.specs.Handlers.{stored}
use Rattle.replica.specs.Answer.{accepted}
use Rattle.tables.specs.declared.Row.{Row}
use Rattle.tables.specs.Tables.{empty_message, removed, copies, following}
use Rattle.state.specs.declared.Event.{Event}
use Rattle.state.specs.State.{State, replica_of, row_of}
use Rattle.state.specs.Step.{step, read_row, write_row, queried_row, completed, moved, posted}
use Rattle.state.specs.Accepted.{message_at, recipient_at}
use Rattle.moves.specs.Move.{Move as EventMove, Begins, Delivers, Responds as Responding, Acks as Acking, beginning, asking, next_clock, written_by}
use Rattle.moves.specs.Move.{clock_then, repliers_then, hearing, counting as counting_by, ending, replying, telling, arrived, down_now}
use Rattle.moves.specs.Move.Move.{reads as reading, writes as writing, responds as responding, stores as storing, discards as discarding}
use Rattle.moves.specs.Move.Move.{counts as counting, chooses as choosing, gathers as gathering, completes as completing, crashes, loses}
use Rattle.moves.proofs.MoveLaws.{moves as event-moves}
use Rattle.moves.proofs.PlacedLaws.{found_inside}
use Rattle.consistency.specs.Unnamed.{unnamed, without_sets, row-unnamed, queried-unnamed, changed-unnamed, added-unnamed}
use Rattle.consistency.specs.Moves.{Sent, Turn, Ready, Move, Responds, Acks}
use Rattle.consistency.specs.Moves.Move.{rests, reads, writes, responds, stores, counts, chooses, gathers, completes}

-- ---- the messages of a turn

at-member : {A : Type 0} (xs : List A) (i : ℕ) (d : A) → i < length xs → Memᴰ (get_or xs i d) xs
at-member [] i d l = absurd (omega arith)
at-member (x ∷ xs) zero d l = Memᴰ.head refl
at-member (x ∷ xs) (suc i) d l = Memᴰ.tail (at-member xs i d (omega arith))

removed-member : {A : Type 0} {a : A} (i : ℕ) (xs : List A) → Memᴰ a (removed i xs) → Memᴰ a xs
removed-member i [] m = m
removed-member zero (x ∷ xs) m = Memᴰ.tail m
removed-member (suc i) (x ∷ xs) (Memᴰ.head e) = Memᴰ.head e
removed-member (suc i) (x ∷ xs) (Memᴰ.tail m) = Memᴰ.tail (removed-member i xs m)

-- a copy is the first message, to a later process
record Copy (first message : Message) (count : ℕ) : Type 0 where
  sender : message.from.0 ≡ first.from.0
  time : message.time.0 ≡ first.time.0
  rid : message.rid.0 ≡ first.rid.0
  body : message.body ≡ first.body
  least : first.to.0 ≤ message.to.0
  most : message.to.0 < first.to.0 + count

copy : (first message : Message) (count : ℕ) → Memᴰ message (copies first count) → Copy first message count
copy first message zero m = absurd (Memᴰ.not-nil m)
copy first message (suc count) (Memᴰ.head e) =
    record {
      sender = ap (λ (m : Message). m.from.0) e;
      time = ap (λ (m : Message). m.time.0) e;
      rid = ap (λ (m : Message). m.rid.0) e;
      body = ap (λ (m : Message). m.body) e;
      least = omega (arith, ap (λ (m : Message). m.to.0) e);
      most = omega (arith, ap (λ (m : Message). m.to.0) e);
    }
copy first message (suc count) (Memᴰ.tail m) =
    let c = copy (following first) message count m in
    record { sender = c.sender; time = c.time; rid = c.rid; body = c.body; least = omega (arith, c.least); most = omega (arith, c.most) }

posted-sent : (s : State) (p : ℕ) (sends : Sends) (message : Message) → Memᴰ message (posted s p sends) → Sent s.n p sends message
posted-sent s p Nothing message m = Memᴰ.not-nil m
posted-sent s p (Reply to letter) message m =
    let c = copy _ message 1 m in
    (record { sender = c.sender; time = c.time; rid = c.rid; body = c.body }, omega (arith, c.least, c.most))
posted-sent s p (Broadcast letter) message m =
    let c = copy _ message s.n m in
    (record { sender = c.sender; time = c.time; rid = c.rid; body = c.body }, omega (arith, c.least), omega (arith, c.most))

-- ---- a turn

module _ (s : State) (seven : length s.replicas ≡ 7) where
  turn : (p : ℕ) (answer : Answer) (flight : List Message) (delivered : ℕ) (rows rows_then : List Row) → 1 ≤ p → p ≤ 7
      → ((message : Message) → Memᴰ message flight → Memᴰ message s.flight) → map unnamed rows ≡ rows_then
      → Turn (without_sets s) (without_sets (moved s p answer flight delivered rows)) p answer.replica answer.sends rows_then
  turn p answer flight delivered rows rows_then first last fewer are =
      record {
        processes = refl;
        registers = refl;
        replicas = length-set s.replicas (p - 1) answer.replica;
        own = get_or-set_same s.replicas (p - 1) answer.replica _ (omega arith);
        others = λ q l n. get_or-set_other s.replicas (p - 1) (q - 1) answer.replica _ (λ e. n (omega arith));
        flight = λ message m.
            elim (Memᴰ.append_cases flight m) [ inl a ↦ inl (fewer message a) | inr a ↦ inr (posted-sent s p answer.sends message a) ];
        rows = are;
      }

-- ---- every accepted event

begins-ready : {s : State} {p x : ℕ} → Begins s p x → Ready (without_sets s) p x
begins-ready b = record { least = b.actor.least; most = b.actor.most; first = b.register.least; last = b.register.most; idle = b.idle }

module _ (s : State) (seven : length s.replicas ≡ 7) (few : s.n ≤ 7)
    (to : (message : Message) → Memᴰ message s.flight → (1 ≤ message.to.0) × (message.to.0 ≤ 7)) where
  -- a row is added, and the new row is numbered by those without their sets
  begun-turn : (p x : ℕ) → Begins s p x → (replica : ℕ → Replica) (sends : Sends) (row : Row) → unnamed row ≡ row
      → Turn (without_sets s) (without_sets (moved s p (accepted (replica (length s.rows + 1)) sends Pending) s.flight s.delivered (s.rows ++ (row ∷ []))))
      p (replica (length (map unnamed s.rows) + 1)) sends (map unnamed s.rows ++ (row ∷ []))
  begun-turn p x b replica sends row is =
      subst (λ (k : ℕ). Turn (without_sets s)
      (without_sets (moved s p (accepted (replica (length s.rows + 1)) sends Pending) s.flight s.delivered (s.rows ++ (row ∷ []))))
      p (replica (k + 1)) sends (map unnamed s.rows ++ (row ∷ []))) (sym (length-map s.rows unnamed))
      (turn s seven p (accepted (replica (length s.rows + 1)) sends Pending) s.flight s.delivered (s.rows ++ (row ∷ [])) _
      b.actor.least (omega (arith, b.actor.most)) (λ m a. a)
      (added-unnamed s.rows row ∙ ap (λ (r : Row). map unnamed s.rows ++ (r ∷ [])) is))

  module _ (k i count : ℕ) (d : Delivers s k i count) where
    flying : Memᴰ (message_at s i) s.flight
    flying = at-member s.flight i empty_message (found_inside s k i d.found)

    received-turn : (r : Replica) (sends : Sends) (rows rows_then : List Row) → map unnamed rows ≡ rows_then
        → Turn (without_sets s) (without_sets (arrived s i r sends rows)) (message_at s i).to.0 r sends rows_then
    received-turn r sends rows rows_then are =
        let range = to (message_at s i) flying in
        turn s seven (message_at s i).to.0 (accepted r sends Pending) (removed i s.flight) (s.delivered + 1) rows rows_then range.0 range.1
        (λ m. removed-member i s.flight) are

    -- the rows stay
    heard-turn : (r : Replica) (sends : Sends)
        → Turn (without_sets s) (without_sets (arrived s i r sends s.rows)) (message_at s i).to.0 r sends (map unnamed s.rows)
    heard-turn r sends = received-turn r sends s.rows (map unnamed s.rows) refl

    -- a row names those who responded
    chosen-turn : (row : ℕ) (r : Replica) (sends : ℕ → Sends)
        → Turn (without_sets s) (without_sets (arrived s i r (sends (row_of s row).register) (set s.rows (row - 1) (queried_row (row_of s row) (repliers_then s i)))))
        (message_at s i).to.0 r (sends (row_of (without_sets s) row).register) (map unnamed s.rows)
    chosen-turn row r sends =
        subst (λ (x : ℕ). Turn (without_sets s)
        (without_sets (arrived s i r (sends (row_of s row).register) (set s.rows (row - 1) (queried_row (row_of s row) (repliers_then s i)))))
        (message_at s i).to.0 r (sends x) (map unnamed s.rows)) (sym (ap (λ (y : Row). y.register) (row-unnamed s row)))
        (received-turn r (sends (row_of s row).register) (set s.rows (row - 1) (queried_row (row_of s row) (repliers_then s i))) (map unnamed s.rows)
        (queried-unnamed s.rows (row - 1) (repliers_then s i)))

    -- a row completes
    completed-turn : (row : ℕ) (r : Replica) (time : Time) (sent : Pair)
        → Turn (without_sets s) (without_sets (arrived s i r Nothing (set s.rows (row - 1) (completed (row_of s row) time sent (repliers_then s i)))))
        (message_at s i).to.0 r Nothing (set (map unnamed s.rows) (row - 1) (completed (row_of (without_sets s) row) time sent 0))
    completed-turn row r time sent =
        received-turn r Nothing (set s.rows (row - 1) (completed (row_of s row) time sent (repliers_then s i)))
        (set (map unnamed s.rows) (row - 1) (completed (row_of (without_sets s) row) time sent 0))
        (changed-unnamed s.rows (row - 1) (completed (row_of s row) time sent (repliers_then s i))
        ∙ ap (λ (y : Row). set (map unnamed s.rows) (row - 1) (completed y time sent 0)) (sym (row-unnamed s row)))

    counts-for : (row : ℕ) (gathered : Gathered) (pair : Pair) → Responding s i row gathered pair
        → Responds (without_sets s) (message_at s i) row gathered pair
    counts-for row gathered pair c = record { flying = flying; body = c.body; phase = c.phase; rid = sym c.present }

    acks-for : (row : ℕ) (sent : Pair) → Acking s i row sent → Acks (without_sets s) (message_at s i) row sent
    acks-for row sent c = record { flying = flying; body = c.body; phase = c.phase; rid = sym c.present }

  moves-on : {e : Event} {t : State} → EventMove s e t → Move (without_sets s) (without_sets t)
  moves-on (reading p x b) =
      reads p.0 x (begins-ready b)
      (begun-turn p.0 x b (λ k. beginning s p.0 (Querying k nothing_gathered)) (asking s p.0 (Query x)) (read_row p.0 x (next_clock s p.0)) refl)
  moves-on (writing p x value b) =
      let pair : Pair = written_by s p.0 value in
      writes p.0 x value (begins-ready b)
      (begun-turn p.0 x b (λ k. beginning s p.0 (Updating k pair)) (asking s p.0 (Update x pair)) (write_row p.0 x value (next_clock s p.0)) refl)
  moves-on (responding k i x d e) =
      responds (message_at s i) x (flying k i 1 d) e
      (heard-turn k i 1 d (hearing s i (recipient_at s i).pairs) (replying s i (Response (stored (recipient_at s i) x))))
  moves-on (storing k i x pair d e) =
      stores (message_at s i) x pair (flying k i 1 d) e
      (heard-turn k i 1 d (hearing s i (set (recipient_at s i).pairs (x - 1) (newer (stored (recipient_at s i) x) pair))) (replying s i Acked))
  moves-on (discarding k i d c) = rests (message_at s i).to.0 _ (heard-turn k i 0 d (recipient_at s i) Nothing)
  moves-on (counting k i row gathered pair d c l) = counts (message_at s i) row gathered pair (counts-for k i 0 d row gathered pair c)
      (heard-turn k i 0 d (counting_by s i (Querying row (gathered_with gathered pair))) Nothing)
  moves-on (choosing k i row gathered pair d c l) =
      chooses (message_at s i) row gathered pair (counts-for k i s.n d row gathered pair c) l
      (chosen-turn k i s.n d row (ending s i (Updating row (newer gathered.best pair))) (λ x. telling s i x (newer gathered.best pair)))
  moves-on (gathering k i row sent d c l) = gathers (message_at s i) row sent (acks-for k i 0 d row sent c) (heard-turn k i 0 d (counting_by s i (Updating row sent)) Nothing)
  moves-on (completing k i row sent d c l) = completes (message_at s i) row sent (acks-for k i 0 d row sent c) l
      (completed-turn k i 0 d row (ending s i Idle) (record { 0 = clock_then s i }) sent)
  moves-on (crashes p a up) =
      let most = a.most in
      rests p.0 _
      (turn s seven p.0 (accepted (down_now (replica_of s p.0)) Nothing Pending) s.flight s.delivered s.rows (map unnamed s.rows)
      a.least (omega arith) (λ m b. b) refl)
  moves-on (loses k i f down) =
      rests 1 (replica_of s 1).crashed
      (record {
        processes = refl;
        registers = refl;
        replicas = refl;
        own = refl;
        others = λ q a n. refl;
        flight = λ message m. inl (removed-member i s.flight m);
        rows = refl;
      })

  pub moves : (e : Event) → (step s e).refusal ≡ 0 → Move (without_sets s) (without_sets (step s e).state)
  moves e z = moves-on (event-moves s e z)
