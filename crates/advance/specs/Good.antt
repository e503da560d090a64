-- What a state that is tabled gives, as facts: bounds of its counts, of the ends of its messages, and of the rows that its replicas point to.
use Rattle.std.specs.Prelude.{ℕ, zero, suc, ◌+◌, ◌-◌, ◌*◌, ◌<◌, ◌≤◌, ◌≡◌, refl, Bool, true, false, not, cond, ◌&&◌, List, [], ◌∷◌, ◌++◌, eqb, leb, ltb, ℤ, pos, negsuc, length, get_or, take, drop, replicate}
use Rattle.std.proofs.Common.{not-suc-le-zero, le_of_suc-le-suc, leb-true, eqb-true, le-leb, arith, sym, ap, subst, ◌∙◌, take-append-drop, length-take, length-drop}
use Rattle.std.proofs.lemmas.Bool.{false≢true}
use Rattle.words.specs.declared.Body.{Body}
use Rattle.words.specs.declared.Body.TheVariants.{Query, Response, Update, Ack}
use Rattle.words.specs.declared.Message.{Message}
use Rattle.words.specs.Quorum.{counted}
use Rattle.words.specs.Ranges.{within, is_zero, repliers_fit}
use Rattle.words.specs.RangeLaws.{and_left, and_right, within-most, within-least}
use Rattle.replica.specs.declared.Phase.{Phase}
use Rattle.replica.specs.declared.Phase.TheVariants.{Idle, Querying, Updating}
use Rattle.replica.specs.declared.Replica.{Replica}
use Rattle.tables.specs.declared.Kind.{Kind}
use Rattle.tables.specs.declared.Kind.TheVariants.{Read, Write}
use Rattle.tables.specs.declared.Row.{Row}
use Rattle.tables.specs.Tables.{empty_message, empty_row}
use Rattle.state.specs.declared.Bench.{Bench}
use Rattle.state.proofs.EveryLaws.{every-at}
use Rattle.state.specs.Needed.{needed}
use Rattle.state.specs.State.{State, fresh_replica, replica_of, view, laid_messages, laid_rows}
use Rattle.state.specs.Tabled.{tabled, lengths_fit, is_empty_body, is_empty_message, is_empty_row, bench_of}
use Rattle.state.specs.WellFormed.{every, well_formed, counts_fit, flight_fits, history_fits, replicas_fit, message_fits, rising, each_fits, replica_fits, phase_fits, pending_of, is_only, is_empty, is_fresh, is_write, pairs_fit, body_fits}

-- ---- a conjunction of tests, taken apart

pub both : (a b : Bool) → (a && b) ≡ true → (a ≡ true) × (b ≡ true)
both a b e = (and_left a b e, and_right a b e)

all4 : (a b c d : Bool) → (a && b && c && d) ≡ true → (a ≡ true) × (b ≡ true) × (c ≡ true) × (d ≡ true)
all4 a b c d e =
    let (l, r) = both (a && b && c) d e in
    let (l₂, r₂) = both (a && b) c l in
    let (l₃, r₃) = both a b l₂ in (l₃, r₃, r₂, r)

all5 : (a b c d f : Bool) → (a && b && c && d && f) ≡ true → (a ≡ true) × (b ≡ true) × (c ≡ true) × (d ≡ true) × (f ≡ true)
all5 a b c d f e =
    let (l, r) = both (a && b && c && d) f e in
    let (x₀, x₁, x₂, x₃) = all4 a b c d l in (x₀, x₁, x₂, x₃, r)

all6 : (a b c d f g : Bool) → (a && b && c && d && f && g) ≡ true → (a ≡ true) × (b ≡ true) × (c ≡ true) × (d ≡ true) × (f ≡ true) × (g ≡ true)
all6 a b c d f g e =
    let (l, r) = both (a && b && c && d && f) g e in
    let (x₀, x₁, x₂, x₃, x₄) = all5 a b c d f l in (x₀, x₁, x₂, x₃, x₄, r)

-- ---- lists of which each passes a test

empties : {A : Type 0} (p : A → Bool) (d : A) → ((x : A) → p x ≡ true → x ≡ d) → (xs : List A) → every p xs ≡ true → xs ≡ replicate (length xs) d
empties p d is [] e = refl
empties {A} p d is (x ∷ xs) e =
    ap (λ (y : A). y ∷ xs) (is x (and_left (p x) (every p xs) e)) ∙ ap (λ (ys : List A). d ∷ ys) (empties p d is xs (and_right (p x) (every p xs) e))

empty-body : (x : Body) → is_empty_body x ≡ true → x ≡ Query 0
empty-body (Query x) e = ap Query (eqb-true x 0 e)
empty-body (Response pair) e = absurd (false≢true e)
empty-body (Update x pair) e = absurd (false≢true e)
empty-body Ack e = absurd (false≢true e)

abbrev message : ℕ → ℕ → ℕ → ℕ → ℕ → Body → Message
message number from to time rid body =
    record { number = number; from = record { 0 = from }; to = record { 0 = to }; time = record { 0 = time }; rid = record { 0 = rid }; body = body }

message-is : (a b c d f : ℕ) (x : Body) → a ≡ 0 → b ≡ 0 → c ≡ 0 → d ≡ 0 → f ≡ 0 → x ≡ Query 0 → message a b c d f x ≡ empty_message
message-is a b c d f x ea eb ec ed ef ex = rw (ea, eb, ec, ed, ef, ex)

empty-message : (m : Message) → is_empty_message m ≡ true → m ≡ empty_message
empty-message m e =
    let (a, b, c, d, f, x) = all6 (eqb m.number 0) (eqb m.from.0 0) (eqb m.to.0 0) (eqb m.time.0 0) (eqb m.rid.0 0) (is_empty_body m.body) e in
    message-is m.number m.from.0 m.to.0 m.time.0 m.rid.0 m.body (eqb-true m.number 0 a) (eqb-true m.from.0 0 b) (eqb-true m.to.0 0 c) (eqb-true m.time.0 0 d) (eqb-true m.rid.0 0 f) (empty-body m.body x)

zero-value : (v : ℤ) → is_zero v ≡ true → v ≡ pos 0
zero-value (pos n) e = ap pos (eqb-true n 0 e)
zero-value (negsuc n) e = absurd (false≢true e)

read-kind : (k : Kind) → not (is_write k) ≡ true → k ≡ Read
read-kind Read e = refl
read-kind Write e = absurd (false≢true e)

abbrev row : ℕ → Kind → ℕ → ℕ → ℕ → ℕ → ℕ → ℤ → ℕ → ℕ → Row
row process kind register invoked answered time by value query update =
    record {
      process = record { 0 = process };
      kind = kind;
      register = register;
      invoked = record { 0 = invoked };
      answered = record { 0 = answered };
      stamp = record { time = record { 0 = time }; process = record { 0 = by } };
      value = value;
      replied = record { query = query; update = update };
    }

row_is : (a : ℕ) (k : Kind) (b c d f g : ℕ) (v : ℤ) (q u : ℕ) → a ≡ 0 → k ≡ Read → b ≡ 0 → c ≡ 0 → d ≡ 0 → f ≡ 0 → g ≡ 0 → v ≡ pos 0 → q ≡ 0 → u ≡ 0 → row a k b c d f g v q u ≡ empty_row
row_is a k b c d f g v q u ea ek eb ec ed ef eg ev eq eu = rw (ea, ek, eb, ec, ed, ef, eg, ev, eq, eu)

empty-row : (r : Row) → is_empty_row r ≡ true → r ≡ empty_row
empty-row r e =
    let (front, g, v, q, u) = all5 (eqb r.process.0 0 && not (is_write r.kind) && eqb r.register 0 && eqb r.invoked.0 0 && eqb r.answered.0 0 && eqb r.stamp.time.0 0)
    (eqb r.stamp.process.0 0) (is_zero r.value) (eqb r.replied.query 0) (eqb r.replied.update 0) e in
    let (a, k, b, c, d, f) = all6 (eqb r.process.0 0) (not (is_write r.kind)) (eqb r.register 0) (eqb r.invoked.0 0) (eqb r.answered.0 0) (eqb r.stamp.time.0 0) front in
    row_is r.process.0 r.kind r.register r.invoked.0 r.answered.0 r.stamp.time.0 r.stamp.process.0 r.value r.replied.query r.replied.update
    (eqb-true r.process.0 0 a) (read-kind r.kind k) (eqb-true r.register 0 b) (eqb-true r.invoked.0 0 c) (eqb-true r.answered.0 0 d) (eqb-true r.stamp.time.0 0 f) (eqb-true r.stamp.process.0 0 g) (zero-value r.value v)
    (eqb-true r.replied.query 0 q) (eqb-true r.replied.update 0 u)

-- a table is what it holds in its first places, and empty ones
table_is : {A : Type 0} (d : A) (most n : ℕ) (xs : List A) → length xs ≡ most → n ≤ most → drop n xs ≡ replicate (length (drop n xs)) d → xs ≡ take n xs ++ replicate (most - length (take n xs)) d
table_is {A} d most n xs len le e =
    sym (take-append-drop n xs) ∙ ap (λ (ys : List A). take n xs ++ ys) (e ∙ ap (λ (k : ℕ). replicate k d) left)
  where
    left : length (drop n xs) ≡ most - length (take n xs)
    left = omega (arith, length-drop n xs, length-take n xs)

-- ---- the rows that replicas point to

-- a waiting replica points to a row
abbrev pub Points : List Row → Phase → Type 0
Points rows Idle = Unit {0}
Points rows (Querying number gathered) = (1 ≤ number) × (number ≤ length rows)
Points rows (Updating number sent) = (1 ≤ number) × (number ≤ length rows)

pending-within : (p k number : ℕ) (rows : List Row) → is_only number (pending_of p k rows) ≡ true → (k ≤ number) × (number < k + length rows)
pending-within p k number [] e = absurd (false≢true e)
pending-within p k number (r ∷ rows) e = go (eqb r.process.0 p && eqb r.answered.0 0) (pending-within p (suc k) number rows) e
  where
    go : (t : Bool) → (is_only number (pending_of p (suc k) rows) ≡ true → (suc k ≤ number) × (number < suc k + length rows))
        → is_only number (cond t (k ∷ pending_of p (suc k) rows) (pending_of p (suc k) rows)) ≡ true → (k ≤ number) × (number < k + length (r ∷ rows))
    go true later h =
        let same : k ≡ number = eqb-true k number (and_left (eqb k number) (is_empty (pending_of p (suc k) rows)) h) in
        (omega arith, omega arith)
    go false later h = let (l, g) = later h in (omega arith, omega arith)

only-within : (p number : ℕ) (rows : List Row) → is_only number (pending_of p 1 rows) ≡ true → (1 ≤ number) × (number ≤ length rows)
only-within p number rows e = let (l, g) = pending-within p 1 number rows e in (l, omega arith)

phase-points : (s : State) (p : ℕ) (phase : Phase) (repliers : ℕ) → phase_fits s p phase repliers ≡ true → Points s.rows phase
phase-points s p Idle repliers e = tt
phase-points s p (Querying number gathered) repliers e = only-within p number s.rows (and_left _ _ (and_left (is_only number (pending_of p 1 s.rows) && _) _ (and_left (is_only number (pending_of p 1 s.rows) && _ && _) _ e)))
phase-points s p (Updating number sent) repliers e = only-within p number s.rows (and_left (is_only number (pending_of p 1 s.rows)) _ (and_left (is_only number (pending_of p 1 s.rows) && _) _ e))

replica-points : (s : State) (p : ℕ) (r : Replica) → replica_fits s p r ≡ true → Points s.rows r.phase
replica-points s p r e = phase-points s p r.phase r.repliers (and_right
    (leb r.clock.0 s.accepted && leb r.rid.0 (2 * s.accepted) && eqb (length r.pairs) 16 && pairs_fit s s.m r.pairs
    && repliers_fit s.n r.repliers && ltb (counted r.repliers) (needed s r.phase))
    (phase_fits s p r.phase r.repliers) e)

each-points : (s : State) (p : ℕ) (rs : List Replica) (i : ℕ) → each_fits s p rs ≡ true → i < length rs → p + i ≤ s.n → Points s.rows (get_or rs i fresh_replica).phase
each-points s p [] i e l le = absurd (not-suc-le-zero l)
each-points s p (r ∷ rs) zero e l le =
    replica-points s p r (subst (λ (t : Bool). cond t (replica_fits s p r) (is_fresh r) ≡ true) (le-leb p s.n (omega arith)) (and_left (cond (leb p s.n) (replica_fits s p r) (is_fresh r)) _ e))
each-points s p (r ∷ rs) (suc i) e l le =
    each-points s (suc p) rs i (and_right (cond (leb p s.n) (replica_fits s p r) (is_fresh r)) (each_fits s (suc p) rs) e) (le_of_suc-le-suc l) (omega arith)

-- ---- the facts

pub record Good (s : State) : Type 0 where
  pub few : s.n ≤ 7
  pub accepted : s.accepted ≤ 12000
  pub sent : s.sent ≤ 84000
  pub delivered : s.delivered ≤ 84000
  pub lost : s.lost ≤ 84000
  pub flight : length s.flight ≤ 512
  pub rows : length s.rows ≤ 1024
  pub replicas : length s.replicas ≡ 7
  -- the sender of a message is a process, and its recipient's replica points to a row if it waits
  pub sender : (i : ℕ) → i < length s.flight → (get_or s.flight i empty_message).from.0 ≤ 7
  pub points : (i : ℕ) → i < length s.flight → Points s.rows (replica_of s (get_or s.flight i empty_message).to.0).phase

module _ (s : State) (w : well_formed s ≡ true) (lf : length s.flight ≤ 512) (lr : length s.rows ≤ 1024) where
  parts : (counts_fit s ≡ true) × (flight_fits s ≡ true) × (history_fits s ≡ true) × (replicas_fit s ≡ true)
  unfolding well_formed
  parts = all4 (counts_fit s) (flight_fits s) (history_fits s) (replicas_fit s) w

  Counts : Type 0
  Counts = (within s.n 7 ≡ true) × (within s.m 16 ≡ true) × (leb s.accepted 12000 ≡ true) × (leb s.sent (7 * s.accepted) ≡ true) × (eqb s.sent (s.delivered + s.lost + length s.flight) ≡ true)

  counts : Counts
  unfolding counts_fit Counts
  counts = all5 (within s.n 7) (within s.m 16) (leb s.accepted 12000) (leb s.sent (7 * s.accepted)) (eqb s.sent (s.delivered + s.lost + length s.flight)) parts.0

  few-is : s.n ≤ 7
  unfolding Counts
  few-is = within-most s.n 7 counts.0

  accepted-is : s.accepted ≤ 12000
  unfolding Counts
  accepted-is = leb-true s.accepted 12000 counts.2

  sent_is : s.sent ≤ 84000
  unfolding Counts
  sent_is = omega (arith, accepted-is, leb-true s.sent (7 * s.accepted) counts.3)

  sum_is : s.sent ≡ s.delivered + s.lost + length s.flight
  unfolding Counts
  sum_is = eqb-true s.sent (s.delivered + s.lost + length s.flight) counts.4

  replicas-are : (eqb (length s.replicas) 7 ≡ true) × (each_fits s 1 s.replicas ≡ true)
  unfolding replicas_fit
  replicas-are = both (eqb (length s.replicas) 7) (each_fits s 1 s.replicas) parts.3

  seven : length s.replicas ≡ 7
  seven = eqb-true (length s.replicas) 7 replicas-are.0

  fits-at : (i : ℕ) → i < length s.flight → message_fits s (get_or s.flight i empty_message) ≡ true
  unfolding flight_fits
  fits-at i l = every-at (message_fits s) s.flight empty_message i (and_left (every (message_fits s) s.flight) (rising 0 s.sent s.flight) parts.1) l

  ends : (m : Message) → message_fits s m ≡ true → (within m.from.0 s.n ≡ true) × (within m.to.0 s.n ≡ true)
  ends m e = let (a, b, c, d, f) = all5 (within m.from.0 s.n) (within m.to.0 s.n) (leb m.time.0 s.accepted) (leb m.rid.0 (2 * s.accepted)) (body_fits s m.body) e in (a, b)

  points_to : (p : ℕ) → within p s.n ≡ true → Points s.rows (replica_of s p).phase
  points_to p e =
      let most : p ≤ s.n = within-most p s.n e in
      let least : 1 ≤ p = within-least p s.n e in
      each-points s 1 s.replicas (p - 1) replicas-are.1 (omega (arith, seven, few-is)) (omega arith)

  pub good : Good s
  good =
      record {
        few = few-is;
        accepted = accepted-is;
        sent = sent_is;
        delivered = omega (arith, sent_is, sum_is);
        lost = omega (arith, sent_is, sum_is);
        flight = lf;
        rows = lr;
        replicas = seven;
        sender = λ i l. omega (arith, few-is, within-most (get_or s.flight i empty_message).from.0 s.n (ends (get_or s.flight i empty_message) (fits-at i l)).0);
        points = λ i l. points_to (get_or s.flight i empty_message).to.0 (ends (get_or s.flight i empty_message) (fits-at i l)).1;
      }

-- ---- of a bench and its tables

module _ (b : Bench) (messages : List Message) (rows : List Row) (t : tabled b messages rows ≡ true) where
  Tests : Type 0
  Tests = (lengths_fit messages rows ≡ true) × (leb b.flight 512 ≡ true) × (leb b.rows 1024 ≡ true) × (every is_empty_message (drop b.flight messages) ≡ true) × (every is_empty_row (drop b.rows rows) ≡ true) × (well_formed (view b messages rows) ≡ true)

  tests : Tests
  unfolding tabled Tests
  tests = all6 (lengths_fit messages rows) (leb b.flight 512) (leb b.rows 1024) (every is_empty_message (drop b.flight messages)) (every is_empty_row (drop b.rows rows)) (well_formed (view b messages rows)) t

  pub lengths : (length messages ≡ 512) × (length rows ≡ 1024)
  unfolding Tests
  lengths = let (a, c) = both (eqb (length messages) 512) (eqb (length rows) 1024) tests.0 in (eqb-true (length messages) 512 a, eqb-true (length rows) 1024 c)

  flight-most : b.flight ≤ 512
  unfolding Tests
  flight-most = leb-true b.flight 512 tests.1

  rows-most : b.rows ≤ 1024
  unfolding Tests
  rows-most = leb-true b.rows 1024 tests.2

  pub flight-count : length (take b.flight messages) ≡ b.flight
  flight-count = omega (arith, length-take b.flight messages, lengths.0, flight-most)

  pub rows-count : length (take b.rows rows) ≡ b.rows
  rows-count = omega (arith, length-take b.rows rows, lengths.1, rows-most)

  pub held : Good (view b messages rows)
  unfolding Tests
  held = good (view b messages rows) tests.5 (omega (arith, flight-count, flight-most)) (omega (arith, rows-count, rows-most))

  pub messages-are : messages ≡ laid_messages (view b messages rows)
  unfolding Tests
  messages-are = table_is empty_message 512 b.flight messages lengths.0 flight-most (empties is_empty_message empty_message empty-message (drop b.flight messages) tests.3)

  pub rows_are : rows ≡ laid_rows (view b messages rows)
  unfolding Tests
  rows_are = table_is empty_row 1024 b.rows rows lengths.1 rows-most (empties is_empty_row empty_row empty-row (drop b.rows rows) tests.4)

  pub bench-is : b ≡ bench_of (view b messages rows)
  bench-is = rw (flight-count, rows-count)
