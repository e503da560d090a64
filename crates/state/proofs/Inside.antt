-- On well-formed states the guarded handlers are the plain rules: for an invocation that no check refuses, for a message to a process that is up, and
-- for the crash of one that is up. (The rows are to fit their table of 1,024: a handler refuses a replica that points behind it.)
use Rattle.std.specs.Prelude.{ℕ, ◌+◌, ◌≤◌, ◌<◌, ◌≡◌, refl, Bool, true, false, ℤ, length}
use Rattle.std.proofs.Common.{arith, le-leb}
use Rattle.words.specs.declared.Body.{Body}
use Rattle.words.specs.declared.Body.TheVariants.{Query, Response, Update, Ack}
use Rattle.words.specs.declared.Message.{Message}
use Rattle.words.specs.declared.Pair.{Pair}
use Rattle.words.specs.Limits.{most_time, most_rid}
use Rattle.words.specs.Ranges.{within, pair_fits, sender_fits}
use Rattle.words.specs.RangeLaws.{and_left, and_right, inside-fit, inside-wider}
use Rattle.replica.specs.declared.Phase.{Phase}
use Rattle.replica.specs.declared.Phase.TheVariants.{Idle, Querying, Updating}
use Rattle.replica.specs.Handlers.{stored, read_rule, read_begun, write_rule, write_begun, request_fits, reply_fits}
use Rattle.replica.specs.Handlers.{query_rule, query_received, update_rule, update_received, response_rule, response_received, ack_rule, ack_received}
use Rattle.replica.specs.Handlers.{crash_rule, crashed}
use Rattle.replica.proofs.HandlerLaws.{read-is-rule, write-is-rule, query-is-rule, update-is-rule, response-is-rule, ack-is-rule, crash-is-rule}
use Rattle.replica.specs.Ranges.{phase_inside, replica_inside}
use Rattle.state.specs.State.{State, replica_of}
use Rattle.state.specs.Step.{asked_register, heard_by, heard}
use Rattle.state.specs.WellFormed.{body_fits}
use Rattle.state.specs.Accepted.{plain_by, plain, message_at, recipient_at}
use Rattle.state.proofs.AcceptedLaws.{Invoked}
use Rattle.state.proofs.EveryLaws.{both}
use Rattle.state.specs.Within.{Within}
use Rattle.state.proofs.PairLaws.{within-ok, ok-within, pair-wider}
use Rattle.state.proofs.PendingLaws.{pending-within}
use Rattle.state.proofs.WellLaws.{MessageOk, message-at, PhaseOk, Well, stored_at, asked-at}

-- the ranges of the bench lie in those of a handler, whose times go on where a bench has ended
within_wider : (x a b : ℕ) → a ≤ b → Within x a → within x b ≡ true
within_wider x a b l h = ok-within {most = b} (record { least = h.least; most = omega (arith, h.most) })

module _ (s : State) (w : Well s) where
  pair_inside : (pair : Pair) → pair_fits s.accepted s.n pair ≡ true → pair_fits most_time 7 pair ≡ true
  pair_inside pair e = pair-wider s.accepted most_time s.n 7 pair (omega (arith, w.events)) w.processes.most e

  register-inside : (x : ℕ) → Within x s.m → within x 16 ≡ true
  register-inside x h = within_wider x s.m 16 w.registers.most h

  -- the bench's own processes, or more
  sender-inside : (n : ℕ) → s.n ≤ n → (x : Message) → MessageOk s x → sender_fits n x.from x.time x.rid ≡ true
  sender-inside n l x k =
      both (both (within_wider x.from.0 s.n n l k.sender) (le-leb x.time.0 most_time (omega (arith, k.time, w.events))))
      (le-leb x.rid.0 most_rid (omega (arith, k.rid, w.events)))

  module _ (short : length s.rows ≤ 1024) (p : ℕ) (actor : Within p s.n) where
    phase-inside : (phase : Phase) (repliers : ℕ) → PhaseOk s p phase repliers → phase_inside phase ≡ true
    phase-inside Idle repliers o = refl
    phase-inside (Querying row gathered) repliers o =
        both (within_wider row (length s.rows) 1024 short (pending-within p row s.rows o.0)) (pair_inside gathered.best o.2)
    phase-inside (Updating row sent) repliers o =
        both (within_wider row (length s.rows) 1024 short (pending-within p row s.rows o.0)) (pair_inside sent o.1)

    pub replica-inside : (n : ℕ) → s.n ≤ n → replica_inside n (replica_of s p) ≡ true
    replica-inside n l =
        let o = w.replica p actor in
        let a = le-leb (replica_of s p).clock.0 most_time (omega (arith, o.clock, w.events)) in
        let b = le-leb (replica_of s p).rid.0 most_rid (omega (arith, o.rid, w.events)) in
        both (both (both a b) (inside-fit n (replica_of s p).repliers (inside-wider s.n n (replica_of s p).repliers l o.inside)))
        (phase-inside (replica_of s p).phase (replica_of s p).repliers o.phase)

-- ---- an invocation that no check refuses

module _ (s : State) (w : Well s) (p x : ℕ) (i : Invoked s p x) where
  row_inside : within (length s.rows + 1) 1024 ≡ true
  row_inside = ok-within {x = length s.rows + 1} {most = 1024} (record { least = omega arith; most = omega (arith, i.rows) })

  invoker-inside : replica_inside 7 (replica_of s p) ≡ true
  invoker-inside = replica-inside s w (omega (arith, i.rows)) p i.actor 7 w.processes.most

  pub read_plain : read_begun (replica_of s p) x (length s.rows + 1) ≡ read_rule (replica_of s p) x (length s.rows + 1)
  read_plain =
      read-is-rule (replica_of s p) x (length s.rows + 1) (both (both invoker-inside (register-inside s w x i.register)) row_inside) i.up i.idle

  pub write-plain : (value : ℤ)
      → write_begun (replica_of s p) (record { 0 = p }) x value (length s.rows + 1) ≡ write_rule (replica_of s p) (record { 0 = p }) x value (length s.rows + 1)
  write-plain value =
      write-is-rule (replica_of s p) (record { 0 = p }) x value (length s.rows + 1)
      (both (both (both invoker-inside (within_wider p s.n 7 w.processes.most i.actor)) (register-inside s w x i.register)) row_inside)
      i.up i.idle

-- ---- a process that is up: its crash, and a message of the bench that it receives

module _ (s : State) (w : Well s) (short : length s.rows ≤ 1024) (p : ℕ) (actor : Within p s.n) (up : (replica_of s p).crashed ≡ false) where
  pub crash-plain : crashed (replica_of s p) ≡ crash_rule (replica_of s p)
  crash-plain = crash-is-rule (replica_of s p) (replica-inside s w short p actor 7 w.processes.most) up

  module _ (x : Message) (k : MessageOk s x) where
    request-inside : (y : ℕ) → Within y s.m → request_fits (replica_of s p) x.from x.time x.rid y ≡ true
    request-inside y l =
        both (both (replica-inside s w short p actor 7 w.processes.most) (sender-inside s w 7 w.processes.most x k))
        (both (register-inside s w y l) (pair_inside s w (stored (replica_of s p) y) (stored_at s w p y actor l)))

    reply-inside : reply_fits (replica_of s p) s.n x.from x.time x.rid ≡ true
    reply-inside =
        both (both (replica-inside s w short p actor s.n (omega arith)) (sender-inside s w s.n (omega arith) x k)) (ok-within w.processes)

    asked-inside : (phase : Phase) (repliers : ℕ) → PhaseOk s p phase repliers → within (asked_register s phase) 16 ≡ true
    asked-inside Idle repliers o = refl
    asked-inside (Querying row gathered) repliers o = register-inside s w _ (asked-at s w p row o.0)
    asked-inside (Updating row sent) repliers o = refl

    pub query-plain : (y : ℕ) → Within y s.m
        → query_received (replica_of s p) x.from x.time x.rid y ≡ query_rule (replica_of s p) x.from x.time x.rid y
    query-plain y l = query-is-rule (replica_of s p) x.from x.time x.rid y (request-inside y l) up

    pub update-plain : (y : ℕ) (pair : Pair) → Within y s.m → pair_fits s.accepted s.n pair ≡ true
        → update_received (replica_of s p) x.from x.time x.rid y pair ≡ update_rule (replica_of s p) x.from x.time x.rid y pair
    update-plain y pair l f =
        update-is-rule (replica_of s p) x.from x.time x.rid y pair (both (request-inside y l) (pair_inside s w pair f)) up

    pub response-plain : (pair : Pair) → pair_fits s.accepted s.n pair ≡ true
        → response_received (replica_of s p) s.n (asked_register s (replica_of s p).phase) x.from x.time x.rid pair
        ≡ response_rule (replica_of s p) s.n (asked_register s (replica_of s p).phase) x.from x.time x.rid pair
    response-plain pair f =
        response-is-rule (replica_of s p) s.n (asked_register s (replica_of s p).phase) x.from x.time x.rid pair
        (both (both reply-inside (asked-inside (replica_of s p).phase (replica_of s p).repliers (w.replica p actor).phase)) (pair_inside s w pair f)) up

    pub ack-plain : ack_received (replica_of s p) s.n x.from x.time x.rid ≡ ack_rule (replica_of s p) s.n x.from x.time x.rid
    ack-plain = ack-is-rule (replica_of s p) s.n x.from x.time x.rid reply-inside up

    pub received-plain : heard s (replica_of s p) x ≡ plain s (replica_of s p) x
    received-plain = go x.body k.body
      where
        go : (body : Body) → body_fits s body ≡ true → heard_by s (replica_of s p) x body ≡ plain_by s (replica_of s p) x body
        go (Query y) f = query-plain y (within-ok y s.m f)
        go (Response pair) f = response-plain pair f
        go (Update y pair) f =
            let a : Bool = within y s.m in
            let b : Bool = pair_fits s.accepted s.n pair in
            update-plain y pair (within-ok y s.m (and_left a b f)) (and_right a b f)
        go Ack f = ack-plain

-- a message in flight, delivered to a process that is up
pub delivered-plain : (s : State) → Well s → length s.rows ≤ 1024 → (i : ℕ) → i < length s.flight → (recipient_at s i).crashed ≡ false
    → heard s (recipient_at s i) (message_at s i) ≡ plain s (recipient_at s i) (message_at s i)
delivered-plain s w short i inside up =
    let k = message-at s w i inside in
    received-plain s w short (message_at s i).to.0 k.recipient up (message_at s i) k
