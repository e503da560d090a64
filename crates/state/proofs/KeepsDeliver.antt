-- An accepted delivery keeps well-formedness: the message is taken off, and no phase ends, or the response that makes a majority ends the query phase
-- of the pending row, or the ack that makes one completes it.
use Rattle.std.specs.Prelude.{ℕ, ◌+◌, ◌-◌, ◌<◌, ◌≡◌, Bool, cond, ◌&&◌, ◌||◌, List, [], ◌∷◌, eqb, leb, length, get_or, set, Some, None}
use Rattle.std.proofs.Math.Path.{refl}
use Rattle.std.proofs.Common.{sym, ap, subst, ◌∙◌, arith, get_or-set_same, get_or-set_other, ne_eqb}
use Rattle.std.proofs.Math.Bool.{true, false, and-false, or-true}
use Rattle.words.specs.declared.Body.{Body}
use Rattle.words.specs.declared.Body.TheVariants.{Query, Response, Update, Ack}
use Rattle.words.specs.declared.Message.{Message}
use Rattle.words.specs.declared.Pair.{Pair}
use Rattle.words.specs.Quorum.{joined, counted}
use Rattle.words.specs.Ranges.{within, pair_fits}
use Rattle.words.specs.RangeLaws.{and_left, and_right, inside-fit}
use Rattle.replica.specs.Answer.{Answer}
use Rattle.replica.specs.declared.Gathered.{Gathered}
use Rattle.replica.specs.declared.Ended.TheVariants.{Pending, Query as Queried, At}
use Rattle.replica.specs.declared.Phase.{Phase}
use Rattle.replica.specs.declared.Phase.TheVariants.{Idle, Querying, Updating}
use Rattle.replica.specs.declared.Sends.{Sends}
use Rattle.replica.specs.declared.Sends.TheVariants.{Nothing, Reply, Broadcast}
use Rattle.replica.specs.Clock.{after}
use Rattle.replica.specs.Gathering.{gathered_with}
use Rattle.replica.specs.Handlers.{broadcast_of, discarded, became as placed}
use Rattle.replica.specs.Answer.{accepted}
use Rattle.replica.specs.Handlers.{response_counts, response_counted, response_taken, response_rule, ack_counts, ack_counted, ack_taken, ack_rule}
use Rattle.replica.specs.Numbers.{pointed}
use Rattle.tables.specs.declared.Row.{Row}
use Rattle.tables.specs.Tables.{empty_row, removed}
use Rattle.state.specs.Needed.{responses_needed, acks_needed, needed}
use Rattle.state.specs.State.{State, replica_of, row_of}
use Rattle.state.specs.Step.{completed, queried_row, answered_rows, moved, asked_register, step_deliver}
use Rattle.state.specs.WellFormed.{body_fits, message_fits, is_write, enough, row_fits, pending_of}
use Rattle.state.specs.Accepted.{plain_by, message_at}
use Rattle.state.proofs.AcceptedLaws.{deliver-accepted}
use Rattle.state.proofs.EveryLaws.{both, every_removed, every_set, length_removed}
use Rattle.state.proofs.FlightLaws.{rising-removed}
use Rattle.state.proofs.KeepsMoved.{SendsOk, moved_later, moved-well}
use Rattle.state.proofs.KeepsRow.{queried-ok, completed-ok}
use Rattle.state.proofs.LaterLaws.{Later, kept-rows, body-later, pair-later, row-later, rows-later, replica-later}
use Rattle.state.specs.Within.{Within}
use Rattle.state.proofs.PairLaws.{within-ok, ok-within, pair-newer}
use Rattle.state.proofs.PendingLaws.{waits, waits-other, pending-within, pending-process, pending-same, pending_done}
use Rattle.state.proofs.Quiet.{ahead, ahead-later, Quiet, received-clock, discarded-quiet, query-quiet, update-quiet, own-emptied, joined-within, own-joined}
use Rattle.state.proofs.WellLaws.{MessageOk, message-at, RowOk, ok-row, row-at, asked-at, PhaseOk, ReplicaOk, Well}

sends-later : (s t : State) → Later s t → (sends : Sends) → SendsOk s sends → SendsOk t sends
sends-later s t l Nothing ok = tt
sends-later s t l (Reply to letter) ok =
    (rw l.same-n ok.0, record { time = omega (arith, ok.1.time, l.more); rid = omega (arith, ok.1.rid, l.more); body = body-later s t l letter.body ok.1.body })
sends-later s t l (Broadcast letter) ok =
    record { time = omega (arith, ok.time, l.more); rid = omega (arith, ok.rid, l.more); body = body-later s t l letter.body ok.body }

-- ---- the message at a place is taken off

abbrev next_by : State → ℕ → ℕ → Answer → List Row → State
next_by s i p answer rows = moved s p answer (removed i s.flight) (s.delivered + 1) rows

module _ (s : State) (w : Well s) (room : s.accepted < 12000) (i : ℕ) (inside : i < length s.flight) (p : ℕ) (actor : Within p s.n) where
  taken : s.delivered + 1 + length (removed i s.flight) ≡ s.delivered + length s.flight
  taken = omega (arith, length_removed i s.flight inside)

  quiet-well : (number : ℕ) (answer : Answer) → Quiet s p answer → Well (next_by s i p answer (answered_rows s.rows number answer.ended))
  quiet-well number answer q =
      subst (λ (rows : List Row). Well (next_by s i p answer rows)) (sym (ap (answered_rows s.rows number) q.ended))
      (moved-well s p answer (removed i s.flight) (s.delivered + 1) s.rows w
      (record {
        room = room;
        actor = actor;
        taken = taken;
        messages = every_removed (message_fits s) i s.flight w.messages;
        numbers = rising-removed 0 s.sent i s.flight w.numbers;
        history = rows-later s t (moved_later s p answer (removed i s.flight) (s.delivered + 1) s.rows) s.rows w.history;
        own = replica-later (ahead s) t same p (kept-rows (ahead s) t p refl) answer.replica q.own;
        sends = sends-later (ahead s) t same answer.sends q.sends;
        others = λ o f. kept-rows s t o refl;
      }))
    where
      t : State
      t = next_by s i p answer s.rows

      same : Later (ahead s) t
      same = record { same-n = refl; same-m = refl; more = omega arith }

  -- p's pending row becomes another of its rows, where that and the answer fit
  changed-well : (answer : Answer) (row : ℕ) (new : Row) → pending_of p 1 s.rows ≡ row ∷ [] → new.process.0 ≡ p
      → RowOk (next_by s i p answer (set s.rows (row - 1) new)) new
      → ReplicaOk (next_by s i p answer (set s.rows (row - 1) new)) p answer.replica
      → SendsOk (next_by s i p answer (set s.rows (row - 1) new)) answer.sends
      → Well (next_by s i p answer (set s.rows (row - 1) new))
  changed-well answer row new e mine ok own sends =
      moved-well s p answer (removed i s.flight) (s.delivered + 1) (set s.rows (row - 1) new) w
      (record {
        room = room;
        actor = actor;
        taken = taken;
        messages = every_removed (message_fits s) i s.flight w.messages;
        numbers = rising-removed 0 s.sent i s.flight w.numbers;
        history = every_set (row_fits t) s.rows (row - 1) new (rows-later s t later s.rows w.history) (ok-row t new ok);
        own = own;
        sends = sends;
        others = λ q g.
            record {
              pending = pending-same q 1 s.rows (row - 1) new (waits-other p q new mine g ∙ sym (waits-other p q old own_row g));
              row = λ j f. get_or-set_other s.rows (row - 1) (j - 1) new empty_row (λ h. g (other q j f h));
            };
      })
    where
      old : Row
      old = get_or s.rows (row - 1) empty_row

      t : State
      t = next_by s i p answer (set s.rows (row - 1) new)

      later : Later s t
      later = moved_later s p answer (removed i s.flight) (s.delivered + 1) (set s.rows (row - 1) new)

      own_row : old.process.0 ≡ p
      own_row = pending-process p row s.rows e

      -- the only pending row of q is at another place, unless q is p
      other : (q j : ℕ) → pending_of q 1 s.rows ≡ j ∷ [] → j - 1 ≡ row - 1 → q ≡ p
      other q j f h =
          sym (pending-process q j s.rows f) ∙ (ap (λ (at : ℕ). (get_or s.rows at empty_row).process.0) h ∙ own_row)

  module _ (x : Message) (k : MessageOk s x) where
    -- the clock after the message, and who has replied with it
    abbrev time : ℕ
    time = after (replica_of s p).clock.0 x.time.0

    abbrev repliers : ℕ
    repliers = joined (replica_of s p).repliers x.from.0

    -- they end this phase
    abbrev is_enough : Phase → Bool
    is_enough phase = leb (needed s phase) (counted repliers)

    enough-replied : (phase : Phase) → is_enough phase ≡ true → enough s (needed s phase) repliers ≡ true
    enough-replied phase e = both (inside-fit s.n repliers (joined-within s w p actor x k)) e

    pending-place : (row : ℕ) → pending_of p 1 s.rows ≡ row ∷ [] → row - 1 < length s.rows
    pending-place row e = let h = pending-within p row s.rows e in omega (arith, h.least, h.most)

    abbrev Takes : ℕ → Answer → Type 0
    Takes number answer = Well (next_by s i p answer (answered_rows s.rows number answer.ended))

    discarded-well : (number : ℕ) → Takes number (discarded (replica_of s p))
    discarded-well number = quiet-well number (discarded (replica_of s p)) (discarded-quiet s w p actor x k)

    -- ---- a response, by the phase that it meets

    -- the answer to the one that makes a majority
    abbrev chosen_answer : ℕ → Gathered → Answer
    chosen_answer row gathered =
        let r = replica_of s p in
        accepted (placed r time (r.rid.0 + 1) (Updating row gathered.best) 0 r.pairs)
        (broadcast_of time (r.rid.0 + 1) (Update (row_of s row).register gathered.best)) (Queried repliers)

    chosen-well : (row : ℕ) (gathered : Gathered) → PhaseOk s p (Querying row gathered) 0 → enough s (responses_needed s) repliers ≡ true → Takes row (chosen_answer row gathered)
    chosen-well row gathered o fits =
        changed-well (chosen_answer row gathered) row new o.0 (pending-process p row s.rows o.0)
        (queried-ok t old (row-later s t later old (row-at s w (row - 1) (pending-place row o.0))) repliers fits o.1)
        (own-emptied s w p actor x k t (record { same-n = refl; same-m = refl; more = omega arith }) (Updating row gathered.best)
        (pending-same p 1 s.rows (row - 1) new refl ∙ o.0, pair-later s t later gathered.best o.2, ended))
        (record {
          time = received-clock s w p actor x k;
          rid = omega (arith, (w.replica p actor).rid);
          body = both (ok-within (asked-at s w p row o.0)) (pair-later s t later gathered.best o.2);
        })
      where
        old : Row
        old = get_or s.rows (row - 1) empty_row

        new : Row
        new = queried_row old repliers

        t : State
        t = next_by s i p (chosen_answer row gathered) (set s.rows (row - 1) new)

        later : Later s t
        later = moved_later s p (chosen_answer row gathered) (removed i s.flight) (s.delivered + 1) (set s.rows (row - 1) new)

        ended : (is_write (row_of t row).kind || enough t (responses_needed t) (row_of t row).replied.query) ≡ true
        ended =
            ap (λ (y : Row). is_write y.kind || enough s (responses_needed s) y.replied.query) (get_or-set_same s.rows (row - 1) new empty_row (pending-place row o.0))
            ∙ (ap (λ (b : Bool). is_write old.kind || b) fits ∙ or-true (is_write old.kind))

    response-counted : (row : ℕ) (gathered : Gathered) → PhaseOk s p (Querying row gathered) 0
        → Takes row (response_counted (replica_of s p) s.n (row_of s row).register x.from x.time row gathered)
    unfolding response_counted
    response-counted row gathered o = go (is_enough (Querying row gathered)) refl
      where
        waiting : Answer
        waiting =
            accepted (placed (replica_of s p) time (replica_of s p).rid.0 (Querying row gathered) repliers (replica_of s p).pairs) Nothing Pending

        go : (b : Bool) → is_enough (Querying row gathered) ≡ b → Takes row (cond b (chosen_answer row gathered) waiting)
        go true e = chosen-well row gathered o (enough-replied (Querying row gathered) e)
        go false e =
            quiet-well row waiting
            (record {
              own =
                  own-joined s w p actor x k (Querying row gathered)
                  (o.0, o.1, pair-later s (ahead s) (ahead-later s) gathered.best o.2, o.3) e;
              sends = tt;
              ended = refl;
            })

    response-well : (pair : Pair) → pair_fits s.accepted s.n pair ≡ true
        → Takes (pointed (replica_of s p).phase) (response_rule (replica_of s p) s.n (asked_register s (replica_of s p).phase) x.from x.time x.rid pair)
    unfolding response_rule
    response-well pair f = go (replica_of s p).phase (w.replica p actor).phase
      where
        go : (phase : Phase) → PhaseOk s p phase (replica_of s p).repliers
            → Takes (pointed phase)
            (response_taken (response_counts phase (replica_of s p).rid x.rid) (replica_of s p) s.n (asked_register s phase) x.from x.time pair)
        go Idle o = discarded-well 0
        go (Updating row sent) o = discarded-well row
        go (Querying row gathered) o = case (eqb x.rid.0 (replica_of s p).rid.0)
          where
            case : (b : Bool)
                → Takes row (response_taken (cond b (Some (row, gathered)) None) (replica_of s p) s.n (row_of s row).register x.from x.time pair)
            case true =
                response-counted row (gathered_with gathered pair)
                (o.0, o.1, pair-newer s.accepted s.n gathered.best pair o.2 f, o.3)
            case false = discarded-well row

    -- ---- an ack, by the phase that it meets

    -- the answer to the one that makes a majority
    abbrev done_answer : Pair → Answer
    done_answer sent =
        let r = replica_of s p in
        accepted (placed r time (r.rid.0 + 1) Idle 0 r.pairs) Nothing (At (record { 0 = time }) sent repliers)

    done-well : (row : ℕ) (sent : Pair) → PhaseOk s p (Updating row sent) 0 → enough s (acks_needed s) repliers ≡ true → Takes row (done_answer sent)
    done-well row sent o fits =
        changed-well (done_answer sent) row new o.0 (pending-process p row s.rows o.0)
        (completed-ok t old (row-later s t later old (row-at s w (row - 1) (pending-place row o.0))) repliers fits (record { 0 = time }) sent
        (received-clock s w p actor x k) late (pair-later s t later sent o.1) o.2)
        (own-emptied s w p actor x k t (record { same-n = refl; same-m = refl; more = omega arith }) Idle
        (pending_done p 1 s.rows (row - 1) row new (omega (arith, (pending-within p row s.rows o.0).least)) o.0 new-done, refl))
        tt
      where
        old : Row
        old = get_or s.rows (row - 1) empty_row

        new : Row
        new = completed old (record { 0 = time }) sent repliers

        t : State
        t = next_by s i p (done_answer sent) (set s.rows (row - 1) new)

        later : Later s t
        later = moved_later s p (done_answer sent) (removed i s.flight) (s.delivered + 1) (set s.rows (row - 1) new)

        late : eqb time 0 ≡ false
        late = let g : time ≡ 0 → ⊥ = λ z. omega arith in ne_eqb time 0 g

        new-done : waits p new ≡ false
        new-done = ap (λ (b : Bool). eqb new.process.0 p && b) late ∙ and-false (eqb new.process.0 p)

    ack-counted : (row : ℕ) (sent : Pair) → PhaseOk s p (Updating row sent) 0 → Takes row (ack_counted (replica_of s p) s.n x.from x.time row sent)
    unfolding ack_counted
    ack-counted row sent o = go (is_enough (Updating row sent)) refl
      where
        waiting : Answer
        waiting =
            accepted (placed (replica_of s p) time (replica_of s p).rid.0 (Updating row sent) repliers (replica_of s p).pairs) Nothing Pending

        go : (b : Bool) → is_enough (Updating row sent) ≡ b → Takes row (cond b (done_answer sent) waiting)
        go true e = done-well row sent o (enough-replied (Updating row sent) e)
        go false e =
            quiet-well row waiting
            (record {
              own = own-joined s w p actor x k (Updating row sent) (o.0, pair-later s (ahead s) (ahead-later s) sent o.1, o.2) e;
              sends = tt;
              ended = refl;
            })

    ack-well : Takes (pointed (replica_of s p).phase) (ack_rule (replica_of s p) s.n x.from x.time x.rid)
    unfolding ack_rule
    ack-well = go (replica_of s p).phase (w.replica p actor).phase
      where
        go : (phase : Phase) → PhaseOk s p phase (replica_of s p).repliers
            → Takes (pointed phase) (ack_taken (ack_counts phase (replica_of s p).rid x.rid) (replica_of s p) s.n x.from x.time)
        go Idle o = discarded-well 0
        go (Querying row gathered) o = discarded-well row
        go (Updating row sent) o = case (eqb x.rid.0 (replica_of s p).rid.0)
          where
            case : (b : Bool) → Takes row (ack_taken (cond b (Some (row, sent)) None) (replica_of s p) s.n x.from x.time)
            case true = ack-counted row sent o
            case false = discarded-well row

    -- ---- any message
    plain-well : (body : Body) → body_fits s body ≡ true → Takes (pointed (replica_of s p).phase) (plain_by s (replica_of s p) x body)
    plain-well (Query y) f = quiet-well _ _ (query-quiet s w p actor x k y (within-ok y s.m f))
    plain-well (Response pair) f = response-well pair f
    plain-well (Update y pair) f =
        let a : Bool = within y s.m in
        let b : Bool = pair_fits s.accepted s.n pair in
        quiet-well _ _ (update-quiet s w p actor x k y pair (within-ok y s.m (and_left a b f)) (and_right a b f))
    plain-well Ack f = ack-well

pub deliver-keeps : (s : State) (k : ℕ) → Well s → (step_deliver s k).refusal ≡ 0 → Well (step_deliver s k).state
deliver-keeps s k w e =
    let a = deliver-accepted s k e in
    let i : ℕ = a.0 in
    let inside = a.1.found.inside in
    let ok = message-at s w i inside in
    subst Well (sym a.2)
    (plain-well s w a.1.found.room i inside (message_at s i).to.0 ok.recipient (message_at s i) ok (message_at s i).body ok.body)
