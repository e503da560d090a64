-- Every move makes known those whom it counts, and nobody else.
use Rattle.std.specs.Prelude.{ℕ, ◌+◌, ◌-◌, ◌≤◌, ◌<◌, ◌≡◌, refl, ◌⊎◌, true, false, cond, List, [], ◌∷◌, eqb, ℤ, pos, length, get_or, set, Some}
use Rattle.std.proofs.Common.{sym, ap, subst, ◌∙◌, inl, inr, arith, eq-eqb, eqb-true}
use Rattle.std.proofs.lemmas.Bool.{false≢true}
use Rattle.words.specs.declared.Body.{Body}
use Rattle.words.specs.declared.Body.TheVariants.{Query, Response, Update, Ack}
use Rattle.words.specs.declared.Pair.{Pair}
use Rattle.words.specs.declared.Stamp.{Stamp}
use Rattle.words.specs.declared.Time.{Time}
use Rattle.words.specs.RangeLaws.{and_right}
use Rattle.words.specs.Stamps.{stamp_of, start_stamp, newer}
use Rattle.replica.specs.declared.Ended.TheVariants.{Pending}
use Rattle.replica.specs.declared.Gathered.{Gathered}
use Rattle.replica.specs.declared.Phase.{Phase}
use Rattle.replica.specs.declared.Phase.TheVariants.{Idle, Querying, Updating}
use Rattle.replica.specs.declared.Replica.{Replica}
use Rattle.replica.specs.declared.Sends.{Sends}
use Rattle.replica.specs.declared.Sends.TheVariants.{Nothing}
use Rattle.replica.specs.Gathering.{nothing_gathered, gathered_with}
use Rattle.replica.specs.Handlers.{is_idle, stored}
use Rattle.replica.specs.Answer.{accepted}
use Rattle.replica.specs.Numbers.{pointed}
use Rattle.tables.specs.declared.Kind.{Kind}
use Rattle.tables.specs.declared.Kind.TheVariants.{Read as ReadKind, Write as WriteKind}
use Rattle.tables.specs.declared.Row.{Row}
use Rattle.tables.specs.Tables.{empty_row, seek, removed}
use Rattle.state.specs.declared.Event.{Event}
use Rattle.state.specs.declared.Event.TheVariants.{Read, Write, Deliver, Crash, Lose}
use Rattle.state.specs.Needed.{acks_needed}
use Rattle.state.specs.State.{State, replica_of, row_of}
use Rattle.state.specs.Step.{begun_row, read_row, write_row, queried_row, completed, without_message}
use Rattle.state.specs.Accepted.{message_at, recipient_at}
use Rattle.state.specs.Within.{Within}
use Rattle.state.proofs.PendingLaws.{pending-first, pending-within}
use Rattle.state.specs.WellFormed.{enough, pending_of}
use Rattle.state.proofs.WellLaws.{PhaseOk, Well, message-at, row-at}
use Rattle.moves.specs.Move.{Begins, Responds, Acks, Discarded, new_row, next_clock, beginning, asking, begun, written_by, Move, clock_then, repliers_then, hearing, counting, ending, replying, telling, arrived, down_now}
use Rattle.moves.specs.Move.Move.{reads, writes, responds, stores, discards, counts, chooses, gathers, completes, crashes, loses}
use Rattle.moves.proofs.PlacedLaws.{found_inside}
use Rattle.moves.specs.Stages.{Stage, is_reply, stage_of, stage_for}
use Rattle.sc_abd.specs.Named.{named}
use Rattle.sc_abd.specs.NamedKept.{Counts, Learns, Heard, is_delivery, not-delivered, counts-place, still-learns, begun-learns, counting-learns, ending-learns, Known}

-- ---- what a well-formed state says of a process that waits

module _ (s : State) (w : Well s) (p : ℕ) (actor : Within p s.n) where
  ok : PhaseOk s p (replica_of s p).phase (replica_of s p).repliers
  ok = (w.replica p actor).phase

  idle-set : (replica_of s p).phase ≡ Idle → (replica_of s p).repliers ≡ 0
  idle-set e = (subst (λ phase. PhaseOk s p phase (replica_of s p).repliers) e ok).1

  -- it waits for a pending row
  pub waits-for : (row : ℕ) → is_idle (replica_of s p).phase ≡ false → pointed (replica_of s p).phase ≡ row → pending_of p 1 s.rows ≡ row ∷ []
  waits-for row = by (replica_of s p).phase ok
    where
      by : (phase : Phase) → PhaseOk s p phase (replica_of s p).repliers → is_idle phase ≡ false → pointed phase ≡ row → pending_of p 1 s.rows ≡ row ∷ []
      by Idle h b f = absurd (false≢true (sym b))
      by (Querying x gathered) h b f = h.0 ∙ ap (λ k. k ∷ []) f
      by (Updating x sent) h b f = h.0 ∙ ap (λ k. k ∷ []) f

  -- whose query phase has not ended, if it queries
  pub unqueried : (row : ℕ) → pointed (replica_of s p).phase ≡ row → stage_of (replica_of s p).phase ≡ Stage.querying → (row_of s row).replied.query ≡ 0
  unqueried row e = by (replica_of s p).phase ok e
    where
      by : (phase : Phase) → PhaseOk s p phase (replica_of s p).repliers → pointed phase ≡ row → stage_of phase ≡ Stage.querying
          → (row_of s row).replied.query ≡ 0
      by Idle h f g = let z : ◌≡◌ {A = ℕ} 0 1 = cc in absurd (omega arith)
      by (Querying x gathered) h f g = ap (λ k. (row_of s k).replied.query) (sym f) ∙ h.3
      by (Updating x sent) h f g = let z : ◌≡◌ {A = ℕ} 0 1 = cc in absurd (omega arith)

-- the update phase of a pending row has not ended
unacked : (s : State) → Well s → (i : ℕ) → i < length s.rows → (get_or s.rows i empty_row).answered.0 ≡ 0 → (get_or s.rows i empty_row).replied.update ≡ 0
unacked s w i l e =
    let r : Row = get_or s.rows i empty_row in
    eqb-true r.replied.update 0
    (sym (ap (λ b. cond b (eqb r.replied.update 0) (enough s (acks_needed s) r.replied.update)) (eq-eqb r.answered.0 0 e)) ∙ (row-at s w i l).update)

pub pending-answer : (p row : ℕ) (rows : List Row) → pending_of p 1 rows ≡ row ∷ [] → (get_or rows (row - 1) empty_row).answered.0 ≡ 0
pending-answer p row rows e =
    let h = pending-first p 1 rows row [] e in
    let place : h.place ≡ row - 1 = omega (arith, h.number) in
    let r : Row = get_or rows h.place empty_row in
    ap (λ i. (get_or rows i empty_row).answered.0) (sym place)
    ∙ eqb-true r.answered.0 0 (and_right (eqb r.process.0 p) (eqb r.answered.0 0) h.waiting)

-- ---- every move

module _ (s : State) (w : Well s) where
  few : s.n ≤ 7
  few = w.processes.most

  module _ (k i : ℕ) (found : seek k 0 s.flight ≡ Some i) where
    to : Within (message_at s i).to.0 s.n
    to = (message-at s w i (found_inside s k i found)).recipient

    heard : (row : ℕ) (phase : Phase) → is_reply (message_at s i).body ≡ true → stage_for (message_at s i).body ≡ stage_of phase
        → (recipient_at s i).phase ≡ phase → pointed phase ≡ row → (message_at s i).rid.0 ≡ (recipient_at s i).rid.0 → Heard s k i row (stage_of phase)
    heard row phase reply stage is points present =
        record {
          found = found;
          reply = reply;
          of-stage = stage;
          waits = ap pointed is ∙ points;
          in-stage = ap stage_of is;
          present = present;
          actor = to;
          sender = omega (arith, (message-at s w i (found_inside s k i found)).sender.most, few);
        }

    -- a request is not counted
    request-silent : is_reply (message_at s i).body ≡ false → (row j : ℕ) (stage : Stage) → Counts s (Deliver k) row j stage → ⊥
    request-silent e row j stage c =
        false≢true (sym e ∙ ap (λ x. is_reply (message_at s x).body) (sym (counts-place s k i row j stage found c)) ∙ c.reply)

    -- nor is a reply that is discarded
    late-silent : Discarded s i → (row j : ℕ) (stage : Stage) → Counts s (Deliver k) row j stage → ⊥
    late-silent d row j stage c =
        let there = counts-place s k i row j stage found c in
        d.another
        (ap (λ x. stage_of (recipient_at s x).phase) (sym there) ∙ c.in-stage ∙ sym c.of-stage
        ∙ ap (λ x. stage_for (message_at s x).body) there)
        (subst (λ x. (message_at s x).rid.0 ≡ (recipient_at s x).rid.0) there c.present)

  -- a response that counts, an ack that counts
  responded : (k i row : ℕ) (gathered : Gathered) (pair : Pair) → seek k 0 s.flight ≡ Some i → Responds s i row gathered pair
      → Heard s k i row Stage.querying
  responded k i row gathered pair found c =
      heard k i found row (Querying row gathered) (ap is_reply c.body) (ap stage_for c.body) c.phase refl c.present

  acked : (k i row : ℕ) (sent : Pair) → seek k 0 s.flight ≡ Some i → Acks s i row sent → Heard s k i row Stage.updating
  acked k i row sent found c =
      heard k i found row (Updating row sent) (ap is_reply c.body) (ap stage_for c.body) c.phase refl c.present

  queried-names : (r : Row) (who : ℕ) (stage : Stage) → (stage ≡ Stage.querying) ⊎ (named (queried_row r who) stage ≡ named r stage)
  queried-names r who Stage.idle = inr refl
  queried-names r who Stage.querying = inl refl
  queried-names r who Stage.updating = inr refl

  completed-names : (r : Row) (time : Time) (pair : Pair) (who : ℕ) (stage : Stage)
      → (stage ≡ Stage.updating) ⊎ (named (completed r time pair who) stage ≡ named r stage)
  completed-names r time pair who Stage.idle = inr refl
  completed-names r time pair who Stage.querying = inr refl
  completed-names r time pair who Stage.updating = inl refl

  -- the row that the recipient waits for
  module _ (k i row : ℕ) (found : seek k 0 s.flight ≡ Some i) (busy : is_idle (recipient_at s i).phase ≡ false)
      (points : pointed (recipient_at s i).phase ≡ row) where
    waited-row : pending_of (message_at s i).to.0 1 s.rows ≡ row ∷ []
    waited-row = waits-for s w (message_at s i).to.0 (to k i found) row busy points

    row_first : 1 ≤ row
    row_first = (pending-within (message_at s i).to.0 row s.rows waited-row).least

    row_inside : row - 1 < length s.rows
    row_inside = let h = pending-within (message_at s i).to.0 row s.rows waited-row in omega (arith, h.least, h.most)

  chooses-learns : (k i row : ℕ) (gathered : Gathered) (pair : Pair) → seek k 0 s.flight ≡ Some i → Responds s i row gathered pair
      → (r : Replica) (sends : Sends) → r.repliers ≡ 0
      → Learns s (Deliver k) (arrived s i r sends (set s.rows (row - 1) (queried_row (row_of s row) (repliers_then s i))))
  chooses-learns k i row gathered pair found c r sends empty =
      let busy = ap is_idle c.phase in
      let points = ap pointed c.phase in
      ending-learns s w.seven few k i row Stage.querying (responded k i row gathered pair found c) (accepted r sends Pending)
      (queried_row (row_of s row) (repliers_then s i)) (row_inside k i row found busy points) (row_first k i row found busy points) empty
      (unqueried s w (message_at s i).to.0 (to k i found) row points (ap stage_of c.phase)) refl
      (queried-names (row_of s row) (repliers_then s i))

  completes-learns : (k i row : ℕ) (sent : Pair) → seek k 0 s.flight ≡ Some i → Acks s i row sent → (r : Replica) → r.repliers ≡ 0 → (time : Time)
      → Learns s (Deliver k) (arrived s i r Nothing (set s.rows (row - 1) (completed (row_of s row) time sent (repliers_then s i))))
  completes-learns k i row sent found c r empty time =
      let busy = ap is_idle c.phase in
      let points = ap pointed c.phase in
      ending-learns s w.seven few k i row Stage.updating (acked k i row sent found c) (accepted r Nothing Pending)
      (completed (row_of s row) time sent (repliers_then s i)) (row_inside k i row found busy points) (row_first k i row found busy points) empty
      (unacked s w (row - 1) (row_inside k i row found busy points) (pending-answer (message_at s i).to.0 row s.rows (waited-row k i row found busy points)))
      refl
      (completed-names (row_of s row) time sent (repliers_then s i))

  -- a row that is begun
  begins-learns : (e : Event) (p x : ℕ) → Begins s p x → (phase : Phase) (request : Body) (row : Row) → ((stage : Stage) → named row stage ≡ 0)
      → is_delivery e ≡ false → Learns s e (begun s p phase request row)
  begins-learns e p x b phase request row nobody other =
      begun-learns s w.seven few e p b.actor (accepted (beginning s p phase) (asking s p request) Pending) row b.idle
      (idle-set s w p b.actor b.idle) nobody (not-delivered s e other)

  -- a message that does not count
  silent-learns : (k i : ℕ) → seek k 0 s.flight ≡ Some i → (r : Replica) (sends : Sends) → r.phase ≡ (recipient_at s i).phase
      → r.repliers ≡ (recipient_at s i).repliers → ((row j : ℕ) (stage : Stage) → Counts s (Deliver k) row j stage → ⊥)
      → Learns s (Deliver k) (arrived s i r sends s.rows)
  silent-learns k i found r sends phase set none =
      still-learns s w.seven few (Deliver k) (message_at s i).to.0 (to k i found) (accepted r sends Pending) (removed i s.flight) (s.delivered + 1)
      phase set none

begun-names : (p : ℕ) (kind : Kind) (x clock : ℕ) (stamp : Stamp) (value : ℤ) (stage : Stage) → named (begun_row p kind x clock stamp value) stage ≡ 0
begun-names p kind x clock stamp value Stage.idle = refl
begun-names p kind x clock stamp value Stage.querying = refl
begun-names p kind x clock stamp value Stage.updating = refl

pub move-learns : (s : State) → Well s → {e : Event} {t : State} → Move s e t → Learns s e t
move-learns s w (reads p x b) =
    begins-learns s w (Read p x) p.0 x b (Querying (new_row s) nothing_gathered) (Query x) (read_row p.0 x (next_clock s p.0))
    (begun-names p.0 ReadKind x (next_clock s p.0) start_stamp (pos 0)) refl
move-learns s w (writes p x value b) =
    let pair : Pair = written_by s p.0 value in
    begins-learns s w (Write p x value) p.0 x b (Updating (new_row s) pair) (Update x pair) (write_row p.0 x value (next_clock s p.0))
    (begun-names p.0 WriteKind x (next_clock s p.0) (stamp_of (next_clock s p.0) p.0) value) refl
move-learns s w (responds k i x d e) =
    silent-learns s w k i d.found (hearing s i (recipient_at s i).pairs) (replying s i (Response (stored (recipient_at s i) x))) refl refl
    (request-silent s w k i d.found (ap is_reply e))
move-learns s w (stores k i x pair d e) =
    silent-learns s w k i d.found (hearing s i (set (recipient_at s i).pairs (x - 1) (newer (stored (recipient_at s i) x) pair))) (replying s i Ack)
    refl refl (request-silent s w k i d.found (ap is_reply e))
move-learns s w (discards k i d c) = silent-learns s w k i d.found (recipient_at s i) Nothing refl refl (late-silent s w k i d.found c)
move-learns s w (counts k i row gathered pair d c l) =
    counting-learns s w.seven (few s w) k i row Stage.querying (responded s w k i row gathered pair d.found c)
    (accepted (counting s i (Querying row (gathered_with gathered pair))) Nothing Pending) refl refl refl
move-learns s w (chooses k i row gathered pair d c l) =
    chooses-learns s w k i row gathered pair d.found c (ending s i (Updating row (newer gathered.best pair)))
    (telling s i (row_of s row).register (newer gathered.best pair)) refl
move-learns s w (gathers k i row sent d c l) =
    counting-learns s w.seven (few s w) k i row Stage.updating (acked s w k i row sent d.found c)
    (accepted (counting s i (Updating row sent)) Nothing Pending) refl refl refl
move-learns s w (completes k i row sent d c l) =
    completes-learns s w k i row sent d.found c (ending s i Idle) refl (record { 0 = clock_then s i })
move-learns s w (crashes p a up) =
    still-learns s w.seven (few s w) (Crash p) p.0 a (accepted (down_now (replica_of s p.0)) Nothing Pending) s.flight s.delivered refl refl
    (not-delivered s (Crash p) refl)
move-learns s w (loses k i f down) =
    record {
      old = λ row j stage l h. lost h;
      new = λ row j stage l c. absurd (not-delivered s (Lose k) refl row j stage c);
      only = λ row j stage l h. inl (was h);
    }
  where
    lost : {row j : ℕ} {stage : Stage} → Known s row j stage → Known (without_message s i) row j stage
    lost (inl h) = inl h
    lost (inr h) = inr (record { process = h.process; within-n = h.within-n; waiting = h.waiting })

    was : {row j : ℕ} {stage : Stage} → Known (without_message s i) row j stage → Known s row j stage
    was (inl h) = inl h
    was (inr h) = inr (record { process = h.process; within-n = h.within-n; waiting = h.waiting })
