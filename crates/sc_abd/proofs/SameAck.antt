-- An ack is received: it counts for us exactly when it does for the algorithm, and then both do lines 24 to 30.
use Rattle.std.specs.Prelude.{ℕ, ◌+◌, ◌-◌, ◌<◌, max, ◌≡◌, ◌≢◌, Bool, true, false, cond, ◌&&◌, List, [], ◌∷◌, ◌++◌, map, eqb, ℤ, length, get_or, set}
use Rattle.std.proofs.Math.Path.{refl, ap}
use Rattle.std.proofs.Common.{sym, subst, subst₂, ◌∙◌, arith, get_or-set_other, eq-eqb, ne_eqb}
use Rattle.std.proofs.Math.Bool.{and-false}
use Rattle.std.proofs.Math.Decide.{ℕ_discrete}
use Rattle.words.specs.declared.Body.TheVariants.{Ack}
use Rattle.words.specs.declared.Message.{Message}
use Rattle.words.specs.declared.Pair.{Pair}
use Rattle.words.specs.declared.Time.{Time}
use Rattle.words.specs.Quorum.{member, counted}
use Rattle.replica.specs.Answer.{Answer}
use Rattle.replica.specs.declared.Phase.{Phase}
use Rattle.replica.specs.declared.Phase.TheVariants.{Idle, Querying, Updating}
use Rattle.replica.specs.declared.Replica.{Replica}
use Rattle.replica.specs.Handlers.{discarded, ack_counts, ack_taken, ack_rule}
use Rattle.replica.specs.Numbers.{pointed}
use Rattle.tables.specs.declared.Kind.{Kind}
use Rattle.tables.specs.declared.Kind.TheVariants.{Read, Write}
use Rattle.tables.specs.declared.Row.{Row}
use Rattle.tables.specs.Tables.{empty_row, removed}
use Rattle.state.specs.Needed.{needed}
use Rattle.state.specs.State.{State, replica_of, row_of}
use Rattle.state.specs.Step.{kept, completed}
use Rattle.state.specs.WellFormed.{pending_of}
use Rattle.state.specs.Accepted.{message_at}
use Rattle.state.specs.Within.{Within}
use Rattle.state.proofs.PendingLaws.{waits, waits-other, pending-within, pending-process, pending-same, pending_done}
use Rattle.state.proofs.WellLaws.{Well}
use Rattle.sc_abd.specs.Algorithm1.{Process, Reply, Return, Done, join, majority, unhandled, ack_counted as paper_counted, on_ack}
use Rattle.sc_abd.specs.System.{System, is_open, without, changing, returned_by, repliers_of, history_after}
use Rattle.sc_abd.specs.Same.{tsv_of, operation_of, pointed_rows, is_read, SameUpdate, SamePhase, SameProcess, Same}
use Rattle.sc_abd.specs.Answers.{with_sender, is_majority, ended, waiting, ack-answers}
use Rattle.sc_abd.proofs.Histories.{done_of, completed-operation, changing-row}
use Rattle.sc_abd.proofs.Repliers.{none-replied, joins, one_more, majority-test}
use Rattle.moves.specs.RequestNumbers.{Numbered}
use Rattle.moves.specs.Stages.{Stage, stage_of, stage_for}
use Rattle.moves.specs.PresentLaws.{not-counted, present-stage}
use Rattle.sc_abd.proofs.SameMove.{RowsKept, same-moved}
use Rattle.sc_abd.proofs.SameRequest.{system, history-returns, own, left, same_received, clock-after}
use Rattle.sc_abd.proofs.SameResponse.{next_by, same-discarded, sender-small, set-had}

idle-not-updating : Stage.idle ≡ Stage.updating → ⊥
idle-not-updating e = let z : ◌≡◌ {A = ℕ} 0 1 = cc in omega arith

querying-not-updating : Stage.querying ≡ Stage.updating → ⊥
querying-not-updating e = let z : ◌≡◌ {A = ℕ} 0 1 = cc in omega arith

-- ---- which rule is taken

module _ (r : Replica) (n : ℕ) (m : Message) where
  pub ack-not : m.rid.0 ≢ r.rid.0 → ack_rule r n m.from m.time m.rid ≡ discarded r
  unfolding ack_rule
  ack-not f = go r.phase
    where
      go : (phase : Phase) → ack_taken (ack_counts phase r.rid m.rid) r n m.from m.time ≡ discarded r
      go Idle = refl
      go (Querying row gathered) = refl
      go (Updating row sent) = rw (ne_eqb m.rid.0 r.rid.0 f) refl

  pub ack-for : (row : ℕ) (sent : Pair) → r.phase ≡ Updating row sent → m.rid.0 ≡ r.rid.0
      → ack_rule r n m.from m.time m.rid ≡ cond (is_majority n r m.from) (ended r m.from m.time sent) (waiting r m.from m.time row sent)
  unfolding ack_rule
  ack-for row sent f e =
      ap (λ phase. ack_taken (ack_counts phase r.rid m.rid) r n m.from m.time) f
      ∙ rw (eq-eqb m.rid.0 r.rid.0 e) (ack-answers r n m.from m.time row sent)

-- the same of the algorithm, by its own test
paper-not : (n : ℕ) (q : Process) (j lt rid : ℕ) → q.rid ≢ rid → on_ack n q j lt rid ≡ unhandled q
paper-not n q j lt rid f = rw (ne_eqb q.rid rid f) refl

paper-for : (n : ℕ) (q : Process) (j lt rid : ℕ) (responses : List Reply) → q.rid ≡ rid → join q.responses (Reply.only j) ≡ responses
    → on_ack n q j lt rid ≡ paper_counted n q (max q.lt lt + 1) responses
paper-for n q j lt rid responses e f = rw (eq-eqb q.rid rid e, f) refl

-- ---- the row that completes

-- the operations of the others are as they were
completed-kept : (s : State) (p row : ℕ) → pending_of p 1 s.rows ≡ row ∷ [] → (time : Time) (pair : Pair) (who : ℕ)
    → (q : ℕ) → (q ≡ p → ⊥) → RowsKept s (set s.rows (row - 1) (completed (row_of s row) time pair who)) q
completed-kept s p row e time pair who q n =
    record {
      pending = pending-same q 1 s.rows (row - 1) new (waits-other p q new owner n ∙ sym (waits-other p q (row_of s row) owner n));
      row = λ other f.
          get_or-set_other s.rows (row - 1) (other - 1) new empty_row
          (λ x. n (sym (pending-process q other s.rows f) ∙ ap (λ k. (get_or s.rows k empty_row).process.0) x ∙ owner));
    }
  where
    new : Row
    new = completed (row_of s row) time pair who

    owner : (row_of s row).process.0 ≡ p
    owner = pending-process p row s.rows e

-- the pair of a completed row is the one that was sent
kept-sent : (row : Row) (sent : Pair) (q : Process) (asks : Bool) → SameUpdate row sent q asks → tsv_of (kept row.kind row sent) ≡ q.tsv
kept-sent row sent q asks h = go row.kind h.reading
  where
    go : (k : Kind) → q.reading ≡ is_read k → tsv_of (kept k row sent) ≡ q.tsv
    go Read e = sym h.pair-sent
    go Write e = h.written e

-- a read is RETURNed the value that it wrote back, a write OK
returned : (k : Kind) (sent : Pair) (reading : Bool) (rval : ℤ) → reading ≡ is_read k → (reading ≡ true → rval ≡ sent.value)
    → done_of k sent ≡ cond reading (Return.value rval) Return.OK
returned Read sent reading rval e h = rw e (ap Return.value (sym (h e)))
returned Write sent reading rval e h = rw e refl

closed : (reading : Bool) (rval : ℤ) → is_open (cond reading (Return.value rval) Return.OK) ≡ false
closed true rval = refl
closed false rval = refl

-- ---- the message at place i, an ack to p

module _ (s : State) (w : Well s) (n : Numbered s) (a : System) (same : Same s a) (i : ℕ) (l : i < length s.flight) (p : ℕ) (actor : Within p s.n)
    (to : (message_at s i).to.0 ≡ p) (is : (message_at s i).body ≡ Ack) where
  -- those who have replied with this one
  abbrev had : List ℕ
  had = repliers_of s.n (join (a.processes p).responses (Reply.only (message_at s i).from.0))

  abbrev Meets : Answer → Done → Type 0
  Meets answer done = Same (next_by s i p answer) (system a i p had done)

  abbrev ours : Answer
  ours = ack_rule (replica_of s p) s.n (message_at s i).from (message_at s i).time (message_at s i).rid

  abbrev theirs : Done
  theirs = on_ack s.n (a.processes p) (message_at s i).from.0 (message_at s i).time.0 (message_at s i).rid.0

  counts : (row : ℕ) (sent : Pair) → (replica_of s p).phase ≡ Updating row sent → (message_at s i).rid.0 ≡ (replica_of s p).rid.0
      → Meets ours theirs
  counts row sent f e =
      subst₂ Meets (sym (ack-for r s.n m row sent f e))
      (sym (paper-for s.n q m.from.0 m.time.0 m.rid.0 after (sym mine.number ∙ sym e)
      (joins r.repliers q.responses mine.replies reply (sender-small s w n a same i l p actor to) new)))
      (go (is_majority s.n r m.from) refl)
    where
      m : Message
      m = message_at s i

      r : Replica
      r = replica_of s p

      q : Process
      q = a.processes p

      mine : SameProcess s p r q (a.asking p)
      mine = own s w a same i p actor

      reply : Reply
      reply = Reply.only m.from.0

      after : List Reply
      after = q.responses ++ (reply ∷ [])

      new : member r.repliers m.from.0 ≡ false
      new = not-counted s n i l p to (rw is refl) e actor.least

      phase : SameUpdate (row_of s row) sent q (a.asking p)
      phase = subst (λ ph. SamePhase s ph q (a.asking p)) f mine.phase

      only : pending_of p 1 s.rows ≡ row ∷ []
      only = mine.waits ∙ ap pointed_rows f

      test : eqb (length after) (majority s.n) ≡ is_majority s.n r m.from
      test = majority-test r.repliers q.responses mine.replies reply (sender-small s w n a same i l p actor to) new s.n (subst (λ ph. counted r.repliers < needed s ph) f (w.replica p actor).few)

      clock : max r.clock.0 m.time.0 + 1 ≡ max q.lt m.time.0 + 1
      clock = clock-after s w a same i p actor m

      time : Time
      time = record { 0 = max r.clock.0 m.time.0 + 1 }

      -- lines 26 to 30
      final : Done
      final =
          record {
            process =
                record {
                  lt = max q.lt m.time.0 + 1;
                  reading = q.reading;
                  rreg = q.rreg;
                  rid = q.rid + 1;
                  tsv = q.tsv;
                  rval = q.rval;
                  tvps = q.tvps;
                  responses = [];
                };
            sends = [];
            return = cond q.reading (Return.value q.rval) Return.OK;
          }

      row_done : Row
      row_done = completed (row_of s row) time sent (with_sender r m.from)

      told : map operation_of (set s.rows (row - 1) row_done) ≡ history_after p (a.asking p) had final a.history
      told =
          let h = pending-within p row s.rows only in
          let place : row ≡ 1 + (row - 1) = omega (arith, h.least) in
          changing-row p (returned_by had final) row_done 1 (row - 1) s.rows [] (only ∙ ap (λ k. k ∷ []) place)
          (completed-operation (row_of s row) time sent (with_sender r m.from) had final (omega arith) clock
          (kept-sent (row_of s row) sent q (a.asking p) phase)
          (returned (row_of s row).kind sent q.reading q.rval phase.reading phase.gives)
          (set-had s w n a same i l p actor to reply refl new))
          ∙ ap (changing p (returned_by had final)) same.history
          ∙ sym (history-returns p (a.asking p) had final a.history (closed q.reading q.rval))

      over : waits p row_done ≡ false
      over = ap (λ b. eqb row_done.process.0 p && b) (ne_eqb time.0 0 (λ e. omega arith)) ∙ and-false (eqb row_done.process.0 p)

      row-over : pending_of p 1 (set s.rows (row - 1) row_done) ≡ []
      row-over = pending_done p 1 s.rows (row - 1) row row_done (omega (arith, (pending-within p row s.rows only).least)) only over

      go : (b : Bool) → is_majority s.n r m.from ≡ b
          → Meets (cond b (ended r m.from m.time sent) (waiting r m.from m.time row sent)) (paper_counted s.n q (max q.lt m.time.0 + 1) after)
      go true h =
          rw (test ∙ h) (rw (ap pointed f)
          (same-moved s w a same p actor (ended r m.from m.time sent) (removed i s.flight) (s.delivered + 1)
          (set s.rows (row - 1) row_done) final (without i a.transit) (history_after p (a.asking p) had final a.history) refl
          (completed-kept s p row only time sent (with_sender r m.from))
          (record { clock = clock; number = ap (λ t. t + 1) mine.number; store = mine.store; replies = none-replied; waits = row-over; phase = refl })
          (left s w a same i p actor) refl told))
      go false h =
          rw (test ∙ h)
          (same_received s w a same i p actor (waiting r m.from m.time row sent) _ refl
          (record {
            clock = clock;
            number = mine.number;
            store = mine.store;
            replies = one_more r.repliers q.responses mine.replies reply (sender-small s w n a same i l p actor to) new;
            waits = only;
            phase =
                record {
                  asking = phase.asking;
                  reading = phase.reading;
                  pair-sent = phase.pair-sent;
                  gives = phase.gives;
                  written = phase.written;
                };
          })
          refl refl refl had)

  pub same-ack : Meets ours theirs
  same-ack =
      elim (ℕ_discrete (message_at s i).rid.0 (replica_of s p).rid.0) [
        | yes e ↦ updating (replica_of s p).phase refl e
        | no f ↦
            subst₂ Meets (sym (ack-not (replica_of s p) s.n (message_at s i) f))
            (sym (paper-not s.n (a.processes p) (message_at s i).from.0 (message_at s i).time.0 (message_at s i).rid.0
            (λ e. f (sym ((own s w a same i p actor).number ∙ e)))))
            (same-discarded s w n a same i l p actor to had)
      ]
    where
      stage : (message_at s i).rid.0 ≡ (replica_of s p).rid.0 → stage_of (replica_of s p).phase ≡ Stage.updating
      stage e =
          present-stage s n i l p to (rw is refl) e ∙ ap stage_for is

      updating : (phase : Phase) → (replica_of s p).phase ≡ phase → (message_at s i).rid.0 ≡ (replica_of s p).rid.0
          → Meets ours theirs
      updating (Updating row sent) g e = counts row sent g e
      updating Idle g e = absurd (idle-not-updating (ap stage_of (sym g) ∙ stage e))
      updating (Querying row gathered) g e = absurd (querying-not-updating (ap stage_of (sym g) ∙ stage e))
