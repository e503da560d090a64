-- A process that updates for a read has queried before: as many as end a query phase have responded to the request before its present one.
use Rattle.std.specs.Prelude.{ℕ, ◌+◌, ◌-◌, ◌≤◌, ◌≡◌, true, List, [], ◌∷◌, ◌++◌, length, get_or, Some}
use Rattle.std.proofs.Math.Path.{refl, subst}
use Rattle.std.proofs.Common.{sym, ap, ◌∙◌, arith, leb-true}
use Rattle.std.proofs.Math.Decide.{ℕ_discrete}
use Rattle.words.specs.declared.Body.{Body}
use Rattle.words.specs.declared.Body.TheVariants.{Response}
use Rattle.words.specs.declared.Message.{Message}
use Rattle.words.specs.declared.Pair.{Pair}
use Rattle.words.specs.Quorum.{joined, counted}
use Rattle.words.specs.QuorumLaws.{joined-inside}
use Rattle.replica.specs.Answer.{Answer}
use Rattle.replica.specs.declared.Phase.{Phase}
use Rattle.replica.specs.declared.Gathered.{Gathered}
use Rattle.replica.specs.declared.Phase.TheVariants.{Idle, Querying, Updating}
use Rattle.replica.specs.declared.Replica.{Replica}
use Rattle.replica.specs.Handlers.{discarded, read_rule, write_rule, query_rule, update_rule, crash_rule}
use Rattle.tables.specs.declared.Kind.TheVariants.{Read as ReadKind, Write as WriteKind}
use Rattle.tables.specs.declared.Row.{Row}
use Rattle.tables.specs.Tables.{empty_row, seek, removed}
use Rattle.state.specs.declared.Event.{Event}
use Rattle.state.specs.declared.Event.TheVariants.{Read, Write, Deliver, Crash, Lose}
use Rattle.state.specs.Needed.{responses_needed}
use Rattle.state.specs.State.{State, replica_of, row_of}
use Rattle.state.specs.Step.{moved, write_row, step}
use Rattle.state.specs.Accepted.{message_at, recipient_at, plain}
use Rattle.state.proofs.AcceptedLaws.{read-accepted, write-accepted, deliver-accepted, crash-accepted, lose-accepted}
use Rattle.state.specs.Counting.{Moment, Run}
use Rattle.state.specs.Counting.RunBy.{begun, then}
use Rattle.state.proofs.CountingLaws.{run-reached}
use Rattle.state.proofs.Keeps.{reached-well-formed}
use Rattle.state.proofs.KeepsInvoke.{added-last}
use Rattle.state.specs.Within.{Within}
use Rattle.state.proofs.PendingLaws.{pending-within}
use Rattle.state.proofs.RowsLaws.{row_stays}
use Rattle.state.proofs.WellLaws.{MessageOk, PhaseOk, Well, well, message-at}
use Rattle.sc_abd.specs.Answers.{is_majority, waiting, Answers, plain-answers}
use Rattle.sc_abd.specs.Answers.Answers.{replies, stores, discards, asks, chooses, waits, ends}
use Rattle.moves.specs.Places.{own-after, other_after, fresh-replica}
use Rattle.moves.specs.Stages.{Stage, is_reply, stage_of, stage_for}
use Rattle.sc_abd.specs.Numbering.{found-place}
use Rattle.sc_abd.specs.Replied.{QuorumReplied, Queried, AllFilled, UpdatesRead, AllQueried, longer}
use Rattle.sc_abd.specs.Replied.Replied.{earlier}
use Rattle.sc_abd.proofs.RepliedKept.{quorum-replied, repliers-replied}

queried-earlier : {n least p rid : ℕ} {moment : Moment} {run : List Moment} → Queried n least p rid run → Queried n least p rid (moment ∷ run)
queried-earlier q =
    record {
      query = q.query;
      next = q.next;
      responded =
          record {
            processes = q.responded.processes;
            inside = q.responded.inside;
            enough = q.responded.enough;
            each = λ j h. earlier (q.responded.each j h);
          };
    }

-- the rows of a state are of the same kinds in other rows
abbrev KindsStay : State → List Row → Type 0
KindsStay s rows = (row : ℕ) → Within row (length s.rows) → (get_or rows (row - 1) empty_row).kind ≡ (row_of s row).kind

-- so a process that updates for a read there did so before
updated-read : (s : State) (rows : List Row) → KindsStay s rows → (p : ℕ) (phase : Phase) (repliers : ℕ) → PhaseOk s p phase repliers
    → UpdatesRead rows phase → UpdatesRead s.rows phase
updated-read s rows kinds p Idle repliers ok u = u
updated-read s rows kinds p (Querying row gathered) repliers ok u = u
updated-read s rows kinds p (Updating row sent) repliers ok u = sym (kinds row (pending-within p row s.rows ok.0)) ∙ u

-- ---- one event more

module _ (s : State) (w : Well s) (run : List Moment) (filled : AllFilled s run) (queried : AllQueried s run) where
  -- what is to be shown of p's replica after it, with these rows
  abbrev QueriedFor : Event → List Row → ℕ → Replica → Type 0
  QueriedFor e rows p r = UpdatesRead rows r.phase → Queried s.n (responses_needed s) p r.rid.0 (longer s e run)

  same-queried : (e : Event) (rows : List Row) → KindsStay s rows → (p : ℕ) → Within p s.n → (r : Replica) → r.rid.0 ≡ (replica_of s p).rid.0
      → r.phase ≡ (replica_of s p).phase → QueriedFor e rows p r
  same-queried e rows kinds p actor r rid phase =
      rw (rid, phase) (λ u. queried-earlier
      (queried.each p actor (updated-read s rows kinds p (replica_of s p).phase (replica_of s p).repliers (w.replica p actor).phase u)))

  -- a process that moves has queried where it has to: so have the others, as before
  moved-queried : (e : Event) (p : ℕ) → Within p s.n → (answer : Answer) (flight : List Message) (delivered : ℕ) (rows : List Row)
      → KindsStay s rows → QueriedFor e rows p answer.replica → AllQueried (moved s p answer flight delivered rows) (longer s e run)
  moved-queried e p actor answer flight delivered rows kinds own =
      record {
        each = λ q l. elim (ℕ_discrete q p) [
          | yes f ↦ rw (f, own-after s w.seven p actor.least small answer.replica) own
          | no n ↦
              rw (other_after s w.seven p actor.least small answer.replica q l.least n) (same-queried e rows kinds q l (replica_of s q) refl refl)
        ];
      }
    where
      small : p ≤ 7
      small = omega (arith, actor.most, w.processes.most)

  -- ---- the message at place i is received

  module _ (k i : ℕ) (found : seek k 0 s.flight ≡ Some i) (ok : MessageOk s (message_at s i)) (p : ℕ) (actor : Within p s.n)
      (to : (message_at s i).to.0 ≡ p) (rows : List Row) (kinds : KindsStay s rows) where
    abbrev After : Answer → Type 0
    After answer = QueriedFor (Deliver k) rows p answer.replica

    still : After (discarded (replica_of s p))
    still = same-queried (Deliver k) rows kinds p actor (replica_of s p) refl refl

    -- the response that makes a majority
    responded : (pair : Pair) (row : ℕ) (gathered : Gathered) → (message_at s i).body ≡ Response pair → (replica_of s p).phase ≡ Querying row gathered
        → (message_at s i).rid.0 ≡ (replica_of s p).rid.0 → is_majority s.n (replica_of s p) (message_at s i).from ≡ true
        → QuorumReplied s.n (responses_needed s) p (replica_of s p).rid.0 Stage.querying (longer s (Deliver k) run)
    responded pair row gathered e f present many =
        let m = message_at s i in
        let r = replica_of s p in
        subst (λ x. QuorumReplied s.n (responses_needed s) p r.rid.0 (stage_of x) (longer s (Deliver k) run)) f
        (quorum-replied s w run filled k i found p actor.least to (ap is_reply e) present (ap stage_for e ∙ ap stage_of (sym f)) (responses_needed s)
        (joined-inside s.n r.repliers m.from.0 ok.sender.least ok.sender.most w.processes.most (w.replica p actor).inside)
        (leb-true (responses_needed s) (counted (joined r.repliers m.from.0)) many))

    taken-queried : {register : ℕ} {body : Body} {answer : Answer} → Answers s.n register (replica_of s p) (message_at s i) body answer
        → (message_at s i).body ≡ body → After answer
    unfolding query_rule update_rule
    taken-queried (replies y) e = still
    taken-queried (stores y pair) e = still
    taken-queried (discards body) e = still
    taken-queried (asks pair row gathered f present few) e = λ u. absurd u
    taken-queried (chooses pair row gathered f present many) e =
        λ u. record { query = (replica_of s p).rid.0; next = refl; responded = responded pair row gathered e f present many }
    taken-queried (waits row sent f present few) e =
        same-queried (Deliver k) rows kinds p actor (waiting (replica_of s p) (message_at s i).from (message_at s i).time row sent).replica refl (sym f)
    taken-queried (ends row sent f present many) e = λ u. absurd u

  -- ---- the events

  module _ (e : Event) (z : (step s e).refusal ≡ 0) where
    kinds-stay : (t : State) → (step s e).state ≡ t → KindsStay s t.rows
    kinds-stay t is row l = ap (λ (t : State). (row_of t row).kind) (sym is) ∙ row_stays (λ r. r.kind) (λ r who. refl) (λ r time pair who. refl) s e z row l

    moves : (p : ℕ) → Within p s.n → (answer : Answer) (flight : List Message) (delivered : ℕ) (rows : List Row)
        → (step s e).state ≡ moved s p answer flight delivered rows → (KindsStay s rows → QueriedFor e rows p answer.replica)
        → AllQueried (step s e).state (longer s e run)
    moves p actor answer flight delivered rows is own =
        let kinds = kinds-stay (moved s p answer flight delivered rows) is in
        subst (λ t. AllQueried t (longer s e run)) (sym is) (moved-queried e p actor answer flight delivered rows kinds (own kinds))

  -- a write's row is none of a read
  written-kind : (rows : List Row) (row : Row) → row.kind ≡ WriteKind → (get_or (rows ++ (row ∷ [])) (length rows + 1 - 1) empty_row).kind ≡ ReadKind → ⊥
  written-kind rows row kind u =
      let both : ReadKind ≡ WriteKind = sym u ∙ ap (λ (r : Row). r.kind) (added-last rows row) ∙ kind in
      let no : ◌≡◌ {A = ℕ} 0 1 = cc in
      omega arith

  event-queried : (e : Event) → (step s e).refusal ≡ 0 → AllQueried (step s e).state (longer s e run)
  unfolding step read_rule write_rule crash_rule
  event-queried (Read p x) z =
      let c = read-accepted s p.0 x z in
      moves (Read p x) z p.0 c.0.actor (read_rule (replica_of s p.0) x (length s.rows + 1)) s.flight s.delivered _ c.1
      (λ kinds u. absurd u)
  event-queried (Write p x value) z =
      let c = write-accepted s p.0 x value z in
      let answer = write_rule (replica_of s p.0) p x value (length s.rows + 1) in
      moves (Write p x value) z p.0 c.0.actor answer s.flight s.delivered _ c.1
      (λ kinds u. absurd (written-kind s.rows (write_row p.0 x value answer.replica.clock.0) refl u))
  event-queried (Deliver k) z =
      let c = deliver-accepted s k z in
      let i = c.0 in
      let ok = message-at s w i c.1.found.inside in
      moves (Deliver k) z (message_at s i).to.0 ok.recipient (plain s (recipient_at s i) (message_at s i)) (removed i s.flight) _ _ c.2
      (λ kinds. taken-queried k i (found-place s w k i c.1.found) ok (message_at s i).to.0 ok.recipient refl _ kinds
      (plain-answers s (recipient_at s i) (message_at s i) (message_at s i).body) refl)
  event-queried (Crash p) z =
      let c = crash-accepted s p.0 z in
      moves (Crash p) z p.0 c.0.actor (crash_rule (replica_of s p.0)) s.flight s.delivered s.rows c.1
      (λ kinds. same-queried (Crash p) s.rows kinds p.0 c.0.actor (crash_rule (replica_of s p.0)).replica refl refl)
  event-queried (Lose k) z =
      let c = lose-accepted s k z in
      subst (λ t. AllQueried t (longer s (Lose k) run)) (sym c.2) (record { each = λ p l u. queried-earlier (queried.each p l u) })

-- ---- so it is in every state of a run

pub reads-queried : {s : State} {run : List Moment} → Run s run → AllQueried s run
reads-queried (begun n m e f) = record { each = λ p l u. absurd (subst (λ (r : Replica). UpdatesRead [] r.phase) (fresh-replica n m p) u) }
reads-queried (then s e run r z) = event-queried s (well s (reached-well-formed s (run-reached r))) run (repliers-replied r) (reads-queried r) e z
