-- A response is received: it counts for us exactly when it does for the algorithm, and then both do lines 8 to 15.
use Rattle.std.specs.Prelude.{ℕ, ◌+◌, ◌-◌, ◌≤◌, ◌<◌, max, ◌≡◌, ◌≢◌, Bool, true, false, cond, List, [], ◌∷◌, ◌++◌, map, eqb, length, get_or, set}
use Rattle.std.proofs.Math.Path.{refl, ap}
use Rattle.std.proofs.Common.{sym, ap₂, subst, subst₂, ◌∙◌, arith, get_or-set_same, get_or-set_other, eq-eqb, ne_eqb}
use Rattle.std.proofs.lemmas.Bool.{false≢true}
use Rattle.std.proofs.Math.Decide.{ℕ_discrete}
use Rattle.words.specs.declared.Body.TheVariants.{Response}
use Rattle.words.specs.declared.Message.{Message}
use Rattle.words.specs.declared.Pair.{Pair}
use Rattle.words.specs.Quorum.{member, joined, counted}
use Rattle.words.specs.QuorumLaws.{joined-inside}
use Rattle.replica.specs.Answer.{Answer}
use Rattle.replica.specs.declared.Gathered.{Gathered}
use Rattle.replica.specs.declared.Phase.{Phase}
use Rattle.replica.specs.declared.Phase.TheVariants.{Idle, Querying, Updating}
use Rattle.replica.specs.declared.Replica.{Replica}
use Rattle.replica.specs.Gathering.{gathered_with}
use Rattle.replica.specs.Handlers.{discarded, response_counts, response_taken, response_rule}
use Rattle.replica.specs.Numbers.{pointed}
use Rattle.tables.specs.declared.Kind.{Kind}
use Rattle.tables.specs.declared.Kind.TheVariants.{Read, Write}
use Rattle.tables.specs.declared.Row.{Row}
use Rattle.tables.specs.Tables.{empty_row, removed}
use Rattle.state.specs.Needed.{needed}
use Rattle.state.specs.State.{State, replica_of, row_of}
use Rattle.state.specs.Step.{moved, message_of, queried_row, answered_rows, asked_register}
use Rattle.state.specs.WellFormed.{pending_of, is_write}
use Rattle.state.specs.Accepted.{message_at}
use Rattle.state.specs.Within.{Within}
use Rattle.state.proofs.PendingLaws.{pending-within, pending-process, pending-same}
use Rattle.state.proofs.WellLaws.{PhaseOk, Well, message-at}
use Rattle.sc_abd.specs.Algorithm1.{Tsv, Content, Process, Reply, Return, Done, bcast, join, max_tsv, max_of, majority}
use Rattle.sc_abd.specs.Algorithm1.{unhandled, response_counted as paper_counted, on_response}
use Rattle.sc_abd.specs.System.{System, without, changing, gone_on, asks_after, replier, repliers_of, history_after}
use Rattle.sc_abd.specs.Same.{tsv_of, processes_in, operation_of, pointed_rows, is_read, SameReplies, SameQuery, SameUpdate, SamePhase, SameProcess, Same}
use Rattle.sc_abd.specs.Answers.{with_sender, is_majority, chosen, asking, response-answers}
use Rattle.sc_abd.proofs.Histories.{queried-operation, changing-row}
use Rattle.sc_abd.proofs.Packets.{packets-sent, asks-all}
use Rattle.sc_abd.proofs.Repliers.{none-replied, joins, one_more, majority-test, max-more}
use Rattle.sc_abd.proofs.ProcessesLaws.{processes-replied}
use Rattle.moves.specs.RequestNumbers.{Numbered}
use Rattle.moves.specs.Stages.{Stage, stage_of, stage_for}
use Rattle.moves.specs.PresentLaws.{not-counted, present-stage}
use Rattle.sc_abd.proofs.SameMove.{RowsKept, same-moved}
use Rattle.sc_abd.proofs.SameRequest.{bench, system, history-goes-on, own, left, same_received, still, clock-after, tsv-newer}

-- the bench after the message at place i was received by p with this answer, its row answered
abbrev pub next_by : State → ℕ → ℕ → Answer → State
next_by s i p answer =
    moved s p answer (removed i s.flight) (s.delivered + 1) (answered_rows s.rows (pointed (replica_of s p).phase) answer.ended)

read-kind : (k : Kind) → is_write k ≡ false → is_read k ≡ true
read-kind Read e = refl
read-kind Write e = sym e

idle-not-querying : Stage.idle ≡ Stage.querying → ⊥
idle-not-querying e = let z : ◌≡◌ {A = ℕ} 0 1 = cc in omega arith

updating-not-querying : Stage.updating ≡ Stage.querying → ⊥
updating-not-querying e = let z : ◌≡◌ {A = ℕ} 0 1 = cc in omega arith

-- ---- which rule is taken

module _ (r : Replica) (n : ℕ) (m : Message) (pair : Pair) where
  pub response-not : (x : ℕ) → m.rid.0 ≢ r.rid.0 → response_rule r n x m.from m.time m.rid pair ≡ discarded r
  unfolding response_rule
  response-not x f = go r.phase
    where
      go : (phase : Phase) → response_taken (response_counts phase r.rid m.rid) r n x m.from m.time pair ≡ discarded r
      go Idle = refl
      go (Querying row gathered) = rw (ne_eqb m.rid.0 r.rid.0 f) refl
      go (Updating row sent) = refl

  response-for : (s : State) (row : ℕ) (gathered : Gathered) → r.phase ≡ Querying row gathered → m.rid.0 ≡ r.rid.0
      → response_rule r n (asked_register s r.phase) m.from m.time m.rid pair
      ≡ cond (is_majority n r m.from) (chosen r (row_of s row).register m.from m.time row (gathered_with gathered pair).best) (asking r m.from m.time row (gathered_with gathered pair))
  unfolding response_rule
  response-for s row gathered f e =
      ap (λ phase. response_taken (response_counts phase r.rid m.rid) r n (asked_register s phase) m.from m.time pair) f
      ∙ rw (eq-eqb m.rid.0 r.rid.0 e) (response-answers r n (row_of s row).register m.from m.time row (gathered_with gathered pair))

-- the same of the algorithm, by its own test
paper-not : (n i : ℕ) (q : Process) (j lt rid : ℕ) (tsv : Tsv) → q.rid ≢ rid → on_response n i q j lt rid tsv ≡ unhandled q
paper-not n i q j lt rid tsv f = rw (ne_eqb q.rid rid f) refl

paper-for : (n i : ℕ) (q : Process) (j lt rid : ℕ) (tsv : Tsv) (responses : List Reply) → q.rid ≡ rid → join q.responses (Reply.pair tsv j) ≡ responses
    → on_response n i q j lt rid tsv ≡ paper_counted n i q (max q.lt lt + 1) responses
paper-for n i q j lt rid tsv responses e f = rw (eq-eqb q.rid rid e, f) refl

-- ---- the row whose query phase ends

-- the operations of the others are as they were
queried-kept : (s : State) (p row : ℕ) → pending_of p 1 s.rows ≡ row ∷ [] → (who : ℕ)
    → (q : ℕ) → (q ≡ p → ⊥) → RowsKept s (set s.rows (row - 1) (queried_row (row_of s row) who)) q
queried-kept s p row e who q n =
    record {
      pending = pending-same q 1 s.rows (row - 1) (queried_row (row_of s row) who) refl;
      row = λ other f.
          get_or-set_other s.rows (row - 1) (other - 1) (queried_row (row_of s row) who) empty_row
          (λ x. n
          (sym (pending-process q other s.rows f) ∙ ap (λ k. (get_or s.rows k empty_row).process.0) x ∙ pending-process p row s.rows e));
    }

-- ---- the message at place i, a reply to p

module _ (s : State) (w : Well s) (n : Numbered s) (a : System) (same : Same s a) (i : ℕ) (l : i < length s.flight) (p : ℕ) (actor : Within p s.n)
    (to : (message_at s i).to.0 ≡ p) where
  -- one that does not count changes nothing
  pub same-discarded : (had : List ℕ) → Same (bench s i p (discarded (replica_of s p))) (system a i p had (unhandled (a.processes p)))
  same-discarded had =
      same_received s w a same i p actor (discarded (replica_of s p)) (unhandled (a.processes p)) refl (still s w a same i p actor (discarded (replica_of s p)))
      refl refl refl had

  pub sender-small : (message_at s i).from.0 ≤ 7
  sender-small = omega (arith, (message-at s w i l).sender.most, w.processes.most)

  -- a reply that is not counted yet: with it, the set is that of the processes in `responses`
  module _ (reply : Reply) (from : replier reply ≡ (message_at s i).from.0) (new : member (replica_of s p).repliers (message_at s i).from.0 ≡ false) where
    pub set-had : processes_in (with_sender (replica_of s p) (message_at s i).from) ≡ repliers_of s.n (join (a.processes p).responses reply)
    set-had =
        let mine = own s w a same i p actor in
        let ok = message-at s w i l in
        let small : replier reply ≤ 7 = omega (arith, from, sender-small) in
        let unknown : member (replica_of s p).repliers (replier reply) ≡ false = ap (member (replica_of s p).repliers) from ∙ new in
        processes-replied s.n (with_sender (replica_of s p) (message_at s i).from) ((a.processes p).responses ++ (reply ∷ [])) w.processes.most
        (joined-inside s.n (replica_of s p).repliers (message_at s i).from.0 ok.sender.least ok.sender.most w.processes.most
        (w.replica p actor).inside)
        (subst (λ j. SameReplies (joined (replica_of s p).repliers j) ((a.processes p).responses ++ (reply ∷ []))) from
        (one_more (replica_of s p).repliers (a.processes p).responses mine.replies reply small unknown))
        ∙ ap (repliers_of s.n) (sym (joins (replica_of s p).repliers (a.processes p).responses mine.replies reply small unknown))

  module _ (pair : Pair) (is : (message_at s i).body ≡ Response pair) where
    -- those who have replied with this one
    abbrev had : List ℕ
    had = repliers_of s.n (join (a.processes p).responses (Reply.pair (tsv_of pair) (message_at s i).from.0))

    abbrev Meets : Answer → Done → Type 0
    Meets answer done = Same (next_by s i p answer) (system a i p had done)

    abbrev ours : Answer
    ours =
        response_rule (replica_of s p) s.n (asked_register s (replica_of s p).phase)
        (message_at s i).from (message_at s i).time (message_at s i).rid pair

    abbrev theirs : Done
    theirs = on_response s.n p (a.processes p) (message_at s i).from.0 (message_at s i).time.0 (message_at s i).rid.0 (tsv_of pair)

    module _ (row : ℕ) (gathered : Gathered) (f : (replica_of s p).phase ≡ Querying row gathered) (e : (message_at s i).rid.0 ≡ (replica_of s p).rid.0) where
      counts : Meets ours theirs
      counts =
          subst₂ Meets (sym (response-for r s.n m pair s row gathered f e))
          (sym (paper-for s.n p q m.from.0 m.time.0 m.rid.0 (tsv_of pair) after (sym mine.number ∙ sym e)
          (joins r.repliers q.responses mine.replies reply sender-small new)))
          (go (is_majority s.n r m.from) refl)
        where
          m : Message
          m = message_at s i

          r : Replica
          r = replica_of s p

          q : Process
          q = a.processes p

          mine : SameProcess s p r q (a.asking p)
          mine = own s w a same i p actor

          reply : Reply
          reply = Reply.pair (tsv_of pair) m.from.0

          after : List Reply
          after = q.responses ++ (reply ∷ [])

          more : Gathered
          more = gathered_with gathered pair

          new : member r.repliers m.from.0 ≡ false
          new = not-counted s n i l p to (rw is refl) e actor.least

          phase : SameQuery (row_of s row) gathered.best q (a.asking p)
          phase = subst (λ ph. SamePhase s ph q (a.asking p)) f mine.phase

          only : pending_of p 1 s.rows ≡ row ∷ []
          only = mine.waits ∙ ap pointed_rows f

          kind : is_read (row_of s row).kind ≡ true
          kind = read-kind (row_of s row).kind (subst (λ ph. PhaseOk s p ph r.repliers) f (w.replica p actor).phase).1

          greatest : max_of after ≡ tsv_of more.best
          greatest = max-more q.responses (tsv_of pair) m.from.0 ∙ ap (λ v. max_tsv v (tsv_of pair)) phase.best-so-far ∙ sym (tsv-newer gathered.best pair)

          test : eqb (length after) (majority s.n) ≡ is_majority s.n r m.from
          test = majority-test r.repliers q.responses mine.replies reply sender-small new s.n (subst (λ ph. counted r.repliers < needed s ph) f (w.replica p actor).few)

          clock : max r.clock.0 m.time.0 + 1 ≡ max q.lt m.time.0 + 1
          clock = clock-after s w a same i p actor m

          who : ℕ
          who = with_sender r m.from

          row-then : Row
          row-then = queried_row (row_of s row) who

          inside : row - 1 < length s.rows
          inside = let h = pending-within p row s.rows only in omega (arith, h.least, h.most)

          -- lines 10 to 15
          onward : Done
          onward =
              record {
                process =
                    record {
                      lt = max q.lt m.time.0 + 1;
                      reading = q.reading;
                      rreg = q.rreg;
                      rid = q.rid + 1;
                      tsv = max_of after;
                      rval = (max_of after).value;
                      tvps = q.tvps;
                      responses = [];
                    };
                sends = bcast s.n p (Content.update (max q.lt m.time.0 + 1) (q.rid + 1) q.rreg (max_of after));
                return = Return.none;
              }

          tells : asks_after (a.asking p) onward.sends ≡ false
          tells = asks-all s.n p (a.asking p) _ w.processes.least

          told : map operation_of (set s.rows (row - 1) row-then) ≡ history_after p (a.asking p) had onward a.history
          told =
              let place : row ≡ 1 + (row - 1) = omega (arith, (pending-within p row s.rows only).least) in
              changing-row p (gone_on had) row-then 1 (row - 1) s.rows [] (only ∙ ap (λ k. k ∷ []) place)
              (queried-operation (row_of s row) who had (set-had reply refl new))
              ∙ ap (changing p (gone_on had)) same.history
              ∙ sym (history-goes-on p (a.asking p) had onward a.history refl phase.asking tells)

          updates : SameUpdate row-then more.best onward.process (asks_after (a.asking p) onward.sends)
          updates =
              record {
                asking = tells;
                reading = phase.reading ∙ sym kind;
                pair-sent = greatest;
                gives = λ t. ap (λ (v : Tsv). v.value) greatest;
                written = λ t. absurd (false≢true (sym t ∙ phase.reading));
              }

          go : (b : Bool) → is_majority s.n r m.from ≡ b
              → Meets (cond b (chosen r (row_of s row).register m.from m.time row more.best) (asking r m.from m.time row more))
              (paper_counted s.n p q (max q.lt m.time.0 + 1) after)
          go true h =
              rw (test ∙ h) (rw (ap pointed f)
              (same-moved s w a same p actor (chosen r (row_of s row).register m.from m.time row more.best) (removed i s.flight)
              (s.delivered + 1) (set s.rows (row - 1) row-then) onward (without i a.transit)
              (history_after p (a.asking p) had onward a.history) refl (queried-kept s p row only who)
              (record {
                clock = clock;
                number = ap (λ t. t + 1) mine.number;
                store = mine.store;
                replies = none-replied;
                waits = pending-same p 1 s.rows (row - 1) row-then refl ∙ only;
                phase =
                    subst (λ x. SameUpdate x more.best onward.process (asks_after (a.asking p) onward.sends))
                    (sym (get_or-set_same s.rows (row - 1) row-then empty_row inside)) updates;
              })
              (left s w a same i p actor)
              (packets-sent s.n (message_of (s.sent + 1) p 1 _)
              ∙ ap₂ (λ t u. bcast s.n p (Content.update t (u + 1) (row_of s row).register (tsv_of more.best))) clock mine.number
              ∙ ap₂ (λ x v. bcast s.n p (Content.update (max q.lt m.time.0 + 1) (q.rid + 1) x v)) (sym phase.register) (sym greatest))
              told))
          go false h =
              rw (test ∙ h)
              (same_received s w a same i p actor (asking r m.from m.time row more) _ refl
              (record {
                clock = clock;
                number = mine.number;
                store = mine.store;
                replies = one_more r.repliers q.responses mine.replies reply sender-small new;
                waits = only;
                phase = record { asking = phase.asking; reading = phase.reading; register = phase.register; best-so-far = greatest };
              })
              refl refl refl had)

    pub same-response : Meets ours theirs
    same-response =
        elim (ℕ_discrete (message_at s i).rid.0 (replica_of s p).rid.0) [
          | yes e ↦ querying (replica_of s p).phase refl e
          | no f ↦
              subst₂ Meets (sym (response-not (replica_of s p) s.n (message_at s i) pair _ f))
              (sym (paper-not s.n p (a.processes p) (message_at s i).from.0 (message_at s i).time.0 (message_at s i).rid.0 (tsv_of pair)
              (λ e. f (sym ((own s w a same i p actor).number ∙ e)))))
              (same-discarded had)
        ]
      where
        stage : (message_at s i).rid.0 ≡ (replica_of s p).rid.0 → stage_of (replica_of s p).phase ≡ Stage.querying
        stage e =
            present-stage s n i l p to (rw is refl) e ∙ ap stage_for is

        querying : (phase : Phase) → (replica_of s p).phase ≡ phase → (message_at s i).rid.0 ≡ (replica_of s p).rid.0
            → Meets ours theirs
        querying (Querying row gathered) g e = counts row gathered g e
        querying Idle g e = absurd (idle-not-querying (ap stage_of (sym g) ∙ stage e))
        querying (Updating row sent) g e = absurd (updating-not-querying (ap stage_of (sym g) ∙ stage e))
