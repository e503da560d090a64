-- The replier set of a process holds only processes that have replied to its present request: its members are witnesses, and not just a byte.
use Rattle.std.specs.Prelude.{ℕ, ◌+◌, ◌≤◌, ◌≡◌, true, List, [], length, Some}
use Rattle.std.proofs.Math.Path.{refl, ap, subst}
use Rattle.std.proofs.Common.{sym, ◌∙◌, inl, inr, arith}
use Rattle.std.proofs.lemmas.Bool.{false≢true}
use Rattle.std.proofs.Math.Decide.{ℕ_discrete}
use Rattle.words.specs.declared.Body.{Body}
use Rattle.words.specs.declared.Message.{Message}
use Rattle.words.specs.Quorum.{member, joined, counted}
use Rattle.words.specs.QuorumLaws.{Inside, joined-only}
use Rattle.replica.specs.Answer.{Answer}
use Rattle.replica.specs.declared.Replica.{Replica}
use Rattle.replica.specs.Gathering.{gathered_with}
use Rattle.replica.specs.Handlers.{discarded, read_rule, write_rule, query_rule, update_rule, crash_rule}
use Rattle.tables.specs.declared.Row.{Row}
use Rattle.tables.specs.Tables.{seek, removed}
use Rattle.state.specs.declared.Event.{Event}
use Rattle.state.specs.declared.Event.TheVariants.{Read, Write, Deliver, Crash, Lose}
use Rattle.state.specs.State.{State, fresh, replica_of}
use Rattle.state.specs.Step.{moved, step}
use Rattle.state.specs.Accepted.{message_at, recipient_at, plain}
use Rattle.state.proofs.AcceptedLaws.{Invoked}
use Rattle.state.proofs.AcceptedLaws.{read-accepted, write-accepted, deliver-accepted, crash-accepted, lose-accepted}
use Rattle.state.specs.Counting.{Moment, Run}
use Rattle.state.specs.Counting.RunBy.{begun, then}
use Rattle.state.proofs.CountingLaws.{run-reached}
use Rattle.state.proofs.Keeps.{reached-well-formed}
use Rattle.state.proofs.WellLaws.{Well, well, message-at}
use Rattle.moves.specs.OfLaws.{member-empty}
use Rattle.moves.specs.Places.{own-after, other_after, fresh-replica}
use Rattle.moves.specs.Stages.{is_reply, stage_of, stage_for}
use Rattle.sc_abd.specs.Answers.{chosen, ended, asking, waiting, Answers, plain-answers}
use Rattle.sc_abd.specs.Answers.Answers.{replies, stores, discards, asks, chooses, waits, ends}
use Rattle.sc_abd.proofs.Idle.{idle-empty}
use Rattle.sc_abd.specs.Numbering.{found-place}
use Rattle.sc_abd.specs.Replied.{Replied, QuorumReplied, Filled, AllFilled, longer}
use Rattle.sc_abd.specs.Replied.Replied.{now, earlier}

none_filled : (p : ℕ) (r : Replica) (run : List Moment) → r.repliers ≡ 0 → Filled p r run
none_filled p r run e j h = absurd (false≢true (sym (member-empty j) ∙ ap (λ s. member s j) (sym e) ∙ h))

-- ---- one event more

module _ (s : State) (w : Well s) (run : List Moment) (filled : AllFilled s run) where
  -- a process that moves has its set filled: so have the others, as before
  moved-filled : (e : Event) (p : ℕ) → 1 ≤ p → p ≤ s.n → (answer : Answer) (flight : List Message) (delivered : ℕ) (rows : List Row)
      → Filled p answer.replica (longer s e run)
      → AllFilled (moved s p answer flight delivered rows) (longer s e run)
  moved-filled e p least most answer flight delivered rows own =
      record {
        each = λ q l. elim (ℕ_discrete q p) [
          | yes f ↦ rw (f, own-after s w.seven p least small answer.replica) own
          | no n ↦ rw (other_after s w.seven p least small answer.replica q l n) (λ j h. earlier (filled.each q l j h))
        ];
      }
    where
      small : p ≤ 7
      small = omega (arith, w.processes.most)

  same-filled : (e : Event) (p : ℕ) → 1 ≤ p → (r : Replica) → r.repliers ≡ (replica_of s p).repliers → r.rid.0 ≡ (replica_of s p).rid.0
      → r.phase ≡ (replica_of s p).phase → Filled p r (longer s e run)
  same-filled e p least r set rid phase = rw (set, rid, phase) (λ j h. earlier (filled.each p least j h))

  invoked-filled : (e : Event) (p x : ℕ) → Invoked s p x → (answer : Answer) (rows : List Row) → answer.replica.repliers ≡ (replica_of s p).repliers
      → AllFilled (moved s p answer s.flight s.delivered rows) (longer s e run)
  invoked-filled e p x i answer rows same =
      moved-filled e p i.actor.least i.actor.most answer s.flight s.delivered rows
      (none_filled p answer.replica _ (same ∙ idle-empty s p (replica_of s p).phase (replica_of s p).repliers i.idle (w.replica p i.actor).phase))

  -- ---- the message at place i is received

  module _ (k i : ℕ) (found : seek k 0 s.flight ≡ Some i) (p : ℕ) (least : 1 ≤ p) (to : (message_at s i).to.0 ≡ p) where
    abbrev After : Answer → Type 0
    After answer = Filled p answer.replica (longer s (Deliver k) run)

    still : After (discarded (replica_of s p))
    still = same-filled (Deliver k) p least (replica_of s p) refl refl refl

    -- a reply that counts: the members of the set have replied, and now its sender too
    module _ (reply : is_reply (message_at s i).body ≡ true) (present : (message_at s i).rid.0 ≡ (replica_of s p).rid.0)
        (stage : stage_for (message_at s i).body ≡ stage_of (replica_of s p).phase) where
      joined-replied : (j : ℕ) → member (joined (replica_of s p).repliers (message_at s i).from.0) j ≡ true
          → Replied p j (replica_of s p).rid.0 (stage_of (replica_of s p).phase) (longer s (Deliver k) run)
      joined-replied j h =
          elim (joined-only (replica_of s p).repliers (message_at s i).from.0 j h) [
            | inl e ↦
                now (record {
                  number = k;
                  place = i;
                  event = refl;
                  found = found;
                  reply = reply;
                  of-stage = stage;
                  sender = e;
                  recipient = to;
                  request = present;
                })
            | inr m ↦ earlier (filled.each p least j m)
          ]

      joins : (r : Replica) → r.repliers ≡ joined (replica_of s p).repliers (message_at s i).from.0 → r.rid.0 ≡ (replica_of s p).rid.0
          → stage_of r.phase ≡ stage_of (replica_of s p).phase → Filled p r (longer s (Deliver k) run)
      joins r set rid phase = rw (set, rid, phase) joined-replied

      -- where they are so many
      pub quorum-replied : (size : ℕ) → Inside s.n (joined (replica_of s p).repliers (message_at s i).from.0)
          → size ≤ counted (joined (replica_of s p).repliers (message_at s i).from.0)
          → QuorumReplied s.n size p (replica_of s p).rid.0 (stage_of (replica_of s p).phase) (longer s (Deliver k) run)
      quorum-replied size inside enough =
          record { processes = joined (replica_of s p).repliers (message_at s i).from.0; inside = inside; enough = enough; each = joined-replied }

    taken-filled : {register : ℕ} {body : Body} {answer : Answer} → Answers s.n register (replica_of s p) (message_at s i) body answer
        → (message_at s i).body ≡ body → After answer
    unfolding query_rule update_rule
    taken-filled (replies y) e = still
    taken-filled (stores y pair) e = still
    taken-filled (discards body) e = still
    taken-filled (asks pair row gathered f present few) e =
        joins (ap is_reply e) present (ap stage_for e ∙ ap stage_of (sym f))
        (asking (replica_of s p) (message_at s i).from (message_at s i).time row (gathered_with gathered pair)).replica refl refl (ap stage_of (sym f))
    taken-filled {register} (chooses pair row gathered f present many) e =
        none_filled p (chosen (replica_of s p) register (message_at s i).from (message_at s i).time row (gathered_with gathered pair).best).replica _ refl
    taken-filled (waits row sent f present few) e =
        joins (ap is_reply e) present (ap stage_for e ∙ ap stage_of (sym f))
        (waiting (replica_of s p) (message_at s i).from (message_at s i).time row sent).replica refl refl (ap stage_of (sym f))
    taken-filled (ends row sent f present many) e = none_filled p (ended (replica_of s p) (message_at s i).from (message_at s i).time sent).replica _ refl

  event-filled : (e : Event) → (step s e).refusal ≡ 0 → AllFilled (step s e).state (longer s e run)
  unfolding step read_rule write_rule crash_rule
  event-filled (Read p x) z =
      let c = read-accepted s p.0 x z in
      subst (λ t. AllFilled t (longer s (Read p x) run)) (sym c.1)
      (invoked-filled (Read p x) p.0 x c.0 (read_rule (replica_of s p.0) x (length s.rows + 1)) _ refl)
  event-filled (Write p x value) z =
      let c = write-accepted s p.0 x value z in
      subst (λ t. AllFilled t (longer s (Write p x value) run)) (sym c.1)
      (invoked-filled (Write p x value) p.0 x c.0 (write_rule (replica_of s p.0) p x value (length s.rows + 1)) _ refl)
  event-filled (Deliver k) z =
      let c = deliver-accepted s k z in
      let i = c.0 in
      let ok = message-at s w i c.1.found.inside in
      subst (λ t. AllFilled t (longer s (Deliver k) run)) (sym c.2)
      (moved-filled (Deliver k) (message_at s i).to.0 ok.recipient.least ok.recipient.most (plain s (recipient_at s i) (message_at s i))
      (removed i s.flight) _ _
      (taken-filled k i (found-place s w k i c.1.found) (message_at s i).to.0 ok.recipient.least refl
      (plain-answers s (recipient_at s i) (message_at s i) (message_at s i).body) refl))
  event-filled (Crash p) z =
      let c = crash-accepted s p.0 z in
      let actor = c.0.actor in
      subst (λ t. AllFilled t (longer s (Crash p) run)) (sym c.1)
      (moved-filled (Crash p) p.0 actor.least actor.most (crash_rule (replica_of s p.0)) s.flight _ _
      (same-filled (Crash p) p.0 actor.least (crash_rule (replica_of s p.0)).replica refl refl refl))
  event-filled (Lose k) z =
      let c = lose-accepted s k z in
      subst (λ t. AllFilled t (longer s (Lose k) run)) (sym c.2) (record { each = λ p l j h. earlier (filled.each p l j h) })

-- ---- so it is in every state of a run

pub repliers-replied : {s : State} {run : List Moment} → Run s run → AllFilled s run
repliers-replied (begun n m e f) = record { each = λ p l. none_filled p (replica_of (fresh n m) p) [] (ap (λ (r : Replica). r.repliers) (fresh-replica n m p)) }
repliers-replied (then s e run r z) = event-filled s (well s (reached-well-formed s (run-reached r))) run (repliers-replied r) e z
