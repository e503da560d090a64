-- What a user of the bench may rely on, in a user's words.
use Rattle.std.specs.Prelude.{ℕ, ◌+◌, ◌-◌, ◌≡◌, refl, ◌≢◌, true, List, length, Some}
use Rattle.std.proofs.Common.{sym, ap, subst, subst₂, ◌∙◌, append-nil, arith}
use Rattle.std.proofs.lemmas.Bool.{false≢true}
use Rattle.std.proofs.lemmas.List.{set-get_or}
use Rattle.words.specs.declared.Body.{Body}
use Rattle.words.specs.declared.Body.TheVariants.{Query, Response, Update, Ack}
use Rattle.words.specs.declared.Message.{Message}
use Rattle.replica.specs.declared.Replica.{Replica}
use Rattle.replica.specs.Handlers.{discarded}
use Rattle.tables.specs.declared.Kind.TheVariants.{Read}
use Rattle.tables.specs.Tables.{seek, removed}
use Rattle.state.specs.declared.Event.{Event}
use Rattle.state.specs.declared.Event.TheVariants.{Deliver}
use Rattle.state.specs.Needed.{responses_needed, acks_needed}
use Rattle.state.specs.State.{State, fresh_replica, replica_of, row_of}
use Rattle.state.specs.Step.{asked_register, step}
use Rattle.state.specs.Accepted.{message_at, recipient_at, plain, plain_by, deliver_next}
use Rattle.state.proofs.AcceptedLaws.{deliver-accepted}
use Rattle.state.specs.Within.{Within}
use Rattle.state.proofs.WellLaws.{MessageOk, Well, well, message-at}
use Rattle.state.specs.Counting.{Moment, Run}
use Rattle.state.proofs.CountingLaws.{run-reached}
use Rattle.state.proofs.Keeps.{reached-well-formed}
use Rattle.sc_abd.specs.Demand2.{ReachedBy}
use Rattle.moves.specs.Stages.{Stage, is_reply, stage_of, stage_for}
use Rattle.sc_abd.proofs.SameAck.{ack-not}
use Rattle.sc_abd.proofs.SameResponse.{next_by, response-not}
use Rattle.sc_abd.specs.Numbering.{found-place}
use Rattle.sc_abd.specs.Completion.{Completes, event-completes}
use Rattle.sc_abd.specs.Replied.{QuorumReplied, Queried, Majorities, UpdatesRead, longer}
use Rattle.sc_abd.proofs.RepliedKept.{quorum-replied, repliers-replied}
use Rattle.sc_abd.proofs.QueriedKept.{reads-queried}
use Rattle.sc_abd.proofs.Theorem.{reached-well, step-meets-demand2}

-- ---- a refused event changes nothing

pub refused-changes-nothing : (s : State) (e : Event) → ReachedBy step s → ((step s e).refusal ≡ 0 → ⊥) → (step s e).state ≡ s
refused-changes-nothing s e r n = step-meets-demand2.refused s e r n

-- ---- a reply that is not of the present request changes nothing but its own place in flight, and the counts of events and deliveries

abbrev pub without_reply : State → ℕ → State
without_reply s i =
    record {
      n = s.n;
      m = s.m;
      accepted = s.accepted + 1;
      sent = s.sent;
      delivered = s.delivered + 1;
      lost = s.lost;
      replicas = s.replicas;
      flight = removed i s.flight;
      rows = s.rows;
    }

late-discarded : (s : State) (r : Replica) (m : Message) (body : Body) → is_reply body ≡ true → m.rid.0 ≢ r.rid.0 → plain_by s r m body ≡ discarded r
late-discarded s r m (Query x) e f = absurd (false≢true e)
late-discarded s r m (Response pair) e f = response-not r s.n m pair (asked_register s r.phase) f
late-discarded s r m (Update x pair) e f = absurd (false≢true e)
late-discarded s r m Ack e f = ack-not r s.n m f

discarded-next : (s : State) (i : ℕ) → plain s (recipient_at s i) (message_at s i) ≡ discarded (recipient_at s i) → deliver_next s i ≡ without_reply s i
discarded-next s i e =
    let p = (message_at s i).to.0 in
    let none : s.sent + 0 ≡ s.sent = omega arith in
    ap (next_by s i p) e
    ∙ rw (none, set-get_or s.replicas (p - 1) fresh_replica, append-nil) refl

-- the place that a delivery's event names is the one whose message is delivered
delivered-place : (s : State) → Well s → (k i : ℕ) → seek k 0 s.flight ≡ Some i → (step s (Deliver k)).refusal ≡ 0
    → (step s (Deliver k)).state ≡ deliver_next s i
unfolding step
delivered-place s w k i found z =
    let c = deliver-accepted s k z in
    let j = c.0 in
    let there : seek k 0 s.flight ≡ Some j = found-place s w k j c.1.found in
    let same : j ≡ i = cc in
    c.2 ∙ ap (deliver_next s) same

pub late-reply-changes-nothing : (s : State) → ReachedBy step s → (k i : ℕ) → seek k 0 s.flight ≡ Some i → (step s (Deliver k)).refusal ≡ 0
    → is_reply (message_at s i).body ≡ true → (message_at s i).rid.0 ≢ (recipient_at s i).rid.0 → (step s (Deliver k)).state ≡ without_reply s i
late-reply-changes-nothing s r k i found z reply late =
    delivered-place s (reached-well r) k i found z
    ∙ discarded-next s i (late-discarded s (recipient_at s i) (message_at s i) (message_at s i).body reply late)

-- ---- no operation is complete before its majority has replied: of a read, to its query and then to its update; of a write, to its update

-- a row that was pending and is answered after an event: of its process, and of the request number that this had before the event
pub complete-after-majority : {s : State} {run : List Moment} → Run s run → (e : Event) → (step s e).refusal ≡ 0
    → (row : ℕ) → Within row (length s.rows) → (row_of s row).answered.0 ≡ 0 → (row_of (step s e).state row).answered.0 ≢ 0
    → Majorities s (row_of s row).process.0 (replica_of s (row_of s row).process.0).rid.0 (row_of s row).kind run (record { before = s; event = e })
complete-after-majority {s} {run} run-to e z row old pending new =
    subst₂ (λ p x. Majorities s p (replica_of s p).rid.0 (row_of s row).kind run (record { before = s; event = x }))
    (sym c.process) (sym c.event) (record { responses = responses; acks = acks })
  where
    w : Well s
    w = well s (reached-well-formed s (run-reached run-to))

    c : Completes s e row
    c = event-completes s w row old pending e z new

    m : Message
    m = message_at s c.place

    r : Replica
    r = recipient_at s c.place

    ok : MessageOk s m
    ok = message-at s w c.place c.in-flight

    responses : (row_of s row).kind ≡ Read → Queried s.n (responses_needed s) m.to.0 r.rid.0 run
    responses read = (reads-queried run-to).each m.to.0 ok.recipient (subst (UpdatesRead s.rows) (sym c.phase) read)

    acks : QuorumReplied s.n (acks_needed s) m.to.0 r.rid.0 Stage.updating (longer s (Deliver c.number) run)
    acks =
        subst (λ x. QuorumReplied s.n (acks_needed s) m.to.0 r.rid.0 (stage_of x) (longer s (Deliver c.number) run)) c.phase
        (quorum-replied s w run (repliers-replied run-to) c.number c.place c.found m.to.0 ok.recipient.least refl
        (ap is_reply c.ack) c.present (ap stage_for c.ack ∙ ap stage_of (sym c.phase)) (acks_needed s)
        c.processes c.enough)
