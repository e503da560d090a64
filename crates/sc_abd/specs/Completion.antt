-- What completes an operation: an ack of the present request that makes as many as end its phase, a majority, and nothing else.
use Rattle.std.specs.Prelude.{ℕ, ◌-◌, ◌≤◌, ◌<◌, ◌≡◌, refl, ◌≢◌, ◌⊎◌, Bool, true, false, List, [], ◌∷◌, ◌++◌, length, get_or, set, Some}
use Rattle.std.proofs.Math.Path.{sym}
use Rattle.std.proofs.Common.{ap, subst, ◌∙◌, inl, inr, arith, get_or-set_same, get_or-set_other, leb-true}
use Rattle.std.proofs.lemmas.Bool.{false≢true}
use Rattle.std.proofs.Math.Decide.{ℕ_discrete}
use Rattle.std.proofs.Math.ListN.{get_or-append}
use Rattle.words.specs.declared.Body.{Body}
use Rattle.words.specs.declared.Body.TheVariants.{Ack}
use Rattle.words.specs.declared.Message.{Message}
use Rattle.words.specs.declared.Pair.{Pair}
use Rattle.words.specs.Quorum.{joined, counted}
use Rattle.words.specs.QuorumLaws.{Inside, joined-inside}
use Rattle.replica.specs.Answer.{Answer}
use Rattle.replica.specs.declared.Ended.{Ended}
use Rattle.replica.specs.declared.Ended.TheVariants.{Pending, Query as Queried, At}
use Rattle.replica.specs.declared.Phase.TheVariants.{Updating}
use Rattle.replica.specs.declared.Replica.{Replica}
use Rattle.replica.specs.Handlers.{query_rule, update_rule}
use Rattle.replica.specs.Numbers.{pointed}
use Rattle.tables.specs.declared.Row.{Row}
use Rattle.tables.specs.Tables.{empty_row, seek}
use Rattle.state.specs.declared.Event.{Event}
use Rattle.state.specs.declared.Event.TheVariants.{Read, Write, Deliver, Crash, Lose}
use Rattle.state.specs.Needed.{acks_needed, needed}
use Rattle.state.specs.State.{State, row_of}
use Rattle.state.specs.Step.{answered_rows, queried_row, completed, step}
use Rattle.state.specs.Accepted.{message_at, recipient_at, plain, deliver_next}
use Rattle.state.proofs.AcceptedLaws.{read-accepted, write-accepted, deliver-accepted, crash-accepted, lose-accepted}
use Rattle.state.specs.Within.{Within}
use Rattle.state.proofs.PendingLaws.{pending-within, pending-process}
use Rattle.state.specs.WellFormed.{pending_of}
use Rattle.state.proofs.WellLaws.{MessageOk, PhaseOk, ReplicaOk, Well, message-at}
use Rattle.sc_abd.specs.Answers.{is_majority, Answers, plain-answers}
use Rattle.sc_abd.specs.Answers.Answers.{replies, stores, discards, asks, chooses, waits, ends}
use Rattle.sc_abd.specs.Numbering.{found-place}

-- an ack of the present request, to the process that waits for that row; and with its sender the processes in the set are of 1..N and as many as end the
-- phase
pub record Completes (s : State) (e : Event) (row : ℕ) : Type 0 where
  pub number : ℕ
  pub place : ℕ
  pub event : e ≡ Deliver number
  pub found : seek number 0 s.flight ≡ Some place
  pub in-flight : place < length s.flight
  pub ack : (message_at s place).body ≡ Ack
  pub present : (message_at s place).rid.0 ≡ (recipient_at s place).rid.0
  pub sent : Pair
  pub phase : (recipient_at s place).phase ≡ Updating row sent
  pub process : (row_of s row).process.0 ≡ (message_at s place).to.0
  pub processes : Inside s.n (joined (recipient_at s place).repliers (message_at s place).from.0)
  pub enough : needed s (Updating row sent) ≤ counted (joined (recipient_at s place).repliers (message_at s place).from.0)

-- an operation goes on, whether its query phase has ended or not
abbrev goes_on : Ended → Bool
goes_on Pending = true
goes_on (Queried who) = true
goes_on (At time pair who) = false

-- an answer completes nothing, or it is to such an ack
record Ends (n : ℕ) (r : Replica) (m : Message) (body : Body) : Type 0 where
  pub ack : body ≡ Ack
  pub present : m.rid.0 ≡ r.rid.0
  pub row : ℕ
  pub sent : Pair
  pub phase : r.phase ≡ Updating row sent
  pub majority : is_majority n r m.from ≡ true

ends-or-not : {n register : ℕ} {r : Replica} {m : Message} {body : Body} {answer : Answer} → Answers n register r m body answer
    → (goes_on answer.ended ≡ true) ⊎ Ends n r m body
unfolding query_rule update_rule
ends-or-not (replies y) = inl refl
ends-or-not (stores y pair) = inl refl
ends-or-not (discards body) = inl refl
ends-or-not (asks pair row gathered f present few) = inl refl
ends-or-not (chooses pair row gathered f present many) = inl refl
ends-or-not (waits row sent f present few) = inl refl
ends-or-not (ends row sent f present many) = inr (record { ack = refl; present = present; row = row; sent = sent; phase = f; majority = many })

-- a row changes only where a phase ends
unended : (rows : List Row) (number : ℕ) (ended : Ended) (j : ℕ) → j ≢ number - 1 → get_or (answered_rows rows number ended) j empty_row ≡ get_or rows j empty_row
unended rows number Pending j n = refl
unended rows number (Queried who) j n = get_or-set_other rows (number - 1) j (queried_row (get_or rows (number - 1) empty_row) who) empty_row n
unended rows number (At time pair who) j n =
    get_or-set_other rows (number - 1) j (completed (get_or rows (number - 1) empty_row) time pair who) empty_row n

-- and its response time only where an operation completes
unanswered : (rows : List Row) (number : ℕ) (ended : Ended) (j : ℕ) → j < length rows → goes_on ended ≡ true
    → (get_or (answered_rows rows number ended) j empty_row).answered.0 ≡ (get_or rows j empty_row).answered.0
unanswered rows number Pending j l e = refl
unanswered rows number (Queried who) j l e =
    elim (ℕ_discrete j (number - 1)) [
      | yes f ↦
          ap (λ i. (get_or (set rows i (queried_row (get_or rows i empty_row) who)) j empty_row).answered.0) (sym f)
          ∙ ap (λ (r : Row). r.answered.0) (get_or-set_same rows j (queried_row (get_or rows j empty_row) who) empty_row l)
      | no n ↦ ap (λ (r : Row). r.answered.0) (unended rows number (Queried who) j n)
    ]
unanswered rows number (At time pair who) j l e = absurd (false≢true e)

module _ (s : State) (w : Well s) (row : ℕ) (old : Within row (length s.rows)) (pending : (row_of s row).answered.0 ≡ 0) where
  delivery-completes : (k i : ℕ) → i < length s.flight → seek k 0 s.flight ≡ Some i
      → (row_of (deliver_next s i) row).answered.0 ≢ 0 → Completes s (Deliver k) row
  delivery-completes k i l found new = go (ends-or-not (plain-answers s r m m.body))
    where
      m : Message
      m = message_at s i

      r : Replica
      r = recipient_at s i

      go : (goes_on (plain s r m).ended ≡ true) ⊎ Ends s.n r m m.body → Completes s (Deliver k) row
      go (inl e) =
          absurd (new (unanswered s.rows (pointed r.phase) (plain s r m).ended (row - 1) (omega (arith, old.least, old.most)) e ∙ pending))
      go (inr c) =
          record {
            number = k;
            place = i;
            event = refl;
            found = found;
            in-flight = l;
            ack = c.ack;
            present = c.present;
            sent = c.sent;
            phase = c.phase ∙ ap (λ x. Updating x c.sent) here;
            process = own_row;
            processes = joined-inside s.n r.repliers m.from.0 ok.sender.least ok.sender.most w.processes.most mine.inside;
            enough = leb-true (acks_needed s) (counted (joined r.repliers m.from.0)) c.majority;
          }
        where
          ok : MessageOk s m
          ok = message-at s w i l

          mine : ReplicaOk s m.to.0 r
          mine = w.replica m.to.0 ok.recipient

          waiting-row : pending_of m.to.0 1 s.rows ≡ c.row ∷ []
          waiting-row = (subst (λ x. PhaseOk s m.to.0 x r.repliers) c.phase mine.phase).0

          here : c.row ≡ row
          here =
              elim (ℕ_discrete c.row row) [
                | yes e ↦ e
                | no n ↦
                    let other : row - 1 ≢ pointed r.phase - 1 = λ e. n (omega (arith, ap pointed c.phase, old.least, (pending-within m.to.0 c.row s.rows waiting-row).least)) in
                    absurd (new (ap (λ (x : Row). x.answered.0) (unended s.rows (pointed r.phase) (plain s r m).ended (row - 1) other) ∙ pending))
              ]

          own_row : (row_of s row).process.0 ≡ m.to.0
          own_row = pending-process m.to.0 row s.rows (waiting-row ∙ ap (λ x. x ∷ []) here)

  -- behind the rows that were there others may be added
  unchanged : (new : Row) → (row_of s row).answered.0 ≡ (get_or (s.rows ++ (new ∷ [])) (row - 1) empty_row).answered.0
  unchanged new = ap (λ (x : Row). x.answered.0) (sym (get_or-append s.rows (new ∷ []) empty_row (row - 1) (omega (arith, old.least, old.most))))

  pub event-completes : (e : Event) → (step s e).refusal ≡ 0 → (row_of (step s e).state row).answered.0 ≢ 0 → Completes s e row
  unfolding step
  event-completes (Read p x) z new =
      let c = read-accepted s p.0 x z in
      absurd (new (ap (λ (t : State). (row_of t row).answered.0) c.1 ∙ sym (unchanged _) ∙ pending))
  event-completes (Write p x value) z new =
      let c = write-accepted s p.0 x value z in
      absurd (new (ap (λ (t : State). (row_of t row).answered.0) c.1 ∙ sym (unchanged _) ∙ pending))
  event-completes (Deliver k) z new =
      let c = deliver-accepted s k z in
      delivery-completes k c.0 c.1.found.inside (found-place s w k c.0 c.1.found)
      (λ e. new (ap (λ (t : State). (row_of t row).answered.0) c.2 ∙ e))
  event-completes (Crash p) z new =
      let c = crash-accepted s p.0 z in
      absurd (new (ap (λ (t : State). (row_of t row).answered.0) c.1 ∙ pending))
  event-completes (Lose k) z new =
      let c = lose-accepted s k z in
      absurd (new (ap (λ (t : State). (row_of t row).answered.0) c.2 ∙ pending))
