-- The plan by what is gathered of a state is the plan of the state.
use Rattle.std.specs.Prelude.{ℕ, ◌+◌, ◌≡◌, refl, Bool, ℤ, length, get_or, Option, Some, None}
use Rattle.std.proofs.Common.{ap, ◌∙◌}
use Rattle.words.specs.declared.Body.{Body}
use Rattle.words.specs.declared.Body.TheVariants.{Query, Response, Update, Ack}
use Rattle.words.specs.declared.Message.{Message}
use Rattle.words.specs.declared.Pid.{Pid}
use Rattle.replica.specs.Answer.{Answer}
use Rattle.replica.specs.declared.Ended.{Ended}
use Rattle.replica.specs.declared.Ended.TheVariants.{Pending, Query as Queried, At}
use Rattle.replica.specs.declared.Phase.{Phase}
use Rattle.replica.specs.declared.Phase.TheVariants.{Idle, Querying, Updating}
use Rattle.replica.specs.declared.Replica.{Replica}
use Rattle.replica.specs.declared.Sends.{Sends}
use Rattle.replica.specs.declared.Sends.TheVariants.{Nothing, Reply, Broadcast}
use Rattle.replica.specs.Handlers.{crashed}
use Rattle.replica.specs.Numbers.{pointed}
use Rattle.tables.specs.declared.Row.{Row}
use Rattle.tables.specs.Tables.{empty_message, seek}
use Rattle.state.specs.declared.Event.{Event}
use Rattle.state.specs.declared.Event.TheVariants.{Read, Write, Deliver, Crash, Lose}
use Rattle.state.specs.State.{State, replica_of, row_of}
use Rattle.state.specs.Step.{check, full, invoke_refusal, deliver_refusal, crash_refusal, asked_register, heard_by, heard}
use Rattle.decide.specs.declared.Counters.{Counters}
use Rattle.decide.specs.declared.Plan.{Plan}
use Rattle.decide.specs.Plan.{settled, posted_by, written_by, accepted_plan, begun, begun_row, invoke_plan, deliver_plan, crash_plan, lose_plan, plan_of}
use Rattle.decide.specs.PlanBy.{first_of, accepted_by, register_asked, answer_by, answer_to, row_by, invoke_by, deliver_by, crash_by, lose_by, plan_by}
use Rattle.decide.specs.PlanBy.{counters_of, found_of, message_found, process_of, down_of}

module _ (s : State) where
  -- ---- the parts

  posted_is : (p : Pid) (sends : Sends) → first_of (counters_of s) p sends ≡ posted_by s p sends
  posted_is p Nothing = refl
  posted_is p (Reply to letter) = refl
  posted_is p (Broadcast letter) = refl

  accepted-is : (p : Pid) (taken : Option ℕ) (answer : Answer) (row : Option (ℕ × Row)) → accepted_by (counters_of s) p taken answer row ≡ accepted_plan s p taken answer row
  accepted-is p taken answer row =
      ap (λ (posted : Option (Message × ℕ)). let plan : Plan = record { replica = Some (p, answer.replica); taken = taken; posted = posted; row = row } in plan) (posted_is p answer.sends)

  row_is : (number : ℕ) (ended : Ended) → row_by (row_of s number) number ended ≡ written_by s number ended
  row_is number Pending = refl
  row_is number (Queried who) = refl
  row_is number (At time pair who) = refl

  -- what a recipient answers, by the row that was gathered
  asked_is : (phase : Phase) → register_asked phase (row_of s (pointed phase)) ≡ asked_register s phase
  asked_is Idle = refl
  asked_is (Querying number gathered) = refl
  asked_is (Updating number sent) = refl

  body_is : (r : Replica) (m : Message) (x : Body) → answer_by x s.n (asked_register s r.phase) r m ≡ heard_by s r m x
  body_is r m (Query x) = refl
  body_is r m (Response pair) = refl
  body_is r m (Update x pair) = refl
  body_is r m Ack = refl

  answer-is : (r : Replica) (m : Message) → answer_to s.n (register_asked r.phase (row_of s (pointed r.phase))) r m ≡ heard s r m
  answer-is r m = ap (λ (a : ℕ). answer_to s.n a r m) (asked_is r.phase) ∙ body_is r m m.body

  -- ---- the events

  invoke-is : (p : Pid) (x : ℕ) (written : Option ℤ) → invoke_by (counters_of s) p x written (replica_of s p.0) ≡ invoke_plan s p x written
  unfolding invoke_by invoke_plan
  invoke-is p x written =
      let answer = begun (replica_of s p.0) p x (length s.rows + 1) written in
      ap (settled (invoke_refusal s p.0 x answer.refusal)) (accepted-is p None answer (Some (length s.rows, begun_row p x answer.replica.clock.0 written)))

  deliver-is : (found : Option ℕ)
      → deliver_by (counters_of s) found (message_found s.flight found) (replica_of s (message_found s.flight found).to.0) (row_of s (pointed (replica_of s (message_found s.flight found).to.0).phase)) ≡ deliver_plan s found
  unfolding deliver_by deliver_plan
  deliver-is None = refl
  deliver-is (Some i) =
      let m : Message = get_or s.flight i empty_message in
      let r : Replica = replica_of s m.to.0 in
      let refusal = λ (a : Answer). check (full s) 17 (deliver_refusal s r a) in
      ap (λ (a : Answer). settled (refusal a) (accepted_by (counters_of s) m.to (Some i) a (row_by (row_of s (pointed r.phase)) (pointed r.phase) a.ended))) (answer-is r m)
      ∙ ap (λ (row : Option (ℕ × Row)). settled (refusal (heard s r m)) (accepted_by (counters_of s) m.to (Some i) (heard s r m) row)) (row_is (pointed r.phase) (heard s r m).ended)
      ∙ ap (settled (refusal (heard s r m))) (accepted-is m.to (Some i) (heard s r m) (written_by s (pointed r.phase) (heard s r m).ended))

  crash-is : (p : Pid) → crash_by (counters_of s) p (replica_of s p.0) ≡ crash_plan s p
  unfolding crash_by crash_plan
  crash-is p =
      let answer = crashed (replica_of s p.0) in
      ap (settled (crash_refusal s p.0 answer.refusal)) (accepted-is p None answer None)

  lose-is : (found : Option ℕ) → lose_by (counters_of s) found (down_of s (message_found s.flight found)) ≡ lose_plan s found
  unfolding lose_by lose_plan
  lose-is None = refl
  lose-is (Some i) = refl

  event-is : (event : Event)
      → plan_by (counters_of s) event (found_of s event) (message_found s.flight (found_of s event)) (down_of s (message_found s.flight (found_of s event)))
      (replica_of s (process_of event (message_found s.flight (found_of s event))).0) (row_of s (pointed (replica_of s (process_of event (message_found s.flight (found_of s event))).0).phase)) ≡ plan_of s event
  unfolding plan_by plan_of
  event-is (Read p x) = invoke-is p x None
  event-is (Write p x value) = invoke-is p x (Some value)
  event-is (Deliver k) = deliver-is (seek k 0 s.flight)
  event-is (Crash p) = crash-is p
  event-is (Lose k) = lose-is (seek k 0 s.flight)

  pub gathered_plan : (event : Event) (c : Counters) (found : Option ℕ) (message : Message) (down : Bool) (r : Replica) (row : Row)
      → c ≡ counters_of s → found ≡ found_of s event → message ≡ message_found s.flight found → down ≡ down_of s message → r ≡ replica_of s (process_of event message).0 → row ≡ row_of s (pointed r.phase)
      → plan_by c event found message down r row ≡ plan_of s event
  gathered_plan event c found message down r row e₁ e₂ e₃ e₄ e₅ e₆ = rw (e₆, e₅, e₄, e₃, e₂, e₁) (event-is event)
