-- Event by event: the plan of an event is what `step` says.
use Rattle.std.specs.Prelude.{ℕ, ◌+◌, ◌-◌, ◌<◌, ◌≤◌, ◌≡◌, refl, Bool, true, false, not, cond, ◌||◌, List, [], ◌∷◌, ◌++◌, leb, ℤ, length, get_or, set, Option, Some, None, Err}
use Rattle.std.proofs.Common.{arith, sym, ap, subst, ◌∙◌, length-append, leb-false, ltb-false}
use Rattle.std.proofs.Math.Seq.{take-length}
use Rattle.words.specs.declared.Message.{Message}
use Rattle.words.specs.declared.Pid.{Pid}
use Rattle.words.specs.Ranges.{within}
use Rattle.replica.specs.Answer.{Answer}
use Rattle.replica.specs.declared.Ended.{Ended}
use Rattle.replica.specs.declared.Ended.TheVariants.{Pending, Query as Queried, At}
use Rattle.replica.specs.declared.Phase.{Phase}
use Rattle.replica.specs.declared.Phase.TheVariants.{Idle, Querying, Updating}
use Rattle.replica.specs.declared.Replica.{Replica}
use Rattle.replica.specs.declared.Sends.TheVariants.{Nothing}
use Rattle.replica.specs.Handlers.{is_idle, read_begun, write_begun, crashed}
use Rattle.replica.specs.Numbers.{sent_by, pointed}
use Rattle.tables.specs.declared.Row.{Row}
use Rattle.tables.specs.Tables.{empty_message, empty_row, seek, removed}
use Rattle.tables.specs.TableLaws.{seek-at}
use Rattle.state.specs.declared.Event.{Event}
use Rattle.state.specs.declared.Event.TheVariants.{Read, Write, Deliver, Crash, Lose}
use Rattle.state.specs.State.{State, replica_of, row_of, laid_rows}
use Rattle.state.specs.Step.{outcome, check, full, no_room, invoke_refusal, deliver_refusal, crash_refusal, read_row, write_row, completed, queried_row, moved, answered_rows, without_message, heard}
use Rattle.state.specs.Step.{step, step_read, step_write, step_deliver, step_crash, step_lose, deliver_at, lose_at}
use Rattle.state.specs.Tabled.{bench_of}
use Rattle.state.proofs.AcceptedLaws.{passed}
use Rattle.state.proofs.Sized.{answered-length}
use Rattle.decide.specs.Plan.{accepted_plan, posted_by, settled, written_by, plan_of, invoke_plan, deliver_plan, crash_plan, lose_plan}
use Rattle.advance.specs.Answers.{read-begun, write-begun, crash-silent, answer-right, Waits, Waited}
use Rattle.advance.specs.Good.{Good, Points}
use Rattle.advance.specs.ListLaws.{laid, laid-set, laid_next}
use Rattle.advance.specs.Parts.{carried_bench, carried_rows, count_of}
use Rattle.advance.specs.Steps.{after, Carried, Done, by_number, kept-done, taken-done, lost-done, Mild}

invoke-room : (s : State) (p x later : ℕ) → invoke_refusal s p x later ≡ 0 → (length s.rows < 1024) × (length s.flight + s.n ≤ 512)
invoke-room s p x later e =
    let (a, e₁) = passed (full s) 17 _ refl e in
    let (b, e₂) = passed (not (within p s.n)) 8 _ refl e₁ in
    let (c, e₃) = passed (not (within x s.m)) 9 _ refl e₂ in
    let (d, e₄) = passed (replica_of s p).crashed 10 _ refl e₃ in
    let (f, e₅) = passed (not (is_idle (replica_of s p).phase)) 11 _ refl e₄ in
    let (g, e₆) = passed (leb 1024 (length s.rows)) 16 _ refl e₅ in
    let (h, e₇) = passed (no_room (length s.flight + s.n)) 15 later refl e₆ in
    (leb-false 1024 (length s.rows) g, ltb-false 512 (length s.flight + s.n) h)

-- ---- the rows that an answer leaves

-- the row that a waiting replica points to becomes another
row_done : (s : State) (row : Row) (phase : Phase) → Waits phase → Points s.rows phase → set (laid_rows s) (pointed phase - 1) row ≡ laid 1024 empty_row (set s.rows (pointed phase - 1) row)
row_done s row Idle w points = absurd w
row_done s row (Querying number gathered) w points = laid-set 1024 empty_row s.rows (number - 1) row (omega (arith, points.0, points.1))
row_done s row (Updating number sent) w points = laid-set 1024 empty_row s.rows (number - 1) row (omega (arith, points.0, points.1))

rows-done : (s : State) (ended : Ended) (phase : Phase) → Waited ended phase → Points s.rows phase
    → carried_rows (written_by s (pointed phase) ended) (laid_rows s) ≡ laid 1024 empty_row (answered_rows s.rows (pointed phase) ended)
rows-done s Pending phase w points = refl
rows-done s (Queried who) phase w points = row_done s (queried_row (row_of s (pointed phase)) who) phase w points
rows-done s (At time pair who) phase w points = row_done s (completed (row_of s (pointed phase)) time pair who) phase w points

-- ---- refusals that stand before the others

full-first : (s : State) (u : Bool) (number : ℕ) (next : State) → cond u (outcome s 17 s) (outcome s number next) ≡ outcome s (cond u 17 number) next
full-first s true number next = refl
full-first s false number next = refl

missing-done : (s : State) (event : Event) (u : Bool) → Done (Err (check u 17 12)) event s (cond u (outcome s 17 s) (outcome s 12 s))
missing-done s event true = (refl, refl)
missing-done s event false = (refl, refl)

module _ (s : State) (g : Good s) where
  -- an operation begins
  begin-carried : (p : Pid) (x : ℕ) (event : Event) (answer : Answer) (row : Row) → Mild answer.sends → ((n : ℕ) → sent_by n answer.sends ≤ n) → invoke_refusal s p.0 x answer.refusal ≡ 0
      → carried_bench (accepted_plan s p None answer (Some (length s.rows, row))) event (bench_of s) ≡ after s (s.sent + count_of (posted_by s p answer.sends)) s.delivered s.lost (length s.flight + count_of (posted_by s p answer.sends)) (length s.rows + 1) (set s.replicas (p.0 - 1) answer.replica)
      → Carried (accepted_plan s p None answer (Some (length s.rows, row))) event s (moved s p.0 answer s.flight s.delivered (s.rows ++ (row ∷ [])))
  begin-carried p x event answer row mild most z tally =
      let room = invoke-room s p.0 x answer.refusal z in
      kept-done s g p answer mild (Some (length s.rows, row)) (s.rows ++ (row ∷ [])) (laid_next 1024 empty_row s.rows row room.0) event (omega (arith, room.1, most s.n)) (length s.rows + 1) (sym (length-append s.rows (row ∷ []))) tally

  pub read_done : (p : Pid) (x : ℕ) → Done (plan_of s (Read p x)) (Read p x) s (step s (Read p x))
  unfolding plan_of invoke_plan step step_read
  read_done p x =
      let answer = read_begun (replica_of s p.0) x (length s.rows + 1) in
      let row = read_row p.0 x answer.replica.clock.0 in
      by_number s (Read p x) (invoke_refusal s p.0 x answer.refusal) (accepted_plan s p None answer (Some (length s.rows, row))) (moved s p.0 answer s.flight s.delivered (s.rows ++ (row ∷ [])))
      λ z. begin-carried p x (Read p x) answer row (read-begun (replica_of s p.0) x (length s.rows + 1)).0 (read-begun (replica_of s p.0) x (length s.rows + 1)).1 z refl

  pub write_done : (p : Pid) (x : ℕ) (value : ℤ) → Done (plan_of s (Write p x value)) (Write p x value) s (step s (Write p x value))
  unfolding plan_of invoke_plan step step_write
  write_done p x value =
      let answer = write_begun (replica_of s p.0) p x value (length s.rows + 1) in
      let row = write_row p.0 x value answer.replica.clock.0 in
      by_number s (Write p x value) (invoke_refusal s p.0 x answer.refusal) (accepted_plan s p None answer (Some (length s.rows, row))) (moved s p.0 answer s.flight s.delivered (s.rows ++ (row ∷ [])))
      λ z. begin-carried p x (Write p x value) answer row (write-begun (replica_of s p.0) p x value (length s.rows + 1)).0 (write-begun (replica_of s p.0) p x value (length s.rows + 1)).1 z refl

  pub crash-done : (p : Pid) → Done (plan_of s (Crash p)) (Crash p) s (step s (Crash p))
  unfolding plan_of crash_plan step step_crash
  crash-done p =
      let answer = crashed (replica_of s p.0) in
      let silent : answer.sends ≡ Nothing = crash-silent (replica_of s p.0) in
      by_number s (Crash p) (crash_refusal s p.0 answer.refusal) (accepted_plan s p None answer None) (moved s p.0 answer s.flight s.delivered s.rows)
      λ z. kept-done s g p answer (subst Mild (sym silent) tt) None s.rows refl (Crash p) (subst (λ sends. length s.flight + sent_by s.n sends ≤ 512) (sym silent) (omega (arith, g.flight))) (length s.rows) refl refl

  found_within : (k i : ℕ) → Some i ≡ seek k 0 s.flight → i < length s.flight
  found_within k i e = (seek-at k (length s.flight) i s.flight (e ∙ sym (ap (seek k 0) (take-length s.flight)))).0

  deliver-room : (r : Replica) (answer : Answer) → check (full s) 17 (deliver_refusal s r answer) ≡ 0 → length s.flight - 1 + sent_by s.n answer.sends ≤ 512
  deliver-room r answer e =
      let (a, e₁) = passed (full s) 17 (deliver_refusal s r answer) refl e in
      let (b, e₂) = passed r.crashed 13 _ refl e₁ in
      let (c, e₃) = passed (no_room (length s.flight - 1 + sent_by s.n answer.sends)) 15 answer.refusal refl e₂ in
      ltb-false 512 (length s.flight - 1 + sent_by s.n answer.sends) c

  deliver-done : (k : ℕ) (f : Option ℕ) → f ≡ seek k 0 s.flight → Done (deliver_plan s f) (Deliver k) s (cond (full s) (outcome s 17 s) (deliver_at s f))
  unfolding deliver_plan
  deliver-done k None e = missing-done s (Deliver k) (full s)
  deliver-done k (Some i) e =
      let m : Message = get_or s.flight i empty_message in
      let r : Replica = replica_of s m.to.0 in
      let answer : Answer = heard s r m in
      let l : i < length s.flight = found_within k i e in
      let right = answer-right s r m (g.sender i l) in
      let rows : List Row = answered_rows s.rows (pointed r.phase) answer.ended in
      let next = moved s m.to.0 answer (removed i s.flight) (s.delivered + 1) rows in
      let row = written_by s (pointed r.phase) answer.ended in
      subst (Done (deliver_plan s (Some i)) (Deliver k) s) (sym (full-first s (full s) (deliver_refusal s r answer) next))
      (by_number s (Deliver k) (check (full s) 17 (deliver_refusal s r answer)) (accepted_plan s m.to (Some i) answer row) next
      (λ z. taken-done s g m.to answer right.0 row rows (rows-done s answer.ended r.phase right.1 (g.points i l)) k i l (deliver-room r answer z) (answered-length s.rows (pointed r.phase) answer.ended)))

  lose-by : (k i : ℕ) → i < length s.flight → (u v : Bool)
      → Done (settled (check u 17 (check v 14 0)) (record { replica = None; taken = Some i; posted = None; row = None })) (Lose k) s (cond u (outcome s 17 s) (outcome s (check v 14 0) (without_message s i)))
  lose-by k i l true v = (refl, refl)
  lose-by k i l false true = (refl, refl)
  lose-by k i l false false = (refl, lost-done s g k i l)

  lose-done : (k : ℕ) (f : Option ℕ) → f ≡ seek k 0 s.flight → Done (lose_plan s f) (Lose k) s (cond (full s) (outcome s 17 s) (lose_at s f))
  unfolding lose_plan
  lose-done k None e = missing-done s (Lose k) (full s)
  lose-done k (Some i) e =
      let m : Message = get_or s.flight i empty_message in
      lose-by k i (found_within k i e) (full s) (not ((replica_of s m.from.0).crashed || (replica_of s m.to.0).crashed))

  pub event-done : (event : Event) → Done (plan_of s event) event s (step s event)
  unfolding plan_of step step_deliver step_lose
  event-done (Read p x) = read_done p x
  event-done (Write p x value) = write_done p x value
  event-done (Deliver k) = deliver-done k (seek k 0 s.flight) refl
  event-done (Crash p) = crash-done p
  event-done (Lose k) = lose-done k (seek k 0 s.flight) refl
