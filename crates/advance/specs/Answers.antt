-- What the handlers' answers say of what is sent and of what has ended, whether they refuse or not.
use Rattle.std.specs.Prelude.{ℕ, ◌≤◌, ◌≡◌, refl, Bool, true, false, cond, eqb, leb, ℤ, Some, None}
use Rattle.std.proofs.Common.{arith}
use Rattle.words.specs.declared.Body.{Body}
use Rattle.words.specs.declared.Body.TheVariants.{Query, Response, Update, Ack}
use Rattle.words.specs.declared.Message.{Message}
use Rattle.words.specs.declared.Pair.{Pair}
use Rattle.words.specs.declared.Pid.{Pid}
use Rattle.words.specs.declared.Rid.{Rid}
use Rattle.words.specs.declared.Time.{Time}
use Rattle.words.specs.Quorum.{joined, counted, majority_of}
use Rattle.replica.specs.Answer.{Answer}
use Rattle.replica.specs.declared.Gathered.{Gathered}
use Rattle.replica.specs.declared.Ended.{Ended}
use Rattle.replica.specs.declared.Ended.TheVariants.{Pending, Query as Queried, At}
use Rattle.replica.specs.declared.Phase.{Phase}
use Rattle.replica.specs.declared.Phase.TheVariants.{Idle, Querying, Updating}
use Rattle.replica.specs.declared.Replica.{Replica}
use Rattle.replica.specs.declared.Sends.TheVariants.{Nothing}
use Rattle.replica.specs.Handlers.{read_refusal, read_rule, read_begun, write_refusal, write_rule, write_begun, query_refusal, query_rule, query_received, update_refusal, update_rule, update_received}
use Rattle.replica.specs.Answer.{refused}
use Rattle.replica.specs.Handlers.{response_refusal, response_rule, response_received, response_counted, response_counts, response_taken, ack_refusal, ack_rule, ack_received, ack_counted, ack_counts, ack_taken, crash_refusal, crash_rule, crashed}
use Rattle.replica.specs.Gathering.{gathered_with}
use Rattle.replica.specs.Numbers.{sent_by}
use Rattle.state.specs.State.{State}
use Rattle.state.specs.Step.{asked_register, heard, heard_by}
use Rattle.advance.specs.Steps.{Mild}

-- what holds of a rule's answer and of a refusal holds of the handler's
unless : (P : Answer → Type 0) (u : Bool) (number : ℕ) (r : Replica) (rule : Answer) → P rule → P (refused number r) → P (cond u rule (refused number r))
unless P true number r rule a b = a
unless P false number r rule a b = b

either : (P : Answer → Type 0) (u : Bool) (a b : Answer) → P a → P b → P (cond u a b)
either P true a b x y = x
either P false a b x y = y

-- an invocation sends nothing, or one broadcast
abbrev Begun : Answer → Type 0
Begun a = Mild a.sends × ((n : ℕ) → sent_by n a.sends ≤ n)

pub read-begun : (r : Replica) (x row : ℕ) → Begun (read_begun r x row)
unfolding read_begun read_rule
read-begun r x row = unless Begun (eqb (read_refusal r x row) 0) (read_refusal r x row) r (read_rule r x row) (tt, λ n. omega arith) (tt, λ n. omega arith)

pub write-begun : (r : Replica) (me : Pid) (x : ℕ) (value : ℤ) (row : ℕ) → Begun (write_begun r me x value row)
unfolding write_begun write_rule
write-begun r me x value row = unless Begun (eqb (write_refusal r me x row) 0) (write_refusal r me x row) r (write_rule r me x value row) (tt, λ n. omega arith) (tt, λ n. omega arith)

-- a crash sends nothing
pub crash-silent : (r : Replica) → (crashed r).sends ≡ Nothing
unfolding crashed crash_rule
crash-silent r = unless (λ (a : Answer). a.sends ≡ Nothing) (eqb (crash_refusal r) 0) (crash_refusal r) r (crash_rule r) refl refl

abbrev pub Waits : Phase → Type 0
Waits Idle = ⊥
Waits (Querying number gathered) = Unit {0}
Waits (Updating number sent) = Unit {0}

-- a phase ends only while the replica waits
abbrev pub Waited : Ended → Phase → Type 0
Waited Pending phase = Unit {0}
Waited (Queried who) phase = Waits phase
Waited (At time pair who) phase = Waits phase

-- of a message received
abbrev Right : Phase → Answer → Type 0
Right phase a = Mild a.sends × Waited a.ended phase

module _ (r : Replica) (n asked : ℕ) (from : Pid) (time : Time) (rid : Rid) (near : from.0 ≤ 7) where
  pub query-right : (x : ℕ) → Right r.phase (query_received r from time rid x)
  unfolding query_received query_rule
  query-right x = unless (Right r.phase) (eqb (query_refusal r from time rid x) 0) (query_refusal r from time rid x) r (query_rule r from time rid x) (near, tt) (tt, tt)

  pub update-right : (x : ℕ) (pair : Pair) → Right r.phase (update_received r from time rid x pair)
  unfolding update_received update_rule
  update-right x pair = unless (Right r.phase) (eqb (update_refusal r from time rid x pair) 0) (update_refusal r from time rid x pair) r (update_rule r from time rid x pair) (near, tt) (tt, tt)

  response-counted : (row number : ℕ) (gathered best : Gathered) → Right (Querying number best) (response_counted r n asked from time row gathered)
  unfolding response_counted
  response-counted row number gathered best = either (Right (Querying number best)) (leb (majority_of n) (counted (joined r.repliers from.0))) _ _ (tt, tt) (tt, tt)

  response-taken : (phase : Phase) (pair : Pair) → Right phase (response_taken (response_counts phase r.rid rid) r n asked from time pair)
  response-taken Idle pair = (tt, tt)
  response-taken (Updating number sent) pair = (tt, tt)
  response-taken (Querying number gathered) pair = go (eqb rid.0 r.rid.0)
    where
      go : (u : Bool) → Right (Querying number gathered) (response_taken (cond u (Some (number, gathered)) None) r n asked from time pair)
      go true = response-counted number number (gathered_with gathered pair) gathered
      go false = (tt, tt)

  pub response-right : (pair : Pair) → Right r.phase (response_received r n asked from time rid pair)
  unfolding response_received response_rule
  response-right pair =
      unless (Right r.phase) (eqb (response_refusal r n asked from time rid pair) 0) (response_refusal r n asked from time rid pair) r (response_rule r n asked from time rid pair)
      (response-taken r.phase pair) (tt, tt)

  ack-counted : (row number : ℕ) (sent best : Pair) → Right (Updating number best) (ack_counted r n from time row sent)
  unfolding ack_counted
  ack-counted row number sent best = either (Right (Updating number best)) (leb (majority_of n) (counted (joined r.repliers from.0))) _ _ (tt, tt) (tt, tt)

  ack-taken : (phase : Phase) → Right phase (ack_taken (ack_counts phase r.rid rid) r n from time)
  ack-taken Idle = (tt, tt)
  ack-taken (Querying number gathered) = (tt, tt)
  ack-taken (Updating number sent) = go (eqb rid.0 r.rid.0)
    where
      go : (u : Bool) → Right (Updating number sent) (ack_taken (cond u (Some (number, sent)) None) r n from time)
      go true = ack-counted number number sent sent
      go false = (tt, tt)

  pub ack-right : Right r.phase (ack_received r n from time rid)
  unfolding ack_received ack_rule
  ack-right = unless (Right r.phase) (eqb (ack_refusal r n from time rid) 0) (ack_refusal r n from time rid) r (ack_rule r n from time rid) (ack-taken r.phase) (tt, tt)

pub answer-right : (s : State) (r : Replica) (m : Message) → m.from.0 ≤ 7 → Right r.phase (heard s r m)
answer-right s r m near = go m.body
  where
    go : (x : Body) → Right r.phase (heard_by s r m x)
    go (Query x) = query-right r s.n (asked_register s r.phase) m.from m.time m.rid near x
    go (Response pair) = response-right r s.n (asked_register s r.phase) m.from m.time m.rid near pair
    go (Update x pair) = update-right r s.n (asked_register s r.phase) m.from m.time m.rid near x pair
    go Ack = ack-right r s.n (asked_register s r.phase) m.from m.time m.rid near
