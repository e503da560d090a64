-- What the plain rules answer to a message, as cases. The four answers to a reply that counts: with it a majority has replied, or not yet.
use Rattle.std.specs.Prelude.{ℕ, ◌+◌, ◌≡◌, Bool, cond, eqb, leb, Some, None}
use Rattle.std.proofs.Math.Path.{refl}
use Rattle.std.proofs.Math.Bool.{true, false}
use Rattle.std.proofs.Common.{eqb-true}
use Rattle.words.specs.declared.Body.{Body}
use Rattle.words.specs.declared.Body.TheVariants.{Query, Response, Update, Ack}
use Rattle.words.specs.declared.Message.{Message}
use Rattle.words.specs.declared.Pair.{Pair}
use Rattle.words.specs.declared.Pid.{Pid}
use Rattle.words.specs.declared.Time.{Time}
use Rattle.words.specs.Quorum.{joined, counted, majority_of}
use Rattle.replica.specs.Answer.{Answer}
use Rattle.replica.specs.declared.Ended.TheVariants.{Pending, Query as Queried, At}
use Rattle.replica.specs.declared.Gathered.{Gathered}
use Rattle.replica.specs.declared.Phase.{Phase}
use Rattle.replica.specs.declared.Phase.TheVariants.{Idle, Querying, Updating}
use Rattle.replica.specs.declared.Replica.{Replica}
use Rattle.replica.specs.declared.Sends.TheVariants.{Nothing}
use Rattle.replica.specs.Clock.{after}
use Rattle.replica.specs.Gathering.{gathered_with}
use Rattle.replica.specs.Handlers.{became, discarded, broadcast_of, query_rule, update_rule}
use Rattle.replica.specs.Answer.{accepted}
use Rattle.replica.specs.Handlers.{response_counts, response_counted, response_taken, response_rule, ack_counts, ack_counted, ack_taken, ack_rule}
use Rattle.state.specs.State.{State}
use Rattle.state.specs.Step.{asked_register}
use Rattle.state.specs.Accepted.{plain_by}

-- the repliers with the sender
abbrev pub with_sender : Replica → Pid → ℕ
with_sender r from = joined r.repliers from.0

-- with the sender the repliers are a majority
abbrev pub is_majority : ℕ → Replica → Pid → Bool
is_majority n r from = leb (majority_of n) (counted (with_sender r from))

-- the greatest pair is chosen, and sent to all
abbrev pub chosen : Replica → ℕ → Pid → Time → ℕ → Pair → Answer
chosen r x from time row best =
    let clock = after r.clock.0 time.0 in
    let rid = r.rid.0 + 1 in
    accepted (became r clock rid (Updating row best) 0 r.pairs) (broadcast_of clock rid (Update x best)) (Queried (with_sender r from))

-- the operation completes
abbrev pub ended : Replica → Pid → Time → Pair → Answer
ended r from time sent =
    let clock = after r.clock.0 time.0 in
    accepted (became r clock (r.rid.0 + 1) Idle 0 r.pairs) Nothing (At (record { 0 = clock }) sent (with_sender r from))

-- the sender is counted
abbrev pub asking : Replica → Pid → Time → ℕ → Gathered → Answer
asking r from time row gathered =
    accepted (became r (after r.clock.0 time.0) r.rid.0 (Querying row gathered) (with_sender r from) r.pairs) Nothing Pending

abbrev pub waiting : Replica → Pid → Time → ℕ → Pair → Answer
waiting r from time row sent =
    accepted (became r (after r.clock.0 time.0) r.rid.0 (Updating row sent) (with_sender r from) r.pairs) Nothing Pending

pub response-answers : (r : Replica) (n x : ℕ) (from : Pid) (time : Time) (row : ℕ) (gathered : Gathered)
    → response_counted r n x from time row gathered ≡ cond (is_majority n r from) (chosen r x from time row gathered.best) (asking r from time row gathered)
unfolding response_counted
response-answers r n x from time row gathered = refl

pub ack-answers : (r : Replica) (n : ℕ) (from : Pid) (time : Time) (row : ℕ) (sent : Pair)
    → ack_counted r n from time row sent ≡ cond (is_majority n r from) (ended r from time sent) (waiting r from time row sent)
unfolding ack_counted
ack-answers r n from time row sent = refl

-- ---- the cases: a request is replied to; a reply that does not count is discarded; one that counts makes a majority, or does not

pub data Answers (n x : ℕ) (r : Replica) (m : Message) : Body → Answer → Type 0 where
  replies : (y : ℕ) → Answers n x r m (Query y) (query_rule r m.from m.time m.rid y)
  stores : (y : ℕ) (pair : Pair) → Answers n x r m (Update y pair) (update_rule r m.from m.time m.rid y pair)
  discards : (body : Body) → Answers n x r m body (discarded r)
  asks : (pair : Pair) (row : ℕ) (gathered : Gathered) → r.phase ≡ Querying row gathered → m.rid.0 ≡ r.rid.0 → is_majority n r m.from ≡ false
      → Answers n x r m (Response pair) (asking r m.from m.time row (gathered_with gathered pair))
  chooses : (pair : Pair) (row : ℕ) (gathered : Gathered) → r.phase ≡ Querying row gathered → m.rid.0 ≡ r.rid.0 → is_majority n r m.from ≡ true
      → Answers n x r m (Response pair) (chosen r x m.from m.time row (gathered_with gathered pair).best)
  waits : (row : ℕ) (sent : Pair) → r.phase ≡ Updating row sent → m.rid.0 ≡ r.rid.0 → is_majority n r m.from ≡ false
      → Answers n x r m Ack (waiting r m.from m.time row sent)
  ends : (row : ℕ) (sent : Pair) → r.phase ≡ Updating row sent → m.rid.0 ≡ r.rid.0 → is_majority n r m.from ≡ true
      → Answers n x r m Ack (ended r m.from m.time sent)

module _ (n x : ℕ) (r : Replica) (m : Message) where
  abbrev Given : Body → Answer → Type 0
  Given = Answers n x r m

  response-given : (pair : Pair) (phase : Phase) → r.phase ≡ phase
      → Given (Response pair) (response_taken (response_counts phase r.rid m.rid) r n x m.from m.time pair)
  unfolding response_counted
  response-given pair Idle f = Answers.discards (Response pair)
  response-given pair (Updating row sent) f = Answers.discards (Response pair)
  response-given pair (Querying row gathered) f = counts (eqb m.rid.0 r.rid.0) refl
    where
      made : m.rid.0 ≡ r.rid.0 → (b : Bool) → is_majority n r m.from ≡ b
          → Given (Response pair) (cond b (chosen r x m.from m.time row (gathered_with gathered pair).best) (asking r m.from m.time row (gathered_with gathered pair)))
      made present true h = Answers.chooses pair row gathered f present h
      made present false h = Answers.asks pair row gathered f present h

      counts : (b : Bool) → eqb m.rid.0 r.rid.0 ≡ b
          → Given (Response pair) (response_taken (cond b (Some (row, gathered)) None) r n x m.from m.time pair)
      counts true g = made (eqb-true _ _ g) (is_majority n r m.from) refl
      counts false g = Answers.discards (Response pair)

  ack-given : (phase : Phase) → r.phase ≡ phase → Given Ack (ack_taken (ack_counts phase r.rid m.rid) r n m.from m.time)
  unfolding ack_counted
  ack-given Idle f = Answers.discards Ack
  ack-given (Querying row gathered) f = Answers.discards Ack
  ack-given (Updating row sent) f = counts (eqb m.rid.0 r.rid.0) refl
    where
      made : m.rid.0 ≡ r.rid.0 → (b : Bool) → is_majority n r m.from ≡ b
          → Given Ack (cond b (ended r m.from m.time sent) (waiting r m.from m.time row sent))
      made present true h = Answers.ends row sent f present h
      made present false h = Answers.waits row sent f present h

      counts : (b : Bool) → eqb m.rid.0 r.rid.0 ≡ b → Given Ack (ack_taken (cond b (Some (row, sent)) None) r n m.from m.time)
      counts true g = made (eqb-true _ _ g) (is_majority n r m.from) refl
      counts false g = Answers.discards Ack

pub plain-answers : (s : State) (r : Replica) (m : Message) (body : Body) → Answers s.n (asked_register s r.phase) r m body (plain_by s r m body)
unfolding response_rule ack_rule
plain-answers s r m (Query y) = Answers.replies y
plain-answers s r m (Response pair) = response-given s.n (asked_register s r.phase) r m pair r.phase refl
plain-answers s r m (Update y pair) = Answers.stores y pair
plain-answers s r m Ack = ack-given s.n (asked_register s r.phase) r m r.phase refl
