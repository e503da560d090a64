-- The handlers of one process: document 01, "Events", sentence by sentence. Each rule is what document 000's Algorithm 1 does for the event;
-- each handler is the rule, guarded by its ranges and document 01's refusals.
use Rattle.std.specs.Prelude.{ℕ, ◌+◌, ◌-◌, Bool, true, false, cond, ◌&&◌, List, leb, eqb, ℤ, get_or, set, Option, None, Some}
use Rattle.words.specs.declared.Time.{Time}
use Rattle.words.specs.declared.Rid.{Rid}
use Rattle.words.specs.declared.Pid.{Pid}
use Rattle.words.specs.declared.Pair.{Pair}
use Rattle.words.specs.declared.Body.{Body}
use Rattle.words.specs.declared.Body.TheVariants.{Query, Response, Update, Ack}
use Rattle.replica.specs.declared.Phase.{Phase}
use Rattle.replica.specs.declared.Phase.TheVariants.{Idle, Querying, Updating}
use Rattle.replica.specs.declared.Replica.{Replica}
use Rattle.replica.specs.declared.Letter.{Letter}
use Rattle.replica.specs.declared.Sends.{Sends}
use Rattle.replica.specs.declared.Sends.TheVariants.{Nothing, Reply, Broadcast}
use Rattle.replica.specs.declared.Ended.TheVariants.{Pending, Query as Queried, At}
use Rattle.replica.specs.Answer.{Answer, accepted, refused}
use Rattle.replica.specs.declared.Gathered.{Gathered}
use Rattle.replica.specs.Clock.{after}
use Rattle.replica.specs.Gathering.{nothing_gathered, gathered_with}
use Rattle.words.specs.Quorum.{joined, counted, majority_of}
use Rattle.words.specs.Limits.{most_rows, most_time}
use Rattle.words.specs.Ranges.{within, pair_fits, sender_fits}
use Rattle.replica.specs.Ranges.{replica_inside}
use Rattle.words.specs.Stamps.{stamp_of, start_pair, newer}

-- ---- what a handler answers

-- the replica at another clock, request number, phase, replier set and store; up or crashed as it was
abbrev pub became : Replica → ℕ → ℕ → Phase → ℕ → List Pair → Replica
became r clock rid phase repliers pairs =
    record {
      crashed = r.crashed;
      clock = record { 0 = clock };
      rid = record { 0 = rid };
      phase = phase;
      repliers = repliers;
      pairs = pairs;
    }

abbrev pub letter : ℕ → ℕ → Body → Letter
letter time rid body = record { time = record { 0 = time }; rid = record { 0 = rid }; body = body }

abbrev pub broadcast_of : ℕ → ℕ → Body → Sends
broadcast_of time rid body = Broadcast (letter time rid body)

abbrev pub reply_of : Pid → ℕ → ℕ → Body → Sends
reply_of to time rid body = Reply to (letter time rid body)

-- the pair stored for register x
abbrev pub stored : Replica → ℕ → Pair
stored r x = get_or r.pairs (x - 1) start_pair

-- ---- the rules

-- Read by p of x: clock + 1; request number + 1; broadcast query
unfoldable pub read_rule : Replica → ℕ → ℕ → Answer
read_rule r x row =
    let clock = r.clock.0 + 1 in
    let rid = r.rid.0 + 1 in
    accepted (became r clock rid (Querying row nothing_gathered) r.repliers r.pairs) (broadcast_of clock rid (Query x)) Pending

-- Write by p of v to x: clock + 1; stamp = (clock, p); request number + 1; broadcast update. The local copy does not change
unfoldable pub write_rule : Replica → Pid → ℕ → ℤ → ℕ → Answer
write_rule r me x value row =
    let clock = r.clock.0 + 1 in
    let rid = r.rid.0 + 1 in
    let pair : Pair = record { stamp = stamp_of clock me.0; value = value } in
    accepted (became r clock rid (Updating row pair) r.repliers r.pairs) (broadcast_of clock rid (Update x pair)) Pending

-- A query is replied to with the stored pair. Replies bear the request's number and the new clock
unfoldable pub query_rule : Replica → Pid → Time → Rid → ℕ → Answer
query_rule r from time rid x =
    let clock = after r.clock.0 time.0 in
    accepted (became r clock r.rid.0 r.phase r.repliers r.pairs) (reply_of from clock rid.0 (Response (stored r x))) Pending

-- An update replaces the stored pair only if its stamp is greater, and is acked in either case
unfoldable pub update_rule : Replica → Pid → Time → Rid → ℕ → Pair → Answer
update_rule r from time rid x pair =
    let clock = after r.clock.0 time.0 in
    accepted
    (became r clock r.rid.0 r.phase r.repliers (set r.pairs (x - 1) (newer (stored r x) pair)))
    (reply_of from clock rid.0 Ack)
    Pending

-- A response that counts. The one that makes a majority: the greatest pair counted is chosen, the set is emptied, request number + 1, update
-- with that pair is broadcast; the query phase ended by the replies of that set
unfoldable pub response_counted : Replica → ℕ → ℕ → Pid → Time → ℕ → Gathered → Answer
response_counted r n x from time row gathered =
    let clock = after r.clock.0 time.0 in
    let rid = r.rid.0 + 1 in
    let repliers = joined r.repliers from.0 in
    cond
    (leb (majority_of n) (counted repliers))
    (accepted (became r clock rid (Updating row gathered.best) 0 r.pairs) (broadcast_of clock rid (Update x gathered.best)) (Queried repliers))
    (accepted (became r clock r.rid.0 (Querying row gathered) repliers r.pairs) Nothing Pending)

-- An ack that counts. The one that makes a majority: the set is emptied, request number + 1, the operation completes at this clock, by the acks
-- of that set
unfoldable pub ack_counted : Replica → ℕ → Pid → Time → ℕ → Pair → Answer
ack_counted r n from time row sent =
    let clock = after r.clock.0 time.0 in
    let rid = r.rid.0 + 1 in
    let repliers = joined r.repliers from.0 in
    cond
    (leb (majority_of n) (counted repliers))
    (accepted (became r clock rid Idle 0 r.pairs) Nothing (At (record { 0 = clock }) sent repliers))
    (accepted (became r clock r.rid.0 (Updating row sent) repliers r.pairs) Nothing Pending)

-- A response counts only while the replica is querying, and only with the present request number
abbrev pub response_counts : Phase → Rid → Rid → Option (ℕ × Gathered)
response_counts Idle own rid = None
response_counts (Querying row gathered) own rid = cond (eqb rid.0 own.0) (Some (row, gathered)) None
response_counts (Updating row sent) own rid = None

-- an ack only while updating, and only with the present request number
abbrev pub ack_counts : Phase → Rid → Rid → Option (ℕ × Pair)
ack_counts Idle own rid = None
ack_counts (Querying row gathered) own rid = None
ack_counts (Updating row sent) own rid = cond (eqb rid.0 own.0) (Some (row, sent)) None

-- Otherwise the message is taken off and nothing else changes, the clock included
abbrev pub discarded : Replica → Answer
discarded r = accepted r Nothing Pending

abbrev pub response_taken : Option (ℕ × Gathered) → Replica → ℕ → ℕ → Pid → Time → Pair → Answer
response_taken None r n x from time pair = discarded r
response_taken (Some waiting) r n x from time pair = response_counted r n x from time waiting.0 (gathered_with waiting.1 pair)

unfoldable pub response_rule : Replica → ℕ → ℕ → Pid → Time → Rid → Pair → Answer
response_rule r n x from time rid pair = response_taken (response_counts r.phase r.rid rid) r n x from time pair

abbrev pub ack_taken : Option (ℕ × Pair) → Replica → ℕ → Pid → Time → Answer
ack_taken None r n from time = discarded r
ack_taken (Some waiting) r n from time = ack_counted r n from time waiting.0 waiting.1

unfoldable pub ack_rule : Replica → ℕ → Pid → Time → Rid → Answer
ack_rule r n from time rid = ack_taken (ack_counts r.phase r.rid rid) r n from time

-- Crash of p: it takes no further step
unfoldable pub crash_rule : Replica → Answer
crash_rule r =
    accepted
    (record {
      crashed = true;
      clock = r.clock;
      rid = r.rid;
      phase = r.phase;
      repliers = r.repliers;
      pairs = r.pairs;
    })
    Nothing
    Pending

-- ---- the handlers: the rule where nothing is refused. 18 outside the ranges; then 10 and 11 for an invocation, 10 for a crash, 13 for a
-- message

abbrev pub unless_refused : ℕ → Replica → Answer → Answer
unless_refused number r rule = cond (eqb number 0) rule (refused number r)

abbrev pub is_idle : Phase → Bool
is_idle Idle = true
is_idle (Querying row gathered) = false
is_idle (Updating row sent) = false

unfoldable pub begin_refusal : Bool → Bool → Bool → ℕ
begin_refusal fits crashed idle = cond fits (cond crashed 10 (cond idle 0 11)) 18

unfoldable pub down_refusal : ℕ → Bool → Bool → ℕ
down_refusal number fits crashed = cond fits (cond crashed number 0) 18

-- a read is begun inside the ranges, by a replica that is up and idle
unfoldable pub read_refusal : Replica → ℕ → ℕ → ℕ
read_refusal r x row = begin_refusal (replica_inside 7 r && within x 16 && within row most_rows) r.crashed (is_idle r.phase)

unfoldable pub read_begun : Replica → ℕ → ℕ → Answer
read_begun r x row = unless_refused (read_refusal r x row) r (read_rule r x row)

unfoldable pub write_refusal : Replica → Pid → ℕ → ℕ → ℕ
write_refusal r me x row = begin_refusal (replica_inside 7 r && within me.0 7 && within x 16 && within row most_rows) r.crashed (is_idle r.phase)

unfoldable pub write_begun : Replica → Pid → ℕ → ℤ → ℕ → Answer
write_begun r me x value row = unless_refused (write_refusal r me x row) r (write_rule r me x value row)

-- the pair stored for x is judged too: it is read
abbrev pub stored_fits : Replica → ℕ → Bool
stored_fits r x = within x 16 && pair_fits most_time 7 (stored r x)

abbrev pub request_fits : Replica → Pid → Time → Rid → ℕ → Bool
request_fits r from time rid x = replica_inside 7 r && sender_fits 7 from time rid && stored_fits r x

unfoldable pub query_refusal : Replica → Pid → Time → Rid → ℕ → ℕ
query_refusal r from time rid x = down_refusal 13 (request_fits r from time rid x) r.crashed

unfoldable pub query_received : Replica → Pid → Time → Rid → ℕ → Answer
query_received r from time rid x = unless_refused (query_refusal r from time rid x) r (query_rule r from time rid x)

unfoldable pub update_refusal : Replica → Pid → Time → Rid → ℕ → Pair → ℕ
update_refusal r from time rid x pair = down_refusal 13 (request_fits r from time rid x && pair_fits most_time 7 pair) r.crashed

unfoldable pub update_received : Replica → Pid → Time → Rid → ℕ → Pair → Answer
update_received r from time rid x pair = unless_refused (update_refusal r from time rid x pair) r (update_rule r from time rid x pair)

-- a reply is counted, so here N is known: the sender is one of 1..N, and so are those that replied before it
abbrev pub reply_fits : Replica → ℕ → Pid → Time → Rid → Bool
reply_fits r n from time rid = replica_inside n r && sender_fits n from time rid && within n 7

unfoldable pub response_refusal : Replica → ℕ → ℕ → Pid → Time → Rid → Pair → ℕ
response_refusal r n x from time rid pair = down_refusal 13 (reply_fits r n from time rid && within x 16 && pair_fits most_time 7 pair) r.crashed

unfoldable pub response_received : Replica → ℕ → ℕ → Pid → Time → Rid → Pair → Answer
response_received r n x from time rid pair =
    unless_refused (response_refusal r n x from time rid pair) r (response_rule r n x from time rid pair)

unfoldable pub ack_refusal : Replica → ℕ → Pid → Time → Rid → ℕ
ack_refusal r n from time rid = down_refusal 13 (reply_fits r n from time rid) r.crashed

unfoldable pub ack_received : Replica → ℕ → Pid → Time → Rid → Answer
ack_received r n from time rid = unless_refused (ack_refusal r n from time rid) r (ack_rule r n from time rid)

unfoldable pub crash_refusal : Replica → ℕ
crash_refusal r = down_refusal 10 (replica_inside 7 r) r.crashed

unfoldable pub crashed : Replica → Answer
crashed r = unless_refused (crash_refusal r) r (crash_rule r)
