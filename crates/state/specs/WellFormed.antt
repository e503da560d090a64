-- Well formed: document 01, "Numbers of refusal", the last paragraph clause by clause, for the state of a bench. (That the unused places of both tables are empty is said of
-- the tables, in `Tabled`.)
use Rattle.std.specs.Prelude.{ℕ, zero, suc, ◌+◌, ◌*◌, Bool, true, false, not, cond, ◌&&◌, ◌||◌, List, [], ◌∷◌, eqb, ltb, leb, length}
use Rattle.words.specs.declared.Body.{Body}
use Rattle.words.specs.declared.Body.TheVariants.{Query, Response, Update, Ack}
use Rattle.words.specs.declared.Message.{Message}
use Rattle.words.specs.declared.Pair.{Pair}
use Rattle.words.specs.Limits.{most_events}
use Rattle.words.specs.Quorum.{counted}
use Rattle.words.specs.Ranges.{within, is_zero, pair_fits, repliers_fit}
use Rattle.replica.specs.declared.Phase.{Phase}
use Rattle.replica.specs.declared.Phase.TheVariants.{Idle, Querying, Updating}
use Rattle.replica.specs.declared.Replica.{Replica}
use Rattle.replica.specs.Handlers.{is_idle}
use Rattle.tables.specs.declared.Kind.{Kind}
use Rattle.tables.specs.declared.Kind.TheVariants.{Read, Write}
use Rattle.tables.specs.declared.Row.{Row}
use Rattle.state.specs.Needed.{responses_needed, acks_needed, needed}
use Rattle.state.specs.State.{State, row_of}

abbrev pub every : {A : Type 0} → (A → Bool) → List A → Bool
every p [] = true
every p (a ∷ rest) = p a && every p rest

-- N and M in range; accepted events at most 12,000; messages sent at most 7 times it, and equal to delivered plus lost plus in flight
unfoldable pub counts_fit : State → Bool
counts_fit s =
    within s.n 7 && within s.m 16 && leb s.accepted most_events && leb s.sent (7 * s.accepted)
    && eqb s.sent (s.delivered + s.lost + length s.flight)

-- ---- messages: times and request numbers, senders and recipients 1..N, registers 1..M, pairs; numbers rising, from 1 to the count sent

abbrev pub body_fits : State → Body → Bool
body_fits s (Query x) = within x s.m
body_fits s (Response pair) = pair_fits s.accepted s.n pair
body_fits s (Update x pair) = within x s.m && pair_fits s.accepted s.n pair
body_fits s Ack = true

abbrev pub message_fits : State → Message → Bool
message_fits s m =
    within m.from.0 s.n && within m.to.0 s.n && leb m.time.0 s.accepted && leb m.rid.0 (2 * s.accepted)
    && body_fits s m.body

abbrev pub rising : ℕ → ℕ → List Message → Bool
rising below most [] = true
rising below most (m ∷ rest) = ltb below m.number && leb m.number most && rising m.number most rest

unfoldable pub flight_fits : State → Bool
flight_fits s = every (message_fits s) s.flight && rising 0 s.sent s.flight

-- ---- rows: processes 1..N, registers 1..M, times, pairs; a write row's stamp time is not 0; whose replies ended its phases (document 02, "Wish 4")

abbrev pub is_write : Kind → Bool
is_write Read = false
is_write Write = true

-- a set that ended a phase: as many processes as it needed, all of 1..N
abbrev pub enough : State → ℕ → ℕ → Bool
enough s least set = repliers_fit s.n set && leb least (counted set)

-- the query phase: a write has none; a completed read's has ended, a pending one's may have
abbrev pub query_fits : State → Row → Bool
query_fits s r =
    cond (is_write r.kind) (eqb r.replied.query 0)
    (enough s (responses_needed s) r.replied.query || (eqb r.answered.0 0 && eqb r.replied.query 0))

-- the update phase of a completed operation has ended, that of a pending one has not
abbrev pub update_fits : State → Row → Bool
update_fits s r = cond (eqb r.answered.0 0) (eqb r.replied.update 0) (enough s (acks_needed s) r.replied.update)

abbrev pub row_fits : State → Row → Bool
row_fits s r =
    within r.process.0 s.n && within r.register s.m && leb r.invoked.0 s.accepted && leb r.answered.0 s.accepted
    && pair_fits s.accepted s.n (record { stamp = r.stamp; value = r.value })
    && (not (is_write r.kind) || not (eqb r.stamp.time.0 0)) && query_fits s r && update_fits s r

unfoldable pub history_fits : State → Bool
history_fits s = every (row_fits s) s.rows

-- ---- replicas

-- the numbers of the pending rows of p, counted from i
abbrev pub pending_of : ℕ → ℕ → List Row → List ℕ
pending_of p i [] = []
pending_of p i (r ∷ rest) = cond (eqb r.process.0 p && eqb r.answered.0 0) (i ∷ pending_of p (suc i) rest) (pending_of p (suc i) rest)

abbrev pub is_empty : List ℕ → Bool
is_empty [] = true
is_empty (i ∷ rest) = false

abbrev pub is_only : ℕ → List ℕ → Bool
is_only row [] = false
is_only row (i ∷ rest) = eqb i row && is_empty rest

-- a waiting replica points to the only pending row of its own, a read's if it is querying, whose query phase has not ended then; that of a read
-- has if it is updating; an idle one has none and an empty set
abbrev pub phase_fits : State → ℕ → Phase → ℕ → Bool
phase_fits s p Idle repliers = is_empty (pending_of p 1 s.rows) && eqb repliers 0
phase_fits s p (Querying row gathered) repliers =
    is_only row (pending_of p 1 s.rows) && not (is_write (row_of s row).kind) && pair_fits s.accepted s.n gathered.best
    && eqb (row_of s row).replied.query 0
phase_fits s p (Updating row sent) repliers =
    is_only row (pending_of p 1 s.rows) && pair_fits s.accepted s.n sent
    && (is_write (row_of s row).kind || enough s (responses_needed s) (row_of s row).replied.query)

abbrev pub is_start : Pair → Bool
is_start p = eqb p.stamp.time.0 0 && eqb p.stamp.process.0 0 && is_zero p.value

-- registers 1..M hold a pair of the bench, those behind M the starting pair
abbrev pub pairs_fit : State → ℕ → List Pair → Bool
pairs_fit s zero pairs = every is_start pairs
pairs_fit s (suc left) [] = true
pairs_fit s (suc left) (p ∷ rest) = pair_fits s.accepted s.n p && pairs_fit s left rest

-- clocks at most the accepted events, request numbers at most twice it; replier sets inside 1..N with fewer than end the phase
abbrev pub replica_fits : State → ℕ → Replica → Bool
replica_fits s p r =
    leb r.clock.0 s.accepted && leb r.rid.0 (2 * s.accepted) && eqb (length r.pairs) 16 && pairs_fit s s.m r.pairs
    && repliers_fit s.n r.repliers && ltb (counted r.repliers) (needed s r.phase) && phase_fits s p r.phase r.repliers

-- processes behind N are up, idle and otherwise 0
abbrev pub is_fresh : Replica → Bool
is_fresh r =
    not r.crashed && eqb r.clock.0 0 && eqb r.rid.0 0 && is_idle r.phase && eqb r.repliers 0 && eqb (length r.pairs) 16
    && every is_start r.pairs

abbrev pub each_fits : State → ℕ → List Replica → Bool
each_fits s p [] = true
each_fits s p (r ∷ rest) = cond (leb p s.n) (replica_fits s p r) (is_fresh r) && each_fits s (suc p) rest

unfoldable pub replicas_fit : State → Bool
replicas_fit s = eqb (length s.replicas) 7 && each_fits s 1 s.replicas

unfoldable pub well_formed : State → Bool
well_formed s = counts_fit s && flight_fits s && history_fits s && replicas_fit s
