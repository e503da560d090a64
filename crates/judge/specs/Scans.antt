-- The tests of `Tabled` and `WellFormed` as the code makes them: each table is gone through once, and what was seen is carried along.
use Rattle.std.specs.Prelude.{ℕ, suc, ◌+◌, ◌-◌, ◌*◌, Bool, true, false, not, cond, ◌&&◌, ◌||◌, List, [], ◌∷◌, eqb, ltb, leb, length, get_or, set, take, drop, replicate, Option, Some, None}
use Rattle.words.specs.declared.Message.{Message}
use Rattle.words.specs.declared.Pair.{Pair}
use Rattle.words.specs.Limits.{most_events, most_flight, most_rows}
use Rattle.words.specs.Quorum.{counted}
use Rattle.words.specs.Ranges.{within, pair_fits, repliers_fit}
use Rattle.replica.specs.declared.Phase.{Phase}
use Rattle.replica.specs.declared.Phase.TheVariants.{Idle, Querying, Updating}
use Rattle.replica.specs.declared.Replica.{Replica}
use Rattle.tables.specs.declared.Row.{Row}
use Rattle.state.specs.declared.Bench.{Bench}
use Rattle.state.specs.Needed.{responses_needed, needed}
use Rattle.state.specs.State.{State}
use Rattle.state.specs.WellFormed.{every, message_fits, is_write, enough, row_fits, is_start, pairs_fit, is_fresh}
use Rattle.state.specs.Tabled.{is_empty_message, is_empty_row}
use Rattle.judge.specs.declared.Limits.{Limits}
use Rattle.judge.specs.declared.Waiting.{Waiting}
use Rattle.judge.specs.declared.Waiting.TheVariants.{Nothing, One, Several}

-- the counts that the tests look at, and a state that has them and nothing else
abbrev pub limits_of : Bench → Limits
limits_of b = record { n = b.n; m = b.m; accepted = b.accepted; sent = b.sent }

abbrev pub limited : Limits → State
limited l =
    record {
      n = l.n;
      m = l.m;
      accepted = l.accepted;
      sent = l.sent;
      delivered = 0;
      lost = 0;
      replicas = [];
      flight = [];
      rows = [];
    }

abbrev pub counts_judged : Bench → Bool
counts_judged b =
    within b.n 7 && within b.m 16 && leb b.accepted most_events && leb b.sent (7 * b.accepted)
    && eqb b.sent (b.delivered + b.lost + b.flight)

-- ---- messages

-- each message fits, and its number is above the last one's and at most the count sent
abbrev pub risen : State → ℕ → List Message → Bool
risen s last [] = true
risen s last (m ∷ rest) = (message_fits s m && ltb last m.number && leb m.number s.sent) && risen s m.number rest

abbrev pub messages_judged : State → ℕ → List Message → Bool
messages_judged s flight t = eqb (length t) most_flight && leb flight most_flight && (risen s 0 (take flight t) && every is_empty_message (drop flight t))

-- ---- rows

-- one more pending row, of a number
abbrev pub noted : Waiting → ℕ → Row → Waiting
noted Nothing number r = One (record { row = number; write = is_write r.kind; query = r.replied.query })
noted (One seen) number r = Several
noted Several number r = Several

-- a row of a process that was not answered yet
abbrev pub is_pending : Row → Bool
is_pending r = within r.process.0 7 && eqb r.answered.0 0

-- process p's pending rows are noted at place p - 1
abbrev pub noted_in : List Waiting → ℕ → Row → List Waiting
noted_in waiting number r =
    cond (is_pending r) (set waiting (r.process.0 - 1) (noted (get_or waiting (r.process.0 - 1) Nothing) number r)) waiting

-- the rows from a number on, and the pending ones among them; nothing where one does not fit
abbrev pub scanned : State → List Waiting → ℕ → List Row → Option (List Waiting)
scanned s waiting number [] = Some waiting
scanned s waiting number (r ∷ rest) = cond (row_fits s r) (scanned s (noted_in waiting number r) (suc number) rest) None

abbrev pub rows_judged : State → ℕ → List Row → Option (List Waiting)
rows_judged s used t =
    cond (eqb (length t) most_rows && leb used most_rows && every is_empty_row (drop used t)) (scanned s (replicate 7 Nothing) 1 (take used t)) None

-- ---- replicas

abbrev pub stored_at : State → Bool → Pair → Bool
stored_at s inside p = cond inside (pair_fits s.accepted s.n p) (is_start p)

abbrev pub stored_fit : State → ℕ → List Pair → Bool
stored_fit s most pairs = eqb (length pairs) 16 && pairs_fit s most pairs

-- a process that waits has one pending row, to which its phase points; an idle one has none
abbrev pub phase_judged : State → Waiting → Phase → ℕ → Bool
phase_judged s Nothing Idle repliers = eqb repliers 0
phase_judged s Nothing (Querying row gathered) repliers = false
phase_judged s Nothing (Updating row sent) repliers = false
phase_judged s (One seen) Idle repliers = false
phase_judged s (One seen) (Querying row gathered) repliers =
    eqb seen.row row && not seen.write && pair_fits s.accepted s.n gathered.best && eqb seen.query 0
phase_judged s (One seen) (Updating row sent) repliers =
    eqb seen.row row && pair_fits s.accepted s.n sent && (seen.write || enough s (responses_needed s) seen.query)
phase_judged s Several phase repliers = false

abbrev pub replica_judged : State → Waiting → Replica → Bool
replica_judged s w r =
    leb r.clock.0 s.accepted && leb r.rid.0 (2 * s.accepted) && stored_fit s s.m r.pairs
    && repliers_fit s.n r.repliers && ltb (counted r.repliers) (needed s r.phase) && phase_judged s w r.phase r.repliers

abbrev pub process_judged : State → ℕ → Waiting → Replica → Bool
process_judged s p w r = cond (leb p s.n) (replica_judged s w r) (is_fresh r)

abbrev pub each_judged : State → List Waiting → ℕ → List Replica → Bool
each_judged s waiting p [] = true
each_judged s waiting p (r ∷ rest) = process_judged s p (get_or waiting (p - 1) Nothing) r && each_judged s waiting (suc p) rest

abbrev pub replicas_judged : State → List Waiting → List Replica → Bool
replicas_judged s waiting replicas = eqb (length replicas) 7 && each_judged s waiting 1 replicas

-- the whole, from what was seen of the rows
abbrev pub judged : Bench → List Message → Option (List Waiting) → Bool
judged b messages None = false
judged b messages (Some waiting) =
    messages_judged (limited (limits_of b)) b.flight messages && counts_judged b && replicas_judged (limited (limits_of b)) waiting b.replicas
