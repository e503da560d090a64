-- A state as a bench and two lent tables: 18 is given exactly when `tabled` is false. The tables have 512 messages and 1,024 rows; the places behind
-- the messages in flight and behind the rows in use are empty; and the state that they hold is well formed.
use Rattle.std.specs.Prelude.{Bool, false, not, ◌&&◌, List, eqb, leb, length, drop}
use Rattle.words.specs.declared.Body.{Body}
use Rattle.words.specs.declared.Body.TheVariants.{Query, Response, Update, Ack}
use Rattle.words.specs.declared.Message.{Message}
use Rattle.words.specs.Limits.{most_flight, most_rows}
use Rattle.words.specs.Ranges.{is_zero}
use Rattle.tables.specs.declared.Row.{Row}
use Rattle.state.specs.declared.Bench.{Bench}
use Rattle.state.specs.State.{State, view}
use Rattle.state.specs.WellFormed.{every, is_write, well_formed}

abbrev pub is_empty_body : Body → Bool
is_empty_body (Query x) = eqb x 0
is_empty_body (Response pair) = false
is_empty_body (Update x pair) = false
is_empty_body Ack = false

-- the empty message: a query, all fields 0
abbrev pub is_empty_message : Message → Bool
is_empty_message m =
    eqb m.number 0 && eqb m.from.0 0 && eqb m.to.0 0 && eqb m.time.0 0 && eqb m.rid.0 0 && is_empty_body m.body

-- an unused row: all 0, its kind read
abbrev pub is_empty_row : Row → Bool
is_empty_row r =
    eqb r.process.0 0 && not (is_write r.kind) && eqb r.register 0 && eqb r.invoked.0 0 && eqb r.answered.0 0
    && eqb r.stamp.time.0 0 && eqb r.stamp.process.0 0 && is_zero r.value
    && eqb r.replied.query 0 && eqb r.replied.update 0

-- a lent table has exactly the stated length
abbrev pub lengths_fit : List Message → List Row → Bool
lengths_fit messages rows = eqb (length messages) most_flight && eqb (length rows) most_rows

unfoldable pub tabled : Bench → List Message → List Row → Bool
tabled b messages rows =
    lengths_fit messages rows && leb b.flight most_flight && leb b.rows most_rows && every is_empty_message (drop b.flight messages)
    && every is_empty_row (drop b.rows rows) && well_formed (view b messages rows)

-- the bench that holds a state, beside its tables
abbrev pub bench_of : State → Bench
bench_of s =
    record {
      n = s.n;
      m = s.m;
      accepted = s.accepted;
      sent = s.sent;
      delivered = s.delivered;
      lost = s.lost;
      flight = length s.flight;
      rows = length s.rows;
      replicas = s.replicas;
    }
