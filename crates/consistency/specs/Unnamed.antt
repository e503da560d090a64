-- What the one order reads of a row is not who replied: rows that differ in their sets only give the same operations. So the argument goes by the rows
-- without their sets, and the end of a query phase changes none of them.
use Rattle.std.specs.Prelude.{ℕ, zero, suc, ◌-◌, ◌≡◌, refl, List, [], ◌∷◌, ◌++◌, map, get_or, set}
use Rattle.std.proofs.Common.{ap}
use Rattle.std.proofs.lemmas.List.{map-append}
use Rattle.std.proofs.Math.ListN.{get_or-map}
use Rattle.std.proofs.Math.Seq.{map-set_same}
use Rattle.tables.specs.declared.Row.{Row}
use Rattle.tables.specs.Tables.{nobody, empty_row}
use Rattle.state.specs.State.{State, row_of}
use Rattle.state.specs.Step.{queried_row}
use Rattle.order.specs.Operations.{operation_of, operations_of}

abbrev pub unnamed : Row → Row
unnamed r =
    record {
      process = r.process;
      kind = r.kind;
      register = r.register;
      invoked = r.invoked;
      answered = r.answered;
      stamp = r.stamp;
      value = r.value;
      replied = nobody;
    }

abbrev pub without_sets : State → State
without_sets s =
    record {
      n = s.n;
      m = s.m;
      accepted = s.accepted;
      sent = s.sent;
      delivered = s.delivered;
      lost = s.lost;
      replicas = s.replicas;
      flight = s.flight;
      rows = map unnamed s.rows;
    }

-- rows that differ in their sets only give the same operations, and so the same order
pub operations-unnamed : (rows : List Row) → operations_of (map unnamed rows) ≡ operations_of rows
operations-unnamed [] = refl
operations-unnamed (r ∷ rows) = ap (λ l. operation_of r ∷ l) (operations-unnamed rows)

-- ---- the rows without their sets, after a move

pub row-unnamed : (s : State) (i : ℕ) → row_of (without_sets s) i ≡ unnamed (row_of s i)
row-unnamed s i = get_or-map unnamed s.rows (i - 1) empty_row

pub queried-unnamed : (rows : List Row) (i who : ℕ) → map unnamed (set rows i (queried_row (get_or rows i empty_row) who)) ≡ map unnamed rows
queried-unnamed rows i who = map-set_same unnamed rows i (queried_row (get_or rows i empty_row) who) empty_row refl

pub changed-unnamed : (rows : List Row) (i : ℕ) (r : Row) → map unnamed (set rows i r) ≡ set (map unnamed rows) i (unnamed r)
changed-unnamed [] i r = refl
changed-unnamed (x ∷ rows) zero r = refl
changed-unnamed (x ∷ rows) (suc i) r = ap (λ l. unnamed x ∷ l) (changed-unnamed rows i r)

pub added-unnamed : (rows : List Row) (r : Row) → map unnamed (rows ++ (r ∷ [])) ≡ map unnamed rows ++ (unnamed r ∷ [])
added-unnamed rows r = map-append unnamed rows (r ∷ [])
