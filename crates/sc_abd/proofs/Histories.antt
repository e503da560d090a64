-- The rows of a bench and the history of the system: an operation is outstanding where a row is pending, the row whose query phase ends is the
-- operation that goes on to its update, and the row that completes is the operation that is RETURNed.
use Rattle.std.specs.Prelude.{ℕ, zero, suc, ◌+◌, ◌≤◌, ◌≡◌, refl, Bool, true, false, cond, not, ◌&&◌, ◌||◌, List, [], ◌∷◌, map, eqb, get_or, set}
use Rattle.std.proofs.Common.{sym, ap, ap₂, ◌∙◌, arith}
use Rattle.std.proofs.Math.Dec.{eqb-suc-zero}
use Rattle.words.specs.declared.Pair.{Pair}
use Rattle.words.specs.declared.Time.{Time}
use Rattle.tables.specs.declared.Kind.{Kind}
use Rattle.tables.specs.declared.Kind.TheVariants.{Read, Write}
use Rattle.tables.specs.declared.Row.{Row}
use Rattle.tables.specs.Tables.{empty_row}
use Rattle.state.specs.Step.{kept, queried_row, completed}
use Rattle.state.specs.WellFormed.{pending_of, is_empty}
use Rattle.state.proofs.PendingLaws.{waits, pending-first}
use Rattle.sc_abd.specs.Algorithm1.{Tsv, Return, Done}
use Rattle.sc_abd.specs.System.{Call, Operation, is_open, outstanding, changing, returned_by, gone_on}
use Rattle.sc_abd.specs.Same.{tsv_of, tsv_in, call_of, result_of, returned_of, processes_in, operation_of}

-- ---- an operation is open while its row has no answer

open-answered : (r : Row) → is_open (returned_of r.answered.0 r) ≡ eqb r.answered.0 0
open-answered r = go r.answered.0
  where
    closed : (k : Kind) → is_open (result_of k r) ≡ false
    closed Read = refl
    closed Write = refl

    go : (t : ℕ) → is_open (returned_of t r) ≡ eqb t 0
    go zero = refl
    go (suc t) = closed r.kind ∙ sym (eqb-suc-zero t)

open-waits : (p : ℕ) (r : Row) → (eqb r.process.0 p && is_open (returned_of r.answered.0 r)) ≡ waits p r
open-waits p r = ap (λ b. eqb r.process.0 p && b) (open-answered r)

pub outstanding-pending : (p i : ℕ) (rows : List Row) → outstanding p (map operation_of rows) ≡ not (is_empty (pending_of p i rows))
outstanding-pending p i [] = refl
outstanding-pending p i (r ∷ rows) = rw (open-waits p r) (go (waits p r) (outstanding-pending p (suc i) rows))
  where
    go : (b : Bool) → outstanding p (map operation_of rows) ≡ not (is_empty (pending_of p (suc i) rows))
        → (b || outstanding p (map operation_of rows)) ≡ not (is_empty (cond b (i ∷ pending_of p (suc i) rows) (pending_of p (suc i) rows)))
    go true e = refl
    go false e = e

-- ---- the row that completes

-- what a completed operation is RETURNed: a read its pair's value, a write OK
abbrev pub done_of : Kind → Pair → Return
done_of Read pair = Return.value pair.value
done_of Write pair = Return.OK

-- a completed row is its operation, RETURNed by a handler that leaves this lt and this tsv, with the acks of these
pub completed-operation : (r : Row) (time : Time) (pair : Pair) (who : ℕ) (had : List ℕ) (done : Done) → 1 ≤ time.0 → time.0 ≡ done.process.lt
    → tsv_of (kept r.kind r pair) ≡ done.process.tsv → done_of r.kind pair ≡ done.return → processes_in who ≡ had
    → operation_of (completed r time pair who) ≡ returned_by had done (operation_of r)
completed-operation r time pair who had done later lt tsv return set =
    go r.kind time.0 later ∙ ap (λ t. said r.kind t (tsv_of (kept r.kind r pair)) (done_of r.kind pair) (processes_in who)) lt
    ∙ ap₂ (λ v x. said r.kind done.process.lt v x (processes_in who)) tsv return
    ∙ ap (said r.kind done.process.lt done.process.tsv done.return) set
  where
    said : Kind → ℕ → Tsv → Return → List ℕ → Operation
    said k t v x acked =
        record {
          process = r.process.0;
          call = call_of k r;
          invoked = r.invoked.0;
          answered = t;
          tsv = v;
          returned = x;
          queried = processes_in r.replied.query;
          acked = acked;
        }

    new : Kind → ℕ → Row
    new k t =
        record {
          process = r.process;
          kind = k;
          register = r.register;
          invoked = r.invoked;
          answered = record { 0 = t };
          stamp = (kept k r pair).stamp;
          value = (kept k r pair).value;
          replied = record { query = r.replied.query; update = who };
        }

    go : (k : Kind) (t : ℕ) → 1 ≤ t → operation_of (new k t) ≡ said k t (tsv_of (kept k r pair)) (done_of k pair) (processes_in who)
    go Read zero l = absurd (omega arith)
    go Read (suc t) l = refl
    go Write zero l = absurd (omega arith)
    go Write (suc t) l = refl

-- ---- the row whose query phase ends

-- it is its operation, which goes on to its update with the responses of these
pub queried-operation : (r : Row) (who : ℕ) (had : List ℕ) → processes_in who ≡ had → operation_of (queried_row r who) ≡ gone_on had (operation_of r)
queried-operation r who had set = go r.kind r.answered.0 ∙ ap (λ l. gone_on l (operation_of r)) set
  where
    said : Call → Return → Operation
    said call x =
        record {
          process = r.process.0;
          call = call;
          invoked = r.invoked.0;
          answered = r.answered.0;
          tsv = tsv_in r;
          returned = x;
          queried = processes_in who;
          acked = processes_in r.replied.update;
        }

    result : (k : Kind) → result_of k (queried_row r who) ≡ result_of k r
    result Read = refl
    result Write = refl

    returned : (t : ℕ) → returned_of t (queried_row r who) ≡ returned_of t r
    returned zero = refl
    returned (suc t) = result r.kind

    call : (k : Kind) → call_of k (queried_row r who) ≡ call_of k r
    call Read = refl
    call Write = refl

    go : (k : Kind) (t : ℕ) → said (call_of k (queried_row r who)) (returned_of t (queried_row r who)) ≡ said (call_of k r) (returned_of t r)
    go k t = ap₂ said (call k) (returned t)

-- ---- the row of the outstanding operation

module _ (p : ℕ) (change : Operation → Operation) (new : Row) where
  -- the first pending row of p is the operation that changes
  pub changing-row : (i j : ℕ) (rows : List Row) (rest : List ℕ) → pending_of p i rows ≡ (i + j) ∷ rest
      → operation_of new ≡ change (operation_of (get_or rows j empty_row))
      → map operation_of (set rows j new) ≡ changing p change (map operation_of rows)
  changing-row i j [] rest e is = let z : ◌≡◌ {A = ℕ} 0 1 = cc in absurd (omega arith)
  changing-row i zero (r ∷ rows) rest e is = rw (is, open-waits p r) (go (waits p r) e)
    where
      go : (b : Bool) → cond b (i ∷ pending_of p (suc i) rows) (pending_of p (suc i) rows) ≡ (i + 0) ∷ rest
          → change (operation_of r) ∷ map operation_of rows
          ≡ cond b (change (operation_of r) ∷ map operation_of rows) (operation_of r ∷ changing p change (map operation_of rows))
      go true f = refl
      go false f = let h = pending-first p (suc i) rows (i + 0) rest f in absurd (omega (arith, h.number))
  changing-row i (suc j) (r ∷ rows) rest e is = rw (open-waits p r) (go (waits p r) e (λ f. changing-row (suc i) j rows rest f is))
    where
      go : (b : Bool) → cond b (i ∷ pending_of p (suc i) rows) (pending_of p (suc i) rows) ≡ (i + suc j) ∷ rest
          → (pending_of p (suc i) rows ≡ (suc i + j) ∷ rest → map operation_of (set rows j new) ≡ changing p change (map operation_of rows))
          → operation_of r ∷ map operation_of (set rows j new)
          ≡ cond b (change (operation_of r) ∷ map operation_of rows) (operation_of r ∷ changing p change (map operation_of rows))
      go true f h = let same : i ≡ i + suc j = cc in absurd (omega arith)
      go false f h =
          let next : i + suc j ≡ suc i + j = omega arith in
          ap (λ l. operation_of r ∷ l) (h (f ∙ ap (λ k. k ∷ rest) next))
