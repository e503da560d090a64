-- A bench and a system that are the same stay so when one process moves: what is to be shown of its replica, its messages and its row.
use Rattle.std.specs.Prelude.{ℕ, ◌-◌, ◌≤◌, ◌≡◌, refl, Bool, List, [], ◌∷◌, ◌++◌, map, get_or}
use Rattle.std.proofs.Common.{sym, ap₂, subst, ◌∙◌, arith, eq-eqb, ne_eqb}
use Rattle.std.proofs.lemmas.List.{map-append}
use Rattle.std.proofs.Math.Decide.{ℕ_discrete}
use Rattle.words.specs.declared.Message.{Message}
use Rattle.replica.specs.Answer.{Answer}
use Rattle.replica.specs.declared.Phase.{Phase}
use Rattle.replica.specs.declared.Phase.TheVariants.{Idle, Querying, Updating}
use Rattle.replica.specs.declared.Replica.{Replica}
use Rattle.tables.specs.declared.Row.{Row}
use Rattle.tables.specs.Tables.{empty_row}
use Rattle.state.specs.State.{State, replica_of, row_of}
use Rattle.state.specs.Step.{moved, posted}
use Rattle.state.specs.Within.{Within}
use Rattle.state.specs.WellFormed.{pending_of}
use Rattle.state.proofs.WellLaws.{Well}
use Rattle.sc_abd.specs.Algorithm1.{Packet, Process, Done}
use Rattle.moves.specs.Places.{own-after, other_after}
use Rattle.sc_abd.specs.System.{Operation, System, asks_after, doing}
use Rattle.sc_abd.specs.Same.{packet_of, operation_of, pointed_rows, SameQuery, SameUpdate, SamePhase, SameProcess, Same}

-- the operation that q has outstanding, if any, is the same in other rows
pub record RowsKept (s : State) (rows : List Row) (q : ℕ) : Type 0 where
  pub pending : pending_of q 1 rows ≡ pending_of q 1 s.rows
  pub row : (row : ℕ) → pending_of q 1 s.rows ≡ row ∷ [] → get_or rows (row - 1) empty_row ≡ row_of s row

pub rows-kept : (s : State) (q : ℕ) → RowsKept s s.rows q
rows-kept s q = record { pending = refl; row = λ row e. refl }

module _ (s : State) (p : ℕ) (answer : Answer) (flight : List Message) (delivered : ℕ) (rows : List Row) (q : ℕ) (k : RowsKept s rows q) where
  phase-moved : (phase : Phase) (process : Process) (asks : Bool) → pending_of q 1 s.rows ≡ pointed_rows phase → SamePhase s phase process asks
      → SamePhase (moved s p answer flight delivered rows) phase process asks
  phase-moved Idle process asks e h = h
  phase-moved (Querying row gathered) process asks e h = subst (λ r. SameQuery r gathered.best process asks) (sym (k.row row e)) h
  phase-moved (Updating row sent) process asks e h = subst (λ r. SameUpdate r sent process asks) (sym (k.row row e)) h

  pub process-moved : (r : Replica) (process : Process) (asks : Bool) → SameProcess s q r process asks
      → SameProcess (moved s p answer flight delivered rows) q r process asks
  process-moved r process asks h =
      record {
        clock = h.clock;
        number = h.number;
        store = h.store;
        replies = h.replies;
        waits = k.pending ∙ h.waits;
        phase = phase-moved r.phase process asks h.waits h.phase;
      }

module _ (s : State) (w : Well s) (a : System) (same : Same s a) (p : ℕ) (actor : Within p s.n) (answer : Answer) (flight : List Message)
    (delivered : ℕ) (rows : List Row) (done : Done) (transit : List Packet) (history : List Operation) where
  pub same-moved : answer.replica.crashed ≡ (replica_of s p).crashed → ((q : ℕ) → (q ≡ p → ⊥) → RowsKept s rows q)
      → SameProcess (moved s p answer flight delivered rows) p answer.replica done.process (asks_after (a.asking p) done.sends)
      → map packet_of flight ≡ transit → map packet_of (posted s p answer.sends) ≡ done.sends
      → map operation_of rows ≡ history
      → Same (moved s p answer flight delivered rows) (doing a p done transit history)
  same-moved up k own left sent told =
      record {
        size = same.size;
        processes = λ q l m. elim (ℕ_discrete q p) [
          | yes e ↦ rw (e, own-after s w.seven p actor.least most answer.replica, eq-eqb p p refl) own
          | no n ↦
              rw (other_after s w.seven p actor.least most answer.replica q l n, ne_eqb q p n)
              (process-moved s p answer flight delivered rows q (k q n) (replica_of s q) (a.processes q) (a.asking q) (same.processes q l m))
        ];
        down = λ q l m. elim (ℕ_discrete q p) [
          | yes e ↦ rw (e, own-after s w.seven p actor.least most answer.replica) (up ∙ same.down p actor.least actor.most)
          | no n ↦ rw (other_after s w.seven p actor.least most answer.replica q l n) (same.down q l m)
        ];
        flight = map-append _ flight (posted s p answer.sends) ∙ ap₂ (λ x y. x ++ y) left sent;
        history = told;
      }
    where
      most : p ≤ 7
      most = omega (arith, actor.most, w.processes.most)
