-- An invocation: our row and broadcast are the algorithm's call and broadcast, lines 1 to 5 of a read and 16 to 20 of a write.
use Prim.Native.Nat.{ℕ, ◌+◌, ◌-◌}
use Rattle.std.specs.Prelude.{◌≡◌, true, not, List, [], ◌∷◌, ◌++◌, map, ℤ, length}
use Rattle.std.proofs.Math.Path.{refl, ap, ap₂, subst}
use Rattle.std.proofs.Common.{sym, ◌∙◌, arith, eq-eqb}
use Rattle.std.proofs.lemmas.Bool.{false≢true}
use Rattle.std.proofs.lemmas.List.{map-append}
use Rattle.std.proofs.Math.ListN.{get_or-append}
use Rattle.replica.specs.Handlers.{read_rule, write_rule}
use Rattle.tables.specs.declared.Row.{Row}
use Rattle.tables.specs.Tables.{empty_row}
use Rattle.state.specs.State.{State, replica_of}
use Rattle.state.specs.Step.{message_of, read_row, write_row}
use Rattle.state.specs.Accepted.{read_next, write_next}
use Rattle.state.proofs.AcceptedLaws.{Invoked}
use Rattle.state.proofs.EveryLaws.{both}
use Rattle.state.proofs.KeepsInvoke.{added-other, added-own, added-last}
use Rattle.state.proofs.PendingLaws.{waits, pending-within}
use Rattle.state.specs.WellFormed.{pending_of}
use Rattle.state.proofs.WellLaws.{Well}
use Rattle.sc_abd.specs.Algorithm1.{Tsv, Content, Process, Return, Done, initial, max_of, bcast, on_read, on_write}
use Rattle.sc_abd.specs.System.{Call, Operation, System, Action, outstanding, called, Enabled, doing, taken}
use Rattle.sc_abd.specs.Same.{tsv_in, operation_of, is_read, SameProcess, Same}
use Rattle.sc_abd.proofs.Idle.{idle-outstanding, idle-responses, idle-points}
use Rattle.sc_abd.proofs.Packets.{packets-sent, asks-all}
use Rattle.sc_abd.proofs.SameMove.{RowsKept, same-moved}

-- ---- the new row is behind the others, and the new call behind its history

abbrev with_call : System → ℕ → Call → Process → List Operation
with_call a p call process = a.history ++ (called p call process ∷ [])

old-rows : (s : State) (p : ℕ) (row : Row) → row.process.0 ≡ p → (q : ℕ) → (q ≡ p → ⊥) → RowsKept s (s.rows ++ (row ∷ [])) q
old-rows s p row is q n =
    record {
      pending = added-other s.rows row q (λ e. n (sym e ∙ is));
      row = λ number e.
          let l = pending-within q number s.rows e in
          get_or-append s.rows (row ∷ []) empty_row (number - 1) (omega (arith, l.least, l.most));
    }

module _ (s : State) (w : Well s) (a : System) (same : Same s a) (p x : ℕ) (i : Invoked s p x) where
  own : SameProcess s p (replica_of s p) (a.processes p) (a.asking p)
  own = same.processes p i.actor.least i.actor.most

  pub invoke-enabled : (call : Call) → Enabled a (Action.invoke p call)
  invoke-enabled call = (
    i.actor.least,
    omega (arith, i.actor.most, same.size),
    sym (same.down p i.actor.least i.actor.most) ∙ i.up,
    ap (outstanding p) (sym same.history)
        ∙ idle-outstanding s p (replica_of s p).phase (replica_of s p).repliers (w.replica p i.actor).phase ∙ ap not i.idle,
  )

  -- the row is the call
  told : (row : Row) (call : Call) (process : Process) → operation_of row ≡ called p call process
      → map operation_of (s.rows ++ (row ∷ [])) ≡ with_call a p call process
  told row call process e = map-append operation_of s.rows (row ∷ []) ∙ ap₂ (λ x y. x ++ (y ∷ [])) same.history e

  none-counted : (a.processes p).responses ≡ []
  none-counted = idle-responses s (replica_of s p).phase (a.processes p) (a.asking p) i.idle own.phase

  -- it is the only one of p that is pending
  only : (row : Row) → waits p row ≡ true → pending_of p 1 (s.rows ++ (row ∷ [])) ≡ (length s.rows + 1) ∷ []
  only row e = added-own s.rows row p e (own.waits ∙ idle-points (replica_of s p).phase i.idle)

  mine : waits p (read_row p x 0) ≡ true
  mine = both (eq-eqb p p refl) refl

  pub same_read : Same (read_next s p x) (taken a (Action.invoke p (Call.READ x)))
  unfolding read_rule
  same_read =
      subst (λ n. Same (read_next s p x) (doing a p (begun n) a.transit (with_call a p (Call.READ x) (begun n).process))) same.size
      (same-moved s w a same p i.actor (read_rule (replica_of s p) x (length s.rows + 1)) s.flight s.delivered _
      (begun s.n) a.transit (with_call a p (Call.READ x) (begun s.n).process) refl (old-rows s p row refl)
      (record {
        clock = ap (λ t. t + 1) own.clock;
        number = ap (λ t. t + 1) own.number;
        store = own.store;
        replies = own.replies;
        waits = only row mine;
        phase =
            record {
              asking = asks-all s.n p (a.asking p) _ w.processes.least;
              reading = refl;
              register = ap (λ (r : Row). r.register) (sym (added-last s.rows row));
              best-so-far = ap max_of none-counted;
            };
      })
      same.flight
      (packets-sent s.n (message_of (s.sent + 1) p 1 _) ∙ ap₂ (λ t u. bcast s.n p (Content.query (t + 1) (u + 1) x)) own.clock own.number)
      (told row (Call.READ x) (begun s.n).process (ap reads own.clock)))
    where
      begun : ℕ → Done
      begun n = on_read n p (a.processes p) x

      row : Row
      row = read_row p x ((replica_of s p).clock.0 + 1)

      reads : ℕ → Operation
      reads t =
          record {
            process = p;
            call = Call.READ x;
            invoked = t + 1;
            answered = 0;
            tsv = initial;
            returned = Return.none;
            queried = [];
            acked = [];
          }

  pub same_write : (value : ℤ) → Same (write_next s p x value) (taken a (Action.invoke p (Call.WRITE x value)))
  unfolding write_rule
  same_write value =
      subst (λ n. Same (write_next s p x value) (doing a p (begun n) a.transit (with_call a p (Call.WRITE x value) (begun n).process))) same.size
      (same-moved s w a same p i.actor (write_rule (replica_of s p) (record { 0 = p }) x value (length s.rows + 1)) s.flight s.delivered _
      (begun s.n) a.transit (with_call a p (Call.WRITE x value) (begun s.n).process) refl (old-rows s p row refl)
      (record {
        clock = ap (λ t. t + 1) own.clock;
        number = ap (λ t. t + 1) own.number;
        store = own.store;
        replies = own.replies;
        waits = only row mine;
        phase =
            record {
              asking = asks-all s.n p (a.asking p) _ w.processes.least;
              reading = ap (λ (r : Row). is_read r.kind) (sym (added-last s.rows row));
              pair-sent = ap written (sym own.clock);
              gives = λ e. absurd (false≢true e);
              written = λ e. ap tsv_in (added-last s.rows row) ∙ ap written own.clock;
            };
      })
      same.flight
      (packets-sent s.n (message_of (s.sent + 1) p 1 _)
      ∙ ap₂ (λ t u. bcast s.n p (Content.update (t + 1) (u + 1) x (written t))) own.clock own.number)
      (told row (Call.WRITE x value) (begun s.n).process (ap writes own.clock)))
    where
      begun : ℕ → Done
      begun n = on_write n p (a.processes p) x value

      row : Row
      row = write_row p x value ((replica_of s p).clock.0 + 1)

      written : ℕ → Tsv
      written t = record { ts = record { time = t + 1; process = p }; value = value }

      writes : ℕ → Operation
      writes t =
          record {
            process = p;
            call = Call.WRITE x value;
            invoked = t + 1;
            answered = 0;
            tsv = written t;
            returned = Return.none;
            queried = [];
            acked = [];
          }
