-- An accepted invocation keeps well-formedness: a row is added that is the only pending one of its process, and a letter goes to all.
use Prim.Native.Nat.{ℕ, ◌+◌, ◌-◌}
use Rattle.std.specs.Prelude.{◌≡◌, Bool, true, cond, ◌&&◌, ◌||◌, List, [], ◌∷◌, ◌++◌, eqb, ℤ, length, get_or}
use Rattle.std.proofs.Math.Path.{refl, ap}
use Rattle.std.proofs.Common.{sym, subst, ◌∙◌, append-nil, arith, eq-eqb, ne_eqb}
use Rattle.std.proofs.Math.Bool.{not, or-true}
use Rattle.std.proofs.lemmas.Bool.{false≢true}
use Rattle.std.proofs.Math.ListN.{get_or-append}
use Rattle.std.proofs.Math.Seq.{get_or-append_seam}
use Rattle.words.specs.declared.Body.{Body}
use Rattle.words.specs.declared.Body.TheVariants.{Query, Update}
use Rattle.words.specs.declared.Pair.{Pair}
use Rattle.words.specs.Stamps.{stamp_of}
use Rattle.words.specs.Ranges.{pair_fits}
use Rattle.replica.specs.Answer.{Answer}
use Rattle.replica.specs.declared.Ended.TheVariants.{Pending}
use Rattle.replica.specs.declared.Phase.{Phase}
use Rattle.replica.specs.declared.Phase.TheVariants.{Idle, Querying, Updating}
use Rattle.replica.specs.Gathering.{nothing_gathered}
use Rattle.replica.specs.Handlers.{broadcast_of, is_idle, read_rule, write_rule, became as placed}
use Rattle.replica.specs.Answer.{accepted}
use Rattle.tables.specs.declared.Row.{Row}
use Rattle.tables.specs.Tables.{empty_row}
use Rattle.state.specs.Needed.{responses_needed}
use Rattle.state.proofs.NeededLaws.{empty-few}
use Rattle.state.specs.State.{State, replica_of}
use Rattle.state.specs.Step.{read_row, write_row, moved, step_read, step_write}
use Rattle.state.specs.WellFormed.{body_fits, row_fits, is_write, enough, pending_of}
use Rattle.state.specs.Accepted.{read_next, write_next}
use Rattle.state.proofs.AcceptedLaws.{Invoked, read-accepted, write-accepted}
use Rattle.state.proofs.EveryLaws.{both, every_append}
use Rattle.state.proofs.KeepsMoved.{moved_later, moved-well}
use Rattle.state.proofs.LaterLaws.{Later, rows-later, pairs-later}
use Rattle.state.specs.Within.{Within}
use Rattle.state.proofs.PairLaws.{ok-within, pair-start, pair-own}
use Rattle.state.proofs.PendingLaws.{waits, pending-within, pending-append}
use Rattle.state.proofs.WellLaws.{RowOk, ok-row, PhaseOk, ReplicaOk, Well}

idle-none : (s : State) (p : ℕ) (phase : Phase) (repliers : ℕ) → is_idle phase ≡ true → PhaseOk s p phase repliers
    → (pending_of p 1 s.rows ≡ []) × (repliers ≡ 0)
idle-none s p Idle repliers e o = o
idle-none s p (Querying row gathered) repliers e o = absurd (false≢true e)
idle-none s p (Updating row sent) repliers e o = absurd (false≢true e)

-- ---- one row more

module _ (rows : List Row) (r : Row) where
  pub added-other : (q : ℕ) → (r.process.0 ≡ q → ⊥) → pending_of q 1 (rows ++ (r ∷ [])) ≡ pending_of q 1 rows
  added-other q f =
      pending-append q 1 rows (r ∷ [])
      ∙ (ap (λ (b : Bool). pending_of q 1 rows ++ cond (b && eqb r.answered.0 0) ((1 + length rows) ∷ []) []) (ne_eqb r.process.0 q f)
      ∙ append-nil (pending_of q 1 rows))

  pub added-own : (p : ℕ) → waits p r ≡ true → pending_of p 1 rows ≡ [] → pending_of p 1 (rows ++ (r ∷ [])) ≡ (length rows + 1) ∷ []
  added-own p e f =
      let g : 1 + length rows ≡ length rows + 1 = omega arith in
      pending-append p 1 rows (r ∷ []) ∙ (ap (λ (l : List ℕ). l ++ pending_of p (1 + length rows) (r ∷ [])) f
      ∙ (ap (λ (b : Bool). cond b ((1 + length rows) ∷ []) []) e ∙ ap (λ (k : ℕ). k ∷ []) g))

  pub added-last : get_or (rows ++ (r ∷ [])) (length rows + 1 - 1) empty_row ≡ r
  added-last =
      let e : length rows + 1 - 1 ≡ length rows = omega arith in
      ap (λ (k : ℕ). get_or (rows ++ (r ∷ [])) k empty_row) e ∙ get_or-append_seam rows r [] empty_row

-- ---- what read and write have in common: the answer, and the next state

abbrev answer_of : State → ℕ → Phase → Body → Answer
answer_of s p phase body =
    let r = replica_of s p in
    accepted (placed r (r.clock.0 + 1) (r.rid.0 + 1) phase r.repliers r.pairs) (broadcast_of (r.clock.0 + 1) (r.rid.0 + 1) body) Pending

abbrev next_of : State → ℕ → Phase → Body → Row → State
next_of s p phase body row = moved s p (answer_of s p phase body) s.flight s.delivered (s.rows ++ (row ∷ []))

module _ (s : State) (w : Well s) (p x : ℕ) (i : Invoked s p x) where
  begun-well : (phase : Phase) (body : Body) (row : Row) → waits p row ≡ true → row.process.0 ≡ p → RowOk (next_of s p phase body row) row
      → body_fits (next_of s p phase body row) body ≡ true
      → (pending_of p 1 (s.rows ++ (row ∷ [])) ≡ (length s.rows + 1) ∷ [] → PhaseOk (next_of s p phase body row) p phase (replica_of s p).repliers)
      → Well (next_of s p phase body row)
  begun-well phase body row e f ok b ph =
      moved-well s p (answer_of s p phase body) s.flight s.delivered (s.rows ++ (row ∷ [])) w
      (record {
        room = i.room;
        actor = i.actor;
        taken = refl;
        messages = w.messages;
        numbers = w.numbers;
        history = every_append (row_fits t) s.rows (row ∷ []) (rows-later s t later_of s.rows w.history) (both (ok-row t row ok) refl);
        own =
            record {
              clock = omega (arith, o.clock);
              rid = omega (arith, o.rid);
              sixteen = o.sixteen;
              pairs = pairs-later s t later_of s.m (replica_of s p).pairs o.pairs;
              inside = o.inside;
              few = empty-few t phase (replica_of s p).repliers none.1;
              phase = ph (added-own s.rows row p e none.0);
            };
        sends = record { time = omega (arith, o.clock); rid = omega (arith, o.rid); body = b };
        others = λ q g.
            record {
              pending = added-other s.rows row q (λ h. g (sym h ∙ f));
              row = λ j h.
                  let l = pending-within q j s.rows h in
                  get_or-append s.rows (row ∷ []) empty_row (j - 1) (omega (arith, l.least, l.most));
            };
      })
    where
      t : State
      t = next_of s p phase body row

      later_of : Later s t
      later_of = moved_later s p (answer_of s p phase body) s.flight s.delivered (s.rows ++ (row ∷ []))

      o : ReplicaOk s p (replica_of s p)
      o = w.replica p i.actor

      -- an idle process has nothing pending, and its set is empty
      none : (pending_of p 1 s.rows ≡ []) × ((replica_of s p).repliers ≡ 0)
      none = idle-none s p (replica_of s p).phase (replica_of s p).repliers i.idle o.phase

  read-well : Well (read_next s p x)
  unfolding read_rule
  read-well =
      begun-well (Querying (length s.rows + 1) nothing_gathered) (Query x) row (both (eq-eqb p p refl) refl) refl
      (record {
        process = i.actor;
        register = i.register;
        invoked = omega (arith, (w.replica p i.actor).clock);
        answered = omega arith;
        pair = pair-start (s.accepted + 1) s.n;
        written = refl;
        query = or-true (enough s (responses_needed s) 0);
        update = refl;
      })
      (ok-within i.register)
      (λ e. (
        e,
        ap (λ (y : Row). is_write y.kind) (added-last s.rows row),
        pair-start (s.accepted + 1) s.n,
        ap (λ (y : Row). y.replied.query) (added-last s.rows row),
      ))
    where
      row : Row
      row = read_row p x ((replica_of s p).clock.0 + 1)

  write-well : (value : ℤ) → Well (write_next s p x value)
  unfolding write_rule
  write-well value =
      begun-well (Updating (length s.rows + 1) pair) (Update x pair) (write_row p x value time) (both (eq-eqb p p refl) refl) refl
      (record {
        process = i.actor;
        register = i.register;
        invoked = stamped.most;
        answered = omega arith;
        pair = fits;
        written = let f : time ≡ 0 → ⊥ = λ e. omega (arith, stamped.least) in ap not (ne_eqb time 0 f);
        query = refl;
        update = refl;
      })
      (both (ok-within i.register) fits)
      (λ e. (e, fits, ap (λ (y : Row). is_write y.kind || enough s (responses_needed s) y.replied.query) (added-last s.rows (write_row p x value time))))
    where
      time : ℕ
      time = (replica_of s p).clock.0 + 1

      pair : Pair
      pair = record { stamp = stamp_of time p; value = value }

      stamped : Within time (s.accepted + 1)
      stamped = record { least = omega arith; most = omega (arith, (w.replica p i.actor).clock) }

      fits : pair_fits (s.accepted + 1) s.n pair ≡ true
      fits = pair-own (s.accepted + 1) s.n time p value stamped i.actor

-- ---- the events

pub read_keeps : (s : State) (p x : ℕ) → Well s → (step_read s p x).refusal ≡ 0 → Well (step_read s p x).state
read_keeps s p x w e = let a = read-accepted s p x e in subst Well (sym a.1) (read-well s w p x a.0)

pub write_keeps : (s : State) (p x : ℕ) (value : ℤ) → Well s → (step_write s p x value).refusal ≡ 0 → Well (step_write s p x value).state
write_keeps s p x value w e = let a = write-accepted s p x value e in subst Well (sym a.1) (write-well s w p x a.0 value)
