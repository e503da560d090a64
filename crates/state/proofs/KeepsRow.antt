-- A row of which a phase ended fits: the replies of enough processes end the query phase of a read, their acks complete an operation.
use Rattle.std.specs.Prelude.{ℕ, ◌≤◌, ◌≡◌, refl, Bool, true, false, not, cond, ◌&&◌, ◌||◌, eqb}
use Rattle.std.proofs.Common.{ap, ◌∙◌}
use Rattle.words.specs.declared.Pair.{Pair}
use Rattle.words.specs.declared.Time.{Time}
use Rattle.words.specs.Ranges.{pair_fits}
use Rattle.tables.specs.declared.Kind.{Kind}
use Rattle.tables.specs.declared.Kind.TheVariants.{Read, Write}
use Rattle.tables.specs.declared.Row.{Row}
use Rattle.state.specs.Needed.{responses_needed, acks_needed}
use Rattle.state.specs.State.{State}
use Rattle.state.specs.Step.{kept, completed, queried_row}
use Rattle.state.specs.WellFormed.{is_write, enough}
use Rattle.state.proofs.WellLaws.{RowOk}

or-first : (a b : Bool) → a ≡ true → (a || b) ≡ true
or-first a b e = ap (λ (t : Bool). t || b) e

module _ (s : State) (r : Row) (k : RowOk s r) (who : ℕ) where
  pub queried-ok : enough s (responses_needed s) who ≡ true → is_write r.kind ≡ false → RowOk s (queried_row r who)
  queried-ok fits read =
      record {
        process = k.process;
        register = k.register;
        invoked = k.invoked;
        answered = k.answered;
        pair = k.pair;
        written = k.written;
        query =
            ap (λ (b : Bool). cond b (eqb who 0) (enough s (responses_needed s) who || (eqb r.answered.0 0 && eqb who 0))) read
            ∙ or-first (enough s (responses_needed s) who) (eqb r.answered.0 0 && eqb who 0) fits;
        update = k.update;
      }

  -- the query phase of a read has ended before
  pub completed-ok : enough s (acks_needed s) who ≡ true → (time : Time) (pair : Pair) → time.0 ≤ s.accepted → eqb time.0 0 ≡ false → pair_fits s.accepted s.n pair ≡ true
      → (is_write r.kind || enough s (responses_needed s) r.replied.query) ≡ true → RowOk s (completed r time pair who)
  completed-ok fits time pair h late f ended =
      record {
        process = k.process;
        register = k.register;
        invoked = k.invoked;
        answered = h;
        pair = own r.kind;
        written = written r.kind k.written;
        query = queried r.kind k.query ended;
        update = rw late fits;
      }
    where
      own : (kind : Kind) → pair_fits s.accepted s.n (kept kind r pair) ≡ true
      own Read = f
      own Write = k.pair

      written : (kind : Kind) → (not (is_write kind) || not (eqb r.stamp.time.0 0)) ≡ true
          → (not (is_write kind) || not (eqb (kept kind r pair).stamp.time.0 0)) ≡ true
      written Read e = refl
      written Write e = e

      queried : (kind : Kind)
          → cond (is_write kind) (eqb r.replied.query 0) (enough s (responses_needed s) r.replied.query || (eqb r.answered.0 0 && eqb r.replied.query 0)) ≡ true
          → (is_write kind || enough s (responses_needed s) r.replied.query) ≡ true
          → cond (is_write kind) (eqb r.replied.query 0) (enough s (responses_needed s) r.replied.query || (eqb time.0 0 && eqb r.replied.query 0)) ≡ true
      queried Read e g = or-first (enough s (responses_needed s) r.replied.query) (eqb time.0 0 && eqb r.replied.query 0) g
      queried Write e g = e
