-- After a move every row is entered as the invariant says: those that were, the one that was begun, and the one that was completed.
use Rattle.std.specs.Prelude.{ℕ, ◌-◌, ◌≤◌, ◌<◌, ◌≡◌, refl, List, [], ◌∷◌, ◌++◌, length, get_or, set}
use Rattle.std.proofs.Common.{sym, ap, subst, ◌∙◌, arith, length-append, length-set, get_or-set_same, get_or-set_other}
use Rattle.std.proofs.Math.Decide.{ℕ_discrete, dec_lt}
use Rattle.std.proofs.Math.ListN.{get_or-append}
use Rattle.std.proofs.Math.Seq.{get_or-append_seam}
use Rattle.words.specs.declared.Message.{Message}
use Rattle.words.specs.declared.Pair.{Pair}
use Rattle.words.specs.Quorum.{counted}
use Rattle.tables.specs.declared.Kind.{Kind}
use Rattle.tables.specs.declared.Kind.TheVariants.{Read, Write}
use Rattle.tables.specs.declared.Row.{Row}
use Rattle.tables.specs.Tables.{empty_row}
use Rattle.replica.specs.declared.Phase.TheVariants.{Updating}
use Rattle.state.specs.Needed.{needed}
use Rattle.state.specs.State.{State, row_of}
use Rattle.state.specs.Step.{kept as kept_pair, completed}
use Rattle.consistency.specs.Held.{Held, clock_at}
use Rattle.consistency.specs.Moves.{Move, Acks, reached, clock_then, repliers_then, own-clock}
use Rattle.consistency.specs.Moves.Move.{rests, reads, writes, responds, stores, counts, chooses, gathers, completes}
use Rattle.consistency.specs.Sound.{Sound, Entered, Telling, From}
use Rattle.consistency.proofs.Kept.{Kept, entered-kept}
use Rattle.consistency.proofs.MoveKept.{kept-write}
use Rattle.consistency.proofs.Counted.{told_more, repliers-inside}

-- ---- the pair of a completed row

kept_read : (k : Kind) (r : Row) (pair : Pair) → k ≡ Read → kept_pair k r pair ≡ pair
kept_read Read r pair e = refl
kept_read Write r pair e = let z : ◌≡◌ {A = ℕ} 0 1 = cc in absurd (omega arith)

-- it has the stamp that was sent
kept-stamp : (k : Kind) (r : Row) (pair : Pair) → (k ≡ Write → r.stamp ≡ pair.stamp) → (kept_pair k r pair).stamp ≡ pair.stamp
kept-stamp Read r pair e = refl
kept-stamp Write r pair e = e refl

module _ {s t : State} {held after : Held} (sound : Sound s held) (kept : Kept s held t after) where
  -- ---- rows that were there

  old-entered : (j : ℕ) → j < length s.rows → Entered t after (get_or s.rows j empty_row)
  old-entered j l = entered-kept kept (get_or s.rows j empty_row) (sound.rows j l)

  each-entered : (rows : List Row) → t.rows ≡ rows → ((j : ℕ) → j < length rows → Entered t after (get_or rows j empty_row))
      → (j : ℕ) → j < length t.rows → Entered t after (get_or t.rows j empty_row)
  each-entered rows e each j l =
      subst (Entered t after) (sym (ap (λ (rows : List Row). get_or rows j empty_row) e)) (each j (omega (arith, ap length e)))

  -- ---- a row that was begun

  begun-entered : (r : Row) → Entered t after r → (j : ℕ) → j < length (s.rows ++ (r ∷ [])) → Entered t after (get_or (s.rows ++ (r ∷ [])) j empty_row)
  begun-entered r new j l =
      elim (dec_lt j (length s.rows)) [
        | yes h ↦ rw (get_or-append s.rows (r ∷ []) empty_row j h) (old-entered j h)
        | no h ↦
            let last : j ≡ length s.rows = omega (arith, length-append s.rows (r ∷ [])) in
            rw (last, get_or-append_seam s.rows r [] empty_row) new
      ]

  -- ---- a row that was completed

  completed-entered : (message : Message) (i : ℕ) (sent : Pair) → Acks s message i sent → clock_at t message.to.0 ≡ clock_then s message
      → needed s (Updating i sent) ≤ counted (repliers_then s message)
      → i - 1 < length s.rows
      → Entered t after (completed (row_of s i) (record { 0 = clock_then s message }) sent 0)
  completed-entered message i sent a clock enough l =
      record {
        first = now.first;
        last = now.last;
        begun = now.begun;
        past = now.past;
        written = λ e. ap (λ (p : Pair). p.stamp) (kept-write r.kind r sent e) ∙ now.written e;
        done = λ n. record {
          later = omega (arith, rw own at old.past);
          past = rw own (omega arith);
          early = rw stamp (omega (arith, before.serves.early));
          told = record {
            set = repliers_then s message;
            inside = rw kept.processes (repliers-inside sound message a.flying);
            enough = rw kept.processes enough;
            all = λ k m. rw (stamp, ← clock) (told.counted k m);
          };
          asked = λ e. rw stamp (told.asked e);
          source = λ e. subst (From t.rows r.register) (sym (kept_read r.kind r sent e)) told.serves.source;
        };
        register-first = now.register-first;
        register-last = now.register-last;
      }
    where
      r : Row
      r = row_of s i

      old : Entered s held r
      old = sound.rows (i - 1) l

      now : Entered t after r
      now = old-entered (i - 1) l

      before : Telling s held message.to.0 r sent (reached s message).repliers
      before = ((sound.waits message.to.0 (sound.flight message a.flying).to-first).telling i sent a.phase).1

      told : Telling t after message.to.0 r sent (repliers_then s message)
      told = told_more sound kept message clock i sent a

      own : r.process.0 ≡ message.to.0
      own = before.serves.own

      stamp : (kept_pair r.kind r sent).stamp ≡ sent.stamp
      stamp = kept-stamp r.kind r sent before.written

  pub move-entered : Move s t → (j : ℕ) → j < length t.rows → Entered t after (get_or t.rows j empty_row)
  move-entered (rests p c turn) = each-entered _ turn.rows old-entered
  move-entered (responds message x flying body turn) = each-entered _ turn.rows old-entered
  move-entered (stores message x pair flying body turn) = each-entered _ turn.rows old-entered
  move-entered (counts message i gathered pair r turn) = each-entered _ turn.rows old-entered
  move-entered (chooses message i gathered pair r enough turn) = each-entered _ turn.rows old-entered
  move-entered (gathers message i sent a turn) = each-entered _ turn.rows old-entered
  move-entered (reads p x ready turn) = each-entered _ turn.rows (begun-entered _ (
      record {
        first = ready.least;
        last = rw kept.processes ready.most;
        begun = omega arith;
        past = let clock = own-clock turn in omega arith;
        written = λ e. let z : ◌≡◌ {A = ℕ} 0 1 = cc in absurd (omega arith);
        done = λ n. absurd (n refl);
        register-first = ready.first;
        register-last = omega (arith, ready.last, sound.sized.registers);
      }
      ))
  move-entered (writes p x value ready turn) = each-entered _ turn.rows (begun-entered _ (
      record {
        first = ready.least;
        last = rw kept.processes ready.most;
        begun = omega arith;
        past = let clock = own-clock turn in omega arith;
        written = λ e. refl;
        done = λ n. absurd (n refl);
        register-first = ready.first;
        register-last = omega (arith, ready.last, sound.sized.registers);
      }
      ))
  move-entered (completes message i sent a enough turn) = each-entered _ turn.rows each
    where
      l : i - 1 < length s.rows
      l = let n = ((sound.waits message.to.0 (sound.flight message a.flying).to-first).telling i sent a.phase).0 in omega arith

      new : Row
      new = completed (row_of s i) (record { 0 = clock_then s message }) sent 0

      each : (j : ℕ) → j < length (set s.rows (i - 1) new) → Entered t after (get_or (set s.rows (i - 1) new) j empty_row)
      each j h =
          elim (ℕ_discrete j (i - 1)) [
            | yes e ↦
                rw (e, get_or-set_same s.rows (i - 1) new empty_row l)
                (completed-entered message i sent a (own-clock turn) enough l)
            | no n ↦ rw (get_or-set_other s.rows (i - 1) j new empty_row n) (old-entered j (omega (arith, length-set s.rows (i - 1) new)))
          ]
