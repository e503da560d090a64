-- Every move of a sound state keeps what `Kept` says.
use Rattle.std.specs.Prelude.{ℕ, ◌-◌, ◌≤◌, ◌<◌, ◌≡◌, refl, List, [], ◌∷◌, ◌++◌, length, get_or, set}
use Rattle.std.proofs.Common.{sym, ap, ◌∙◌, inl, inr, arith, length-append, length-set, get_or-set_same, get_or-set_other}
use Rattle.std.proofs.Math.Decide.{ℕ_discrete}
use Rattle.std.proofs.Math.ListN.{get_or-append}
use Rattle.words.specs.declared.Pair.{Pair}
use Rattle.words.specs.declared.Time.{Time}
use Rattle.words.specs.Stamps.{start_pair, newer, AtMost}
use Rattle.words.proofs.StampLaws.{at_most-reflexive, newer-left}
use Rattle.replica.specs.declared.Gathered.{Gathered}
use Rattle.replica.specs.declared.Phase.TheVariants.{Querying}
use Rattle.replica.specs.declared.Replica.{Replica}
use Rattle.replica.specs.declared.Sends.{Sends}
use Rattle.replica.specs.Gathering.{gathered_with}
use Rattle.replica.specs.Handlers.{stored}
use Rattle.tables.specs.declared.Kind.{Kind}
use Rattle.tables.specs.declared.Kind.TheVariants.{Read, Write}
use Rattle.tables.specs.declared.Row.{Row}
use Rattle.tables.specs.Tables.{empty_row}
use Rattle.state.specs.State.{State, replica_of}
use Rattle.state.specs.Step.{kept as kept_pair, completed}
use Rattle.consistency.specs.Held.{Held, Advance, held_after, held-past, held-higher, held-recalls}
use Rattle.consistency.specs.Moves.{Turn, Move, later, reached, clock_then}
use Rattle.consistency.specs.Moves.Move.{rests, reads, writes, responds, stores, counts, chooses, gathers, completes}
use Rattle.consistency.specs.Sound.{Sound, said, pair_of}
use Rattle.consistency.proofs.Kept.{RowKept, RowsKept, Traced, Kept}

-- ---- the rows

row_same : (r : Row) → RowKept r r
row_same r = record { process = refl; kind = refl; register = refl; invoked = refl; stamp = λ e. refl; value = λ e. refl }

rows_same : (rows : List Row) → RowsKept rows rows
rows_same rows = record { longer = omega arith; kept = λ j l. row_same (get_or rows j empty_row) }

rows-longer : (rows : List Row) (r : Row) → RowsKept rows (rows ++ (r ∷ []))
rows-longer rows r =
    record {
      longer = omega (arith, length-append rows (r ∷ []));
      kept = λ j l. rw (get_or-append rows (r ∷ []) empty_row j l) (row_same (get_or rows j empty_row));
    }

-- a write keeps its own pair
pub kept-write : (k : Kind) (r : Row) (pair : Pair) → k ≡ Write → kept_pair k r pair ≡ pair_of r
kept-write Read r pair e = let z : ◌≡◌ {A = ℕ} 0 1 = cc in absurd (omega arith)
kept-write Write r pair e = refl

completed-kept : (r : Row) (time : Time) (pair : Pair) (who : ℕ) → RowKept r (completed r time pair who)
completed-kept r time pair who =
    record {
      process = refl;
      kind = refl;
      register = refl;
      invoked = refl;
      stamp = λ e. ap (λ (p : Pair). p.stamp) (kept-write r.kind r pair e);
      value = λ e. ap (λ (p : Pair). p.value) (kept-write r.kind r pair e);
    }

rows-completed : (rows : List Row) (i : ℕ) (time : Time) (pair : Pair) (who : ℕ)
    → RowsKept rows (set rows i (completed (get_or rows i empty_row) time pair who))
rows-completed rows i time pair who = record { longer = omega (arith, length-set rows i (completed (get_or rows i empty_row) time pair who)); kept = each }
  where
    each : (j : ℕ) → j < length rows → RowKept (get_or rows j empty_row) (get_or (set rows i (completed (get_or rows i empty_row) time pair who)) j empty_row)
    each j l =
        elim (ℕ_discrete j i) [
          | yes e ↦
              rw e
              (let inside : i < length rows = omega arith in
              rw (get_or-set_same rows i (completed (get_or rows i empty_row) time pair who) empty_row inside) (completed-kept (get_or rows i empty_row) time pair who))
          | no n ↦ rw (get_or-set_other rows i j (completed (get_or rows i empty_row) time pair who) empty_row n) (row_same (get_or rows j empty_row))
        ]

-- ---- the process that moved

advance-same : (r after : Replica) → r.clock.0 ≤ after.clock.0 → after.pairs ≡ r.pairs → Advance r after
advance-same r after l e =
    record { clock = l; higher = λ x. rw e (at_most-reflexive (stored r x).stamp); still = λ c x. rw e refl }

-- a greater pair is stored for x
advance-stored : (r : Replica) (clock x : ℕ) (pair : Pair) → length r.pairs ≡ 16 → 1 ≤ x → x ≤ 16 → r.clock.0 < clock
    → Advance r (later r clock (set r.pairs (x - 1) (newer (stored r x) pair)))
advance-stored r clock x pair sixteen first last l = record { clock = omega arith; higher = each; still = λ e y. absurd (omega arith) }
  where
    each : (y : ℕ) → AtMost (stored r y).stamp (get_or (set r.pairs (x - 1) (newer (stored r x) pair)) (y - 1) start_pair).stamp
    each y =
        elim (ℕ_discrete (y - 1) (x - 1)) [
          | yes e ↦
              rw (e, get_or-set_same r.pairs (x - 1) (newer (stored r x) pair) start_pair (omega arith)) (newer-left (stored r x) pair)
          | no n ↦
              rw (get_or-set_other r.pairs (x - 1) (y - 1) (newer (stored r x) pair) start_pair n) (at_most-reflexive (stored r y).stamp)
        ]

traced-same : (r after : Replica) → after.rid.0 ≡ r.rid.0 → after.phase ≡ r.phase → Traced r after
traced-same r after e f =
    record {
      rid = omega arith;
      asking = λ i gathered g. inr (gathered, sym f ∙ g, sym e);
      telling = λ i sent g. inr (sym f ∙ g, sym e);
    }

traced-new : (r after : Replica) → r.rid.0 < after.rid.0 → Traced r after
traced-new r after l = record { rid = omega arith; asking = λ i gathered g. inl l; telling = λ i sent g. inl l }

-- a better pair, for the same row
traced-better : (r after : Replica) (i : ℕ) (gathered more : Gathered) → after.rid.0 ≡ r.rid.0
    → r.phase ≡ Querying i gathered → after.phase ≡ Querying i more → Traced r after
traced-better r after i gathered more e f g =
    record {
      rid = omega arith;
      asking = λ j other h. inr (gathered, cc, sym e);
      telling = λ j sent h. let z : ◌≡◌ {A = ℕ} 0 1 = cc in absurd (omega arith);
    }

-- ---- a move

module _ {s t : State} {held : Held} (sound : Sound s held) where
  turn-kept : {p : ℕ} {r : Replica} {sends : Sends} {rows : List Row} → Turn s t p r sends rows
      → Advance (replica_of s p) r → Traced (replica_of s p) r → RowsKept s.rows rows → Kept s held t (held_after held t)
  turn-kept {p} {r} turn a c rows =
      record {
        processes = turn.processes;
        registers = turn.registers;
        replicas = turn.replicas;
        clock = λ k first. (advance k first).clock;
        traced = each Traced c (λ q. traced-same q q refl refl);
        past = held-past s t held sound.recalls advance;
        higher = held-higher s t held sound.recalls advance;
        recalls = held-recalls s t held sound.recalls advance;
        rows = rw turn.rows rows;
      }
    where
      each : (P : Replica → Replica → Type 0) → P (replica_of s p) r → ((q : Replica) → P q q) → (k : ℕ) → 1 ≤ k → P (replica_of s k) (replica_of t k)
      each P own same k first =
          elim (ℕ_discrete k p) [ yes e ↦ rw (e, turn.own) own | no n ↦ rw (turn.others k first n) (same (replica_of s k)) ]

      advance : (k : ℕ) → 1 ≤ k → Advance (replica_of s k) (replica_of t k)
      advance = each Advance a (λ q. advance-same q q (omega arith) refl)

  pub move-kept : Move s t → Kept s held t (held_after held t)
  move-kept (rests p c turn) =
      turn-kept turn (advance-same (replica_of s p) _ (omega arith) refl) (traced-same (replica_of s p) _ refl refl) (rows_same s.rows)
  move-kept (reads p x ready turn) =
      turn-kept turn (advance-same (replica_of s p) _ (omega arith) refl) (traced-new (replica_of s p) _ (omega arith)) (rows-longer s.rows _)
  move-kept (writes p x value ready turn) =
      turn-kept turn (advance-same (replica_of s p) _ (omega arith) refl) (traced-new (replica_of s p) _ (omega arith)) (rows-longer s.rows _)
  move-kept (responds message x flying body turn) =
      turn-kept turn (advance-same (reached s message) _ (omega arith) refl) (traced-same (reached s message) _ refl refl) (rows_same s.rows)
  move-kept (stores message x pair flying body turn) =
      let carried = sound.flight message flying in
      let tells = said carried body in
      turn-kept turn
      (advance-stored (reached s message) (clock_then s message) x pair (sound.stores message.to.0 carried.to-first).sixteen
      tells.first tells.last (omega arith))
      (traced-same (reached s message) _ refl refl)
      (rows_same s.rows)
  move-kept (counts message i gathered pair r turn) =
      turn-kept turn (advance-same (reached s message) _ (omega arith) refl)
      (traced-better (reached s message) _ i gathered (gathered_with gathered pair) refl r.phase refl)
      (rows_same s.rows)
  move-kept (chooses message i gathered pair r enough turn) =
      turn-kept turn (advance-same (reached s message) _ (omega arith) refl) (traced-new (reached s message) _ (omega arith)) (rows_same s.rows)
  move-kept (gathers message i sent a turn) =
      turn-kept turn (advance-same (reached s message) _ (omega arith) refl) (traced-same (reached s message) _ refl (sym a.phase)) (rows_same s.rows)
  move-kept (completes message i sent a enough turn) =
      turn-kept turn (advance-same (reached s message) _ (omega arith) refl) (traced-new (reached s message) _ (omega arith))
      (rows-completed s.rows (i - 1) _ sent 0)
