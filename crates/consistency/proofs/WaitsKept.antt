-- After a move every process waits as the invariant says: the others for what they waited, and the one that moved by its new phase.
use Rattle.std.specs.Prelude.{ℕ, ◌+◌, ◌-◌, ◌≤◌, ◌≡◌, refl, true, List, length, get_or, set}
use Rattle.std.proofs.Common.{sym, ap, subst₂, ◌∙◌, inl, arith, get_or-set_other}
use Rattle.std.proofs.Math.Decide.{ℕ_discrete}
use Rattle.std.proofs.Math.ListN.{get_or-append}
use Rattle.words.specs.declared.Message.{Message}
use Rattle.words.specs.declared.Pair.{Pair}
use Rattle.words.specs.Quorum.{member}
use Rattle.words.specs.QuorumLaws.{Inside, inside-empty, inside-members}
use Rattle.words.specs.Stamps.{newer}
use Rattle.replica.specs.declared.Gathered.{Gathered}
use Rattle.replica.specs.declared.Phase.TheVariants.{Idle, Querying, Updating}
use Rattle.replica.specs.declared.Replica.{Replica}
use Rattle.replica.specs.declared.Sends.{Sends}
use Rattle.replica.specs.Gathering.{nothing_gathered, gathered_with}
use Rattle.tables.specs.declared.Row.{Row}
use Rattle.tables.specs.Tables.{empty_row}
use Rattle.state.specs.State.{State, replica_of, row_of}
use Rattle.state.specs.Step.{completed}
use Rattle.consistency.specs.Held.{Held, clock_at}
use Rattle.consistency.specs.Moves.{Turn, Move, Acks, clock_then, repliers_then, written_pair, own-clock, own-phase, own-repliers}
use Rattle.consistency.specs.Moves.Move.{rests, reads, writes, responds, stores, counts, chooses, gathers, completes}
use Rattle.consistency.specs.Sound.{Sound, Waits, IsRow, Asking, Telling}
use Rattle.consistency.proofs.Kept.{Kept, asking-kept, telling-kept}
use Rattle.consistency.proofs.Begun.{last_row, written-source}
use Rattle.consistency.proofs.Counted.{asked-more, told_more, repliers-inside}

-- ---- a process by its new phase

none_in_empty : (k : ℕ) → member 0 k ≡ true → ⊥
none_in_empty k m = let range = inside-members 0 0 (inside-empty 0) k m in omega arith

module _ (t : State) (after : Held) (p : ℕ) (r : Replica) (own : replica_of t p ≡ r) (inside : Inside t.n r.repliers) where
  pub now-idle : r.phase ≡ Idle → r.repliers ≡ 0 → Waits t after p
  now-idle e z =
      let phase = ap (λ (r : Replica). r.phase) own in
      let repliers = ap (λ (r : Replica). r.repliers) own in
      record {
        inside = rw repliers inside;
        idle = λ f. repliers ∙ z;
        asking = λ i gathered f. let z : ◌≡◌ {A = ℕ} 0 1 = cc in absurd (omega arith);
        telling = λ i sent f. let z : ◌≡◌ {A = ℕ} 0 1 = cc in absurd (omega arith);
      }

  now-asking : (i : ℕ) (gathered : Gathered) (row : Row) → r.phase ≡ Querying i gathered → IsRow t i → row_of t i ≡ row
      → Asking t after p row gathered.best r.repliers → Waits t after p
  now-asking i gathered row e n g a =
      let phase = ap (λ (r : Replica). r.phase) own in
      let repliers = ap (λ (r : Replica). r.repliers) own in
      record {
        inside = rw repliers inside;
        idle = λ f. let z : ◌≡◌ {A = ℕ} 0 1 = cc in absurd (omega arith);
        asking = λ j other f.
            subst₂ (λ (j : ℕ) (other : Gathered). IsRow t j × Asking t after p (row_of t j) other.best (replica_of t p).repliers) (cc) (cc)
            (n, subst₂ (λ (row : Row) (set : ℕ). Asking t after p row gathered.best set) (sym g) (sym repliers) a);
        telling = λ j sent f. let z : ◌≡◌ {A = ℕ} 0 1 = cc in absurd (omega arith);
      }

  now-telling : (i : ℕ) (sent : Pair) (row : Row) → r.phase ≡ Updating i sent → IsRow t i → row_of t i ≡ row
      → Telling t after p row sent r.repliers → Waits t after p
  now-telling i sent row e n g a =
      let phase = ap (λ (r : Replica). r.phase) own in
      let repliers = ap (λ (r : Replica). r.repliers) own in
      record {
        inside = rw repliers inside;
        idle = λ f. let z : ◌≡◌ {A = ℕ} 0 1 = cc in absurd (omega arith);
        asking = λ j gathered f. let z : ◌≡◌ {A = ℕ} 0 1 = cc in absurd (omega arith);
        telling = λ j other f.
            subst₂ (λ (j : ℕ) (other : Pair). IsRow t j × Telling t after p (row_of t j) other (replica_of t p).repliers) (cc) (cc)
            (n, subst₂ (λ (row : Row) (set : ℕ). Telling t after p row sent set) (sym g) (sym repliers) a);
      }

-- ---- the rows of a move

-- an ack that counts is counted for a row of the process that counts it
own_row : {s : State} {held : Held} (sound : Sound s held) (message : Message) (i : ℕ) (sent : Pair) → Acks s message i sent
    → (row_of s i).process.0 ≡ message.to.0
own_row sound message i sent a =
    ((sound.waits message.to.0 (sound.flight message a.flying).to-first).telling i sent a.phase).1.serves.own

module _ {s t : State} {held after : Held} (sound : Sound s held) (kept : Kept s held t after) where
  numbered-kept : (i : ℕ) → IsRow s i → IsRow t i
  numbered-kept i n = let longer = kept.rows.longer in omega arith

  -- a process that waits for what it did, whose rows are as they were
  same-waits : (q : ℕ) → 1 ≤ q → (replica_of t q).phase ≡ (replica_of s q).phase → (replica_of t q).repliers ≡ (replica_of s q).repliers
      → ((i : ℕ) → IsRow s i → (row_of s i).process.0 ≡ q → row_of t i ≡ row_of s i)
      → Waits t after q
  same-waits q first phase repliers rows =
      let old = sound.waits q first in
      record {
        inside = rw (repliers, kept.processes) old.inside;
        idle = λ e. repliers ∙ old.idle (sym phase ∙ e);
        asking = λ i gathered e.
            let (n, a) = old.asking i gathered (sym phase ∙ e) in (
              numbered-kept i n,
              rw (rows i n a.serves.own, repliers) (asking-kept kept q (row_of s i) gathered.best (replica_of s q).repliers first old.inside a),
            );
        telling = λ i sent e.
            let (n, a) = old.telling i sent (sym phase ∙ e) in (
              numbered-kept i n,
              rw (rows i n a.serves.own, repliers) (telling-kept kept q (row_of s i) sent (replica_of s q).repliers first old.inside a),
            );
      }

  turn-waits : {p : ℕ} {r : Replica} {sends : Sends} {rows : List Row} → Turn s t p r sends rows
      → ((i : ℕ) → IsRow s i → ((row_of s i).process.0 ≡ p → ⊥) → get_or rows (i - 1) empty_row ≡ row_of s i)
      → (1 ≤ p → Waits t after p)
      → (q : ℕ) → 1 ≤ q → Waits t after q
  turn-waits {p} turn rows own q first =
      elim (ℕ_discrete q p) [
        | yes e ↦ rw e (own (omega arith))
        | no n ↦
            same-waits q first (ap (λ (r : Replica). r.phase) (turn.others q first n)) (ap (λ (r : Replica). r.repliers) (turn.others q first n))
            (λ i m e. rw turn.rows (rows i m (λ f. n (sym e ∙ f))))
      ]

  -- the process that moved waits for what it did
  turn-same : {p : ℕ} {r : Replica} {sends : Sends} → Turn s t p r sends s.rows
      → r.phase ≡ (replica_of s p).phase → r.repliers ≡ (replica_of s p).repliers
      → (q : ℕ) → 1 ≤ q → Waits t after q
  turn-same {p} turn phase repliers =
      turn-waits turn (λ i n f. refl) λ first.
      same-waits p first (own-phase turn ∙ phase) (own-repliers turn ∙ repliers)
      (λ i n e. rw turn.rows)

  pub move-waits : Move s t → (q : ℕ) → 1 ≤ q → Waits t after q
  move-waits (rests p c turn) = turn-same turn refl refl
  move-waits (responds message x flying body turn) = turn-same turn refl refl
  move-waits (stores message x pair flying body turn) = turn-same turn refl refl
  move-waits (reads p x ready turn) = turn-waits turn (λ i n f. get_or-append s.rows _ empty_row (i - 1) (omega arith)) own
    where
      own : 1 ≤ p → Waits t after p
      own first =
          let old = sound.waits p first in
          let empty = old.idle ready.idle in
          let last = last_row s.rows t.rows _ turn.rows in
          now-asking t after p _ turn.own (rw kept.processes old.inside) (length s.rows + 1) nothing_gathered _ refl last.0 last.1
          (record {
            serves = record { own = refl; pending = refl; early = omega arith; source = inl refl };
            kind = refl;
            counted = λ k m. absurd (none_in_empty k (rw empty at m));
          })
  move-waits (writes p x value ready turn) = turn-waits turn (λ i n f. get_or-append s.rows _ empty_row (i - 1) (omega arith)) own
    where
      pair : Pair
      pair = written_pair (replica_of s p) p value

      own : 1 ≤ p → Waits t after p
      own first =
          let old = sound.waits p first in
          let empty = old.idle ready.idle in
          let last = last_row s.rows t.rows _ turn.rows in
          let clock = own-clock turn in
          now-telling t after p _ turn.own (rw kept.processes old.inside) (length s.rows + 1) pair _ refl last.0 last.1
          (record {
            serves = record { own = refl; pending = refl; early = omega arith; source = written-source s.rows t.rows p x value _ turn.rows };
            counted = λ k m. absurd (none_in_empty k (rw empty at m));
            written = λ e. refl;
            asked = λ e. let z : ◌≡◌ {A = ℕ} 0 1 = cc in absurd (omega arith);
          })
  move-waits (counts message i gathered pair r turn) = turn-waits turn (λ i n f. refl) own
    where
      clock : clock_at t message.to.0 ≡ clock_then s message
      clock = own-clock turn

      own : 1 ≤ message.to.0 → Waits t after message.to.0
      own first =
          now-asking t after message.to.0 _ turn.own (rw kept.processes (repliers-inside sound message r.flying)) i (gathered_with gathered pair) _ refl
          (numbered-kept i ((sound.waits message.to.0 first).asking i gathered r.phase).0)
          (rw turn.rows)
          (asked-more sound kept message clock i gathered pair r)
  move-waits (chooses message i gathered pair r enough turn) = turn-waits turn (λ i n f. refl) own
    where
      clock : clock_at t message.to.0 ≡ clock_then s message
      clock = own-clock turn

      own : 1 ≤ message.to.0 → Waits t after message.to.0
      own first =
          let asked = asked-more sound kept message clock i gathered pair r in
          now-telling t after message.to.0 _ turn.own (inside-empty t.n) i (newer gathered.best pair) _ refl
          (numbered-kept i ((sound.waits message.to.0 first).asking i gathered r.phase).0)
          (rw turn.rows)
          (record {
            serves = asked.serves;
            counted = λ k m. absurd (none_in_empty k m);
            written = λ e. let z : ◌≡◌ {A = ℕ} 0 1 = cc asked.kind in absurd (omega arith);
            asked = λ e. record {
              set = repliers_then s message;
              inside = rw kept.processes (repliers-inside sound message r.flying);
              enough = rw kept.processes enough;
              all = asked.counted;
            };
          })
  move-waits (gathers message i sent a turn) = turn-waits turn (λ i n f. refl) own
    where
      clock : clock_at t message.to.0 ≡ clock_then s message
      clock = own-clock turn

      own : 1 ≤ message.to.0 → Waits t after message.to.0
      own first =
          now-telling t after message.to.0 _ turn.own (rw kept.processes (repliers-inside sound message a.flying)) i sent _ refl
          (numbered-kept i ((sound.waits message.to.0 first).telling i sent a.phase).0)
          (rw turn.rows)
          (told_more sound kept message clock i sent a)
  move-waits (completes message i sent a enough turn) = turn-waits turn rows own
    where
      rows : (j : ℕ) → IsRow s j → ((row_of s j).process.0 ≡ message.to.0 → ⊥)
          → get_or (set s.rows (i - 1) (completed (row_of s i) (record { 0 = clock_then s message }) sent 0)) (j - 1) empty_row ≡ row_of s j
      rows j n f = get_or-set_other s.rows (i - 1) (j - 1) _ empty_row λ e. f (rw e (own_row sound message i sent a))

      own : 1 ≤ message.to.0 → Waits t after message.to.0
      own first = now-idle t after message.to.0 _ turn.own (inside-empty t.n) refl refl
