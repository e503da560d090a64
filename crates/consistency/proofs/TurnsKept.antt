-- After a move a process still has one operation at a time: the row it points to is its only pending one, and its others were answered in turn.
use Rattle.std.specs.Prelude.{ℕ, suc, ◌-◌, ◌≤◌, ◌<◌, ◌≡◌, refl, List, [], ◌∷◌, ◌++◌, length, get_or, set}
use Rattle.std.proofs.Common.{sym, ap, subst, ◌∙◌, add-one, arith, length-append, length-set, get_or-set_same, get_or-set_other}
use Rattle.std.proofs.Math.Decide.{ℕ_discrete, dec_lt}
use Rattle.std.proofs.Math.ListN.{get_or-append}
use Rattle.std.proofs.Math.Seq.{get_or-append_seam}
use Rattle.words.specs.declared.Message.{Message}
use Rattle.words.specs.declared.Pair.{Pair}
use Rattle.replica.specs.declared.Phase.TheVariants.{Idle}
use Rattle.replica.specs.declared.Replica.{Replica}
use Rattle.replica.specs.declared.Sends.{Sends}
use Rattle.replica.specs.Numbers.{pointed}
use Rattle.tables.specs.declared.Row.{Row}
use Rattle.tables.specs.Tables.{empty_row}
use Rattle.state.specs.State.{State, replica_of, row_of}
use Rattle.state.specs.Step.{completed}
use Rattle.consistency.specs.Held.{Held, clock_at}
use Rattle.consistency.specs.Moves.{Turn, own-phase, Move, Acks, clock_then}
use Rattle.consistency.specs.Moves.Move.{rests, reads, writes, responds, stores, counts, chooses, gathers, completes}
use Rattle.consistency.specs.Sound.{Sound, IsRow, Turns}

-- what `Turns` says, of rows and of what each process points to
record Ordered (rows : List Row) (points : ℕ → ℕ) : Type 0 where
  pending : (j : ℕ) → j < length rows → (get_or rows j empty_row).answered.0 ≡ 0 → points (get_or rows j empty_row).process.0 ≡ suc j
  in_turn : (i j : ℕ) → i < j → j < length rows → (get_or rows i empty_row).process.0 ≡ (get_or rows j empty_row).process.0
      → (0 < (get_or rows i empty_row).answered.0) × ((get_or rows i empty_row).answered.0 ≤ (get_or rows j empty_row).invoked.0)

abbrev points : State → ℕ → ℕ
points s q = pointed (replica_of s q).phase

module _ {s : State} (t : State) {held : Held} (sound : Sound s held) where
  ordered-turns : (rows : List Row) → t.rows ≡ rows → Ordered rows (points t) → Turns t
  ordered-turns rows e o =
      let now = subst (λ (rows : List Row). Ordered rows (points t)) (sym e) o in
      record { pending = now.pending; in_turn = now.in_turn }

  -- ---- the rows are as they were, and so is what is pointed to

  same_points : {p : ℕ} {r : Replica} {sends : Sends} {rows : List Row} → Turn s t p r sends rows → pointed r.phase ≡ points s p
      → (q : ℕ) → 1 ≤ q → points t q ≡ points s q
  same_points {p} turn e q first =
      elim (ℕ_discrete q p) [
        | yes f ↦ rw f (ap pointed (own-phase turn) ∙ e)
        | no n ↦ ap (λ (r : Replica). pointed r.phase) (turn.others q first n)
      ]

  same-turns : {p : ℕ} {r : Replica} {sends : Sends} → Turn s t p r sends s.rows → pointed r.phase ≡ points s p → Turns t
  same-turns turn e =
      ordered-turns s.rows turn.rows
      (record {
        pending = λ j l z. same_points turn e _ (sound.rows j l).first ∙ sound.turns.pending j l z;
        in_turn = sound.turns.in_turn;
      })

  -- ---- a row of p was begun

  begun-turns : (p : ℕ) (r : Row) → (replica_of s p).phase ≡ Idle → r.process.0 ≡ p → clock_at s p ≤ r.invoked.0
      → ((q : ℕ) → 1 ≤ q → (q ≡ p → ⊥) → points t q ≡ points s q)
      → points t p ≡ suc (length s.rows)
      → Ordered (s.rows ++ (r ∷ [])) (points t)
  begun-turns p r idle own clock others now = record { pending = open-rows; in_turn = turns }
    where
      -- no row of p was pending
      answered : (j : ℕ) → j < length s.rows → (get_or s.rows j empty_row).process.0 ≡ p → (get_or s.rows j empty_row).answered.0 ≡ 0 → ⊥
      answered j l e z =
          let pointed-to = sound.turns.pending j l z in
          let none = ap pointed idle in
          let same : points s p ≡ suc j = rw e at pointed-to in
          omega arith

      open-rows : (j : ℕ) → j < length (s.rows ++ (r ∷ [])) → (get_or (s.rows ++ (r ∷ [])) j empty_row).answered.0 ≡ 0
          → points t (get_or (s.rows ++ (r ∷ [])) j empty_row).process.0 ≡ suc j
      open-rows j l =
          elim (dec_lt j (length s.rows)) [
            | yes h ↦
                rw (get_or-append s.rows (r ∷ []) empty_row j h) λ z.
                others _ (sound.rows j h).first (λ e. answered j h e z) ∙ sound.turns.pending j h z
            | no h ↦
                let last : j ≡ length s.rows = omega (arith, length-append s.rows (r ∷ [])) in
                rw (last, get_or-append_seam s.rows r [] empty_row, own) λ z. now
          ]

      turns : (i j : ℕ) → i < j → j < length (s.rows ++ (r ∷ []))
          → (get_or (s.rows ++ (r ∷ [])) i empty_row).process.0 ≡ (get_or (s.rows ++ (r ∷ [])) j empty_row).process.0
          → (0 < (get_or (s.rows ++ (r ∷ [])) i empty_row).answered.0)
          × ((get_or (s.rows ++ (r ∷ [])) i empty_row).answered.0 ≤ (get_or (s.rows ++ (r ∷ [])) j empty_row).invoked.0)
      turns i j l m =
          let earlier : i < length s.rows = omega (arith, length-append s.rows (r ∷ [])) in
          rw (get_or-append s.rows (r ∷ []) empty_row i earlier)
          (elim (dec_lt j (length s.rows)) [
            | yes h ↦ rw (get_or-append s.rows (r ∷ []) empty_row j h) (sound.turns.in_turn i j l h)
            | no h ↦
                let last : j ≡ length s.rows = omega (arith, length-append s.rows (r ∷ [])) in
                rw (last, get_or-append_seam s.rows r [] empty_row, own) λ e.
                let past = rw e at ((sound.rows i earlier).done (answered i earlier e)).past in
                (omega (arith, answered i earlier e), omega arith)
          ])

  -- ---- a row of p was completed

  completed-turns : (message : Message) (i : ℕ) (sent : Pair) → Acks s message i sent
      → ((q : ℕ) → 1 ≤ q → (q ≡ message.to.0 → ⊥) → points t q ≡ points s q)
      → Ordered (set s.rows (i - 1) (completed (row_of s i) (record { 0 = clock_then s message }) sent 0)) (points t)
  completed-turns message i sent a others = record { pending = open-rows; in_turn = turns }
    where
      new : Row
      new = completed (row_of s i) (record { 0 = clock_then s message }) sent 0

      serves : IsRow s i × ((row_of s i).answered.0 ≡ 0)
      serves =
          let w = (sound.waits message.to.0 (sound.flight message a.flying).to-first).telling i sent a.phase in
          (w.0, w.1.serves.pending)

      inside : i - 1 < length s.rows
      inside = let n = serves.0 in omega arith

      same : (j : ℕ) → j < length (set s.rows (i - 1) new) → j < length s.rows
      same j l = omega (arith, length-set s.rows (i - 1) new)

      open-rows : (j : ℕ) → j < length (set s.rows (i - 1) new) → (get_or (set s.rows (i - 1) new) j empty_row).answered.0 ≡ 0
          → points t (get_or (set s.rows (i - 1) new) j empty_row).process.0 ≡ suc j
      open-rows j l =
          elim (ℕ_discrete j (i - 1)) [
            | yes e ↦ rw (e, get_or-set_same s.rows (i - 1) new empty_row inside) λ z. absurd (omega arith)
            | no n ↦
                rw (get_or-set_other s.rows (i - 1) j new empty_row n) λ z.
                let pointed-to = sound.turns.pending j (same j l) z in
                others _ (sound.rows j (same j l)).first
                (λ e. let at : points s message.to.0 ≡ suc j = rw e at pointed-to in n (omega (arith, ap pointed a.phase)))
                ∙ pointed-to
          ]

      turns : (j k : ℕ) → j < k → k < length (set s.rows (i - 1) new)
          → (get_or (set s.rows (i - 1) new) j empty_row).process.0 ≡ (get_or (set s.rows (i - 1) new) k empty_row).process.0
          → (0 < (get_or (set s.rows (i - 1) new) j empty_row).answered.0)
          × ((get_or (set s.rows (i - 1) new) j empty_row).answered.0 ≤ (get_or (set s.rows (i - 1) new) k empty_row).invoked.0)
      turns j k l m =
          elim (ℕ_discrete j (i - 1)) [
            | yes e ↦
                let later : k ≡ i - 1 → ⊥ = λ f. omega arith in
                rw (e, get_or-set_same s.rows (i - 1) new empty_row inside, get_or-set_other s.rows (i - 1) k new empty_row later) λ f.
                let old = sound.turns.in_turn (i - 1) k (omega arith) (same k m) f in
                absurd (omega (arith, serves.1))
            | no n ↦
                rw (get_or-set_other s.rows (i - 1) j new empty_row n)
                (elim (ℕ_discrete k (i - 1)) [
                  | yes f ↦ rw (f, get_or-set_same s.rows (i - 1) new empty_row inside) (sound.turns.in_turn j (i - 1) (omega arith) inside)
                  | no h ↦ rw (get_or-set_other s.rows (i - 1) k new empty_row h) (sound.turns.in_turn j k l (same k m))
                ])
          ]

  -- ---- every move

  other-points : {p : ℕ} {r : Replica} {sends : Sends} {rows : List Row} → Turn s t p r sends rows
      → (q : ℕ) → 1 ≤ q → (q ≡ p → ⊥) → points t q ≡ points s q
  other-points turn q first n = ap (λ (r : Replica). pointed r.phase) (turn.others q first n)

  pub move-turns : Move s t → Turns t
  move-turns (rests p c turn) = same-turns turn refl
  move-turns (responds message x flying body turn) = same-turns turn refl
  move-turns (stores message x pair flying body turn) = same-turns turn refl
  move-turns (counts message i gathered pair r turn) = same-turns turn (sym (ap pointed r.phase))
  move-turns (chooses message i gathered pair r enough turn) = same-turns turn (sym (ap pointed r.phase))
  move-turns (gathers message i sent a turn) = same-turns turn (sym (ap pointed a.phase))
  move-turns (reads p x ready turn) =
      ordered-turns _ turn.rows
      (begun-turns p _ ready.idle refl (omega arith) (other-points turn) (ap pointed (own-phase turn) ∙ add-one (length s.rows)))
  move-turns (writes p x value ready turn) =
      ordered-turns _ turn.rows
      (begun-turns p _ ready.idle refl (omega arith) (other-points turn) (ap pointed (own-phase turn) ∙ add-one (length s.rows)))
  move-turns (completes message i sent a enough turn) = ordered-turns _ turn.rows (completed-turns message i sent a (other-points turn))
