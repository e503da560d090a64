-- Of every state reached, the history meets the facts that the placing theorem needs. `settled` is where the quorums meet: a completed operation
-- and a read that was invoked at or after its response share a process, which held no stamp below the one's, and none above the other's, between.
use Rattle.std.specs.Prelude.{ℕ, suc, ◌≤◌, ◌<◌, ◌≡◌, refl, cond, ◌||◌, List, [], ◌∷◌, T, pos, length, get_or}
use Rattle.std.proofs.Common.{sym, ap, subst, ◌∙◌, inl, inr, arith}
use Rattle.std.proofs.Math.Option.{some}
use Rattle.words.specs.declared.Stamp.{Stamp}
use Rattle.words.specs.declared.Pair.{Pair}
use Rattle.words.specs.Stamps.{AtMost}
use Rattle.words.proofs.StampLaws.{at_most-transitive, below-time, three_ways}
use Rattle.placing.specs.Operation.{Kind, is_write, is_some, listed}
use Rattle.placing.specs.OneOrder.{earlier}
use Rattle.placing.specs.Sorting.{lex_below}
use Rattle.placing.specs.LexLaws.{lex-less}
use Rattle.placing.proofs.StampKeys.{led-below, led-at-most}
use Rattle.placing.specs.Facts.{Facts, Sourced}
use Rattle.tables.specs.declared.Kind.{Kind as RowKind}
use Rattle.tables.specs.declared.Kind.TheVariants.{Read, Write}
use Rattle.tables.specs.declared.Row.{Row}
use Rattle.tables.specs.Tables.{empty_row}
use Rattle.state.specs.State.{State}
use Rattle.state.specs.Reached.{Reached}
use Rattle.moves.specs.NeededLaws.{answers-meet}
use Rattle.order.specs.Operations.{kind_of, answered_of}
use Rattle.consistency.specs.Operations.{operations_of}
use Rattle.consistency.specs.Unnamed.{operations-unnamed}
use Rattle.consistency.specs.Held.{Held}
use Rattle.consistency.specs.Sound.{Sound, Done}
use Rattle.consistency.proofs.SoundLaws.{reached-sound}
use Rattle.consistency.specs.Entries.{entry_at, is_row, every-entry, every_two, answered-some, some-answered, kind-write, kind-read}

-- ---- the order of a register

-- what follows the stamp in a row's key
abbrev rest_of : RowKind → Row → ℕ → List ℕ
rest_of k r n =
    let is_w = is_write (kind_of k) in
    cond is_w 0 1 ∷ (cond is_w 0 r.invoked.0 ∷ (cond is_w 0 r.process.0 ∷ (n ∷ [])))

-- of one stamp, a read stands after the write and after the reads invoked before it
rest_below : (k : RowKind) (a b : Row) (m n : ℕ) → a.invoked.0 < b.invoked.0 → T (lex_below (rest_of k a m) (rest_of Read b n))
rest_below Write a b m n l = tt
rest_below Read a b m n l = lex-less a.invoked.0 b.invoked.0 (a.process.0 ∷ (m ∷ [])) (b.process.0 ∷ (n ∷ [])) l

-- a read that is listed is complete
listed-read : (k : RowKind) (n : ℕ) → k ≡ Read → T (is_some (answered_of n) || is_write (kind_of k)) → n ≡ 0 → ⊥
listed-read k n e l z = rw (z, e) at l

module _ {s : State} {held : Held} (sound : Sound s held) where
  abbrev row : ℕ → Row
  row j = get_or s.rows j empty_row

  -- the quorum that was told and the quorum that was asked have a process in common
  quorums-meet : (a b : Row) → Done s held a → Done s held b → b.kind ≡ Read → a.register ≡ b.register → a.answered.0 ≤ b.invoked.0
      → AtMost a.stamp b.stamp
  quorums-meet a b done-a done-b e x l =
      let told = done-a.told in
      let asked = done-b.asked e in
      let few = sound.sized.few in
      let (k, first, last, in-asked, in_told) =
      answers-meet s few asked.set told.set asked.inside told.inside asked.enough told.enough in
      at_most-transitive a.stamp (held k a.answered.0 b.register) b.stamp (rw x at (told.all k in_told))
      (at_most-transitive (held k a.answered.0 b.register) (held k b.invoked.0 b.register) b.stamp
      (sound.recalls.rising k b.register a.answered.0 b.invoked.0 first l)
      (asked.all k in-asked).1)

  settled-rows : (i j : ℕ) → i < length s.rows → j < length s.rows → T (listed (entry_at s.rows j).operation)
      → (row i).register ≡ (row j).register → 0 < (row i).answered.0 → (row i).answered.0 ≤ (row j).invoked.0
      → T (earlier (entry_at s.rows i) (entry_at s.rows j))
  settled-rows i j l m listed x answered before = by_kind (row j).kind refl
    where
      done : Done s held (row i)
      done = (sound.rows i l).done (λ z. omega arith)

      by_kind : (k : RowKind) → (row j).kind ≡ k → T (earlier (entry_at s.rows i) (entry_at s.rows j))
      by_kind Write e =
          let stamp = ap (λ (t : Stamp). t.time.0) ((sound.rows j m).written e) in
          led-below (row i).stamp (row j).stamp (rest_of (row i).kind (row i) (suc i)) (rest_of (row j).kind (row j) (suc j))
          (below-time (row i).stamp (row j).stamp (omega (arith, done.early)))
      by_kind Read e =
          led-at-most (row i).stamp (row j).stamp (rest_of (row i).kind (row i) (suc i)) (rest_of (row j).kind (row j) (suc j))
          (quorums-meet (row i) (row j) done ((sound.rows j m).done (listed-read (row j).kind (row j).answered.0 e listed)) e x before)
          (subst (λ (k : RowKind). T (lex_below (rest_of (row i).kind (row i) (suc i)) (rest_of k (row j) (suc j)))) (sym e)
          (rest_below (row i).kind (row i) (row j) (suc i) (suc j) (omega (arith, done.later))))

  -- two rows of one process and one invocation time are one
  one-row : (i j : ℕ) → i < length s.rows → j < length s.rows
      → (row i).process.0 ≡ (row j).process.0 → (row i).invoked.0 ≡ (row j).invoked.0 → i ≡ j
  one-row i j l m p e =
      elim (three_ways i j) [
        | inl h ↦ absurd (never i j h m p e)
        | inr (inl h) ↦ h
        | inr (inr h) ↦ absurd (never j i h l (sym p) (sym e))
      ]
    where
      never : (i j : ℕ) → i < j → j < length s.rows → (row i).process.0 ≡ (row j).process.0 → (row i).invoked.0 ≡ (row j).invoked.0 → ⊥
      never i j h m p e =
          let turn = sound.turns.in_turn i j h m p in
          let done = (sound.rows i (omega arith)).done (λ z. omega arith) in
          omega (arith, done.later)

  sourced-row : (t i : ℕ) → i < length s.rows → kind_of (row i).kind ≡ Kind.Read → answered_of (row i).answered.0 ≡ some t
      → Sourced (pos 0) (operations_of s) (entry_at s.rows i)
  sourced-row t i l e answered =
      let now = answered-some (row i).answered.0 t answered in
      elim (((sound.rows i l).done (λ z. omega arith)).source (kind-read (row i).kind e)) [
        | inl p ↦ inl (ap (λ (p : Pair). p.stamp) p, ap (λ (p : Pair). p.value) p)
        | inr (j, k, w) ↦ inr (entry_at s.rows j, is_row s.rows j k, ap kind_of w.kind, w.register, w.stamp, w.value)
      ]

  sound-facts : Facts (pos 0) (operations_of s)
  sound-facts =
      record {
        settled = λ a b t m n.
            every_two s.rows
            (λ a b.
            T (listed b.operation) → a.operation.register ≡ b.operation.register → a.operation.answered ≡ some t → t ≤ b.operation.invoked
            → T (earlier a b))
            (λ i j l k listed x answered before.
            let now = answered-some (row i).answered.0 t answered in
            settled-rows i j l k listed x now.0 (omega arith))
            a b m n;
        in_turn = every_two s.rows
            (λ a b.
            a.operation.process ≡ b.operation.process → a.row < b.row
            → (t : ℕ) × (a.operation.answered ≡ some t) × (t ≤ b.operation.invoked))
            (λ i j l k p h.
            let turn = sound.turns.in_turn i j (omega arith) k p in
            ((row i).answered.0, some-answered (row i).answered.0 turn.0, turn.1));
        stamped = every-entry s.rows (λ a. a.operation.kind ≡ Kind.Write → a.operation.stamp.time.0 ≡ 0 → ⊥)
            (λ i l w z.
            let entered = sound.rows i l in
            omega (arith, ap (λ (t : Stamp). t.time.0) (entered.written (kind-write (row i).kind w)), entered.begun));
        apart = every_two s.rows
            (λ a b.
            a.operation.kind ≡ Kind.Write → b.operation.kind ≡ Kind.Write → a.operation.register ≡ b.operation.register
            → a.operation.stamp ≡ b.operation.stamp → a.row ≡ b.row)
            (λ i j l k v w x e.
            let same = sym ((sound.rows i l).written (kind-write (row i).kind v)) ∙ e ∙ (sound.rows j k).written (kind-write (row j).kind w) in
            ap suc (one-row i j l k (ap (λ (t : Stamp). t.process.0) same) (ap (λ (t : Stamp). t.time.0) same)));
        sourced = λ a t m.
            every-entry s.rows
            (λ a. a.operation.kind ≡ Kind.Read → a.operation.answered ≡ some t → Sourced (pos 0) (operations_of s) a)
            (sourced-row t) a m;
      }

pub facts : (s : State) → Reached s → Facts (pos 0) (operations_of s)
facts s r = subst (Facts (pos 0)) (operations-unnamed s.rows) (sound-facts (reached-sound r))
