-- The history of a state that was reached is a history within the limits, and its one order explains it.
use Rattle.std.specs.Prelude.{ℕ, suc, zero, ◌≤◌, ◌<◌, ◌≡◌, refl, Bool, true, false, cond, List, [], ◌∷◌, ◌⊎◌, ℤ, pos, length, get_or}
use Rattle.std.proofs.Common.{sym, ap, subst, ◌∙◌, inl, inr, arith}
use Rattle.std.proofs.Math.Option.{Option, none, some, none-ne-some, some-injective}
use Rattle.std.proofs.lemmas.List.{length-map}
use Rattle.placing.specs.Operation.{Operation, is_write, is_some, listed}
use Rattle.placing.specs.Sequential.{times}
use Rattle.placing.specs.Sorting.{select}
use Rattle.placing.specs.SortingLaws.{permuted-length, sort-permuted}
use Rattle.placing.specs.OneOrder.{Entry, numbered, listing, placed, one_order}
use Rattle.placing.proofs.PlacedLaws.{precedes}
use Rattle.placing.proofs.RowLaws.{row_of}
use Rattle.tables.specs.declared.Row.{Row}
use Rattle.tables.specs.Tables.{empty_row}
use Rattle.state.specs.State.{State}
use Rattle.state.specs.Reached.{Reached}
use Rattle.state.proofs.Keeps.{reached-well-formed}
use Rattle.state.proofs.Sized.{reached-sized}
use Rattle.state.proofs.WellLaws.{Well, RowOk, well, row-at}
use Rattle.order.specs.Operations.{operation_of, operations_of, order_of}
use Rattle.consistency.proofs.Demand3Laws.{sequential}
use Rattle.consistency.proofs.FactsLaws.{facts}
use Rattle.verdicts.specs.Explains.{Row as JudgedRow, Completed, row_at, Explains}
use Rattle.verdicts.specs.File.{Formed, History, history_file}
use Rattle.verdicts.specs.Operations.{as_row}
use Rattle.verdicts.specs.Verdict.{verdict_of}
use Rattle.verdicts.proofs.RowLaws.{row_inside}
use Rattle.verdicts.proofs.SequentialLaws.{sequential-explains, behind}
use Rattle.verdicts.proofs.WrittenLaws.{written-accepts}
use Rattle.histories.specs.OwnFile.{bits_of, own_rows}

-- ---- the one order is no longer than the history

selected : {A : Type 0} (p : A → Bool) (l : List A) → length (select p l) ≤ length l
selected p [] = omega arith
selected p (a ∷ l) = go (p a) (selected p l)
  where
    go : (t : Bool) → length (select p l) ≤ length l → length (cond t (a ∷ select p l) (select p l)) ≤ suc (length l)
    go true h = omega arith
    go false h = omega arith

counted : {Value : Type 0} (n : ℕ) (os : List (Operation Value)) → length (numbered n os) ≡ length os
counted n [] = refl
counted n (o ∷ os) = ap suc (counted (suc n) os)

order-length : {Value : Type 0} (os : List (Operation Value)) → length (one_order os) ≤ length os
unfolding one_order placed
order-length {Value} os =
    let images = length-map (placed os) (λ (e : Entry Value). e.row) in
    let sorted = permuted-length (sort-permuted (precedes os) (listing os)) in
    omega (arith, images, sorted, selected (λ (e : Entry Value). listed e.operation) (numbered 1 os), counted 1 os)

module _ (s : State) (r : Reached s) where
  formed-well : Well s
  formed-well = well s (reached-well-formed s r)

  -- a judged row is made of a row of the table
  record Made (i : ℕ) (a : JudgedRow) : Type 0 where
    row : Row
    is : as_row bits_of (operation_of row) ≡ a
    fits : RowOk s row

  made_at : (l : List Row) (i : ℕ) (a : JudgedRow) → row_at (own_rows l) i ≡ some a → (k : ℕ) × (k < length l) × (as_row bits_of (operation_of (get_or l k empty_row)) ≡ a)
  made_at [] i a e = absurd (none-ne-some a e)
  made_at (b ∷ l) zero a e = absurd (none-ne-some a e)
  made_at (b ∷ l) (suc zero) a e = (0, omega arith, some-injective (as_row bits_of (operation_of b)) a e)
  made_at (b ∷ l) (suc (suc i)) a e =
      let m = made_at l (suc i) a e in
      (suc m.0, omega (arith, m.1), m.2)

  made : (i : ℕ) (a : JudgedRow) → row_at (own_rows s.rows) i ≡ some a → Made i a
  made i a e =
      let m = made_at s.rows i a e in
      record { row = get_or s.rows m.0 empty_row; is = m.2; fits = row-at s formed-well m.0 m.1 }

  kind-formed : (o : Operation ℤ) → ((as_row bits_of o).kind ≡ 1) ⊎ ((as_row bits_of o).kind ≡ 2)
  kind-formed o = go (is_write o.kind)
    where
      go : (t : Bool) → (◌≡◌ {A = ℕ} (cond t 2 1) 1) ⊎ (◌≡◌ {A = ℕ} (cond t 2 1) 2)
      go true = inr refl
      go false = inl refl

  complete-formed : (o : Operation ℤ) → ((as_row bits_of o).complete ≡ 1) ⊎ ((as_row bits_of o).complete ≡ 0)
  complete-formed o = go (is_some o.answered)
    where
      go : (t : Bool) → (◌≡◌ {A = ℕ} (cond t 1 0) 1) ⊎ (◌≡◌ {A = ℕ} (cond t 1 0) 0)
      go true = inl refl
      go false = inr refl

  row-formed : (row : Row) → RowOk s row → Formed (as_row bits_of (operation_of row))
  row-formed row ok =
      record {
        process = omega (arith, ok.process.most, formed-well.processes.most);
        kind = kind-formed (operation_of row);
        register = omega (arith, ok.register.most, formed-well.registers.most);
        value = omega arith;
        complete = complete-formed (operation_of row);
      }

  own-formed : (i : ℕ) (a : JudgedRow) → row_at (own_rows s.rows) i ≡ some a → Formed a
  own-formed i a e =
      let m = made i a e in
      subst Formed m.is (row-formed m.row m.fits)

  -- a process begins nothing before its last operation was answered
  own-ended : (i j : ℕ) (a b : JudgedRow) → row_at (own_rows s.rows) i ≡ some a → row_at (own_rows s.rows) j ≡ some b → a.process ≡ b.process → i < j → Completed a
  own-ended i j a b ha hb together less =
      let p = behind bits_of (operations_of s.rows) i a ha in
      let q = behind bits_of (operations_of s.rows) j b hb in
      let same : p.o.process ≡ q.o.process = ap (λ (d : JudgedRow). d.process) p.is ∙ together ∙ sym (ap (λ (d : JudgedRow). d.process) q.is) in
      let turn = (facts s r).in_turn (record { row = i; operation = p.o }) (record { row = j; operation = q.o }) (row_of (operations_of s.rows) i p.o p.here) (row_of (operations_of s.rows) j q.o q.here) same less in
      sym (ap (λ (d : JudgedRow). d.complete) p.is) ∙ ap (λ (o : Option ℕ). cond (is_some o) 1 0) turn.1

  own-count : length (own_rows s.rows) ≡ length s.rows
  own-count = length-map (operations_of s.rows) (as_row bits_of) ∙ length-map s.rows operation_of

  pub own-explained : Explains (own_rows s.rows) (order_of s.rows)
  own-explained = sequential-explains bits_of (pos 0) refl (operations_of s.rows) (order_of s.rows) (sequential s r)

  -- what stands in the order is a row, so it is at most their count
  own-numbers : (i : ℕ) → 1 ≤ times i (order_of s.rows) → i < 65536
  own-numbers i on = go (row_at (own_rows s.rows) i) refl
    where
      go : (o : Option JudgedRow) → row_at (own_rows s.rows) i ≡ o → i < 65536
      go none e = absurd (omega (arith, on, own-explained.known i e))
      go (some a) e = omega (arith, (row_inside (own_rows s.rows) i a e).1, own-count, (reached-sized s r).rows)

  pub own-history : History (own_rows s.rows) (order_of s.rows)
  own-history =
      record {
        few = omega (arith, own-count, (reached-sized s r).rows);
        short = omega (arith, order-length (operations_of s.rows), length-map s.rows operation_of, (reached-sized s r).rows);
        numbers = own-numbers;
        formed = own-formed;
        ended = own-ended;
      }

  -- so its file is accepted
  pub own-judged : verdict_of (history_file (own_rows s.rows) (order_of s.rows)) ≡ 0
  own-judged = (written-accepts (own_rows s.rows) (order_of s.rows) own-history).1 own-explained
