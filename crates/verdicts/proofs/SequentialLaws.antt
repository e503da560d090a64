-- Demand 3 and this statement: what is `Sequential` explains, and what explains with every unfinished write in it is `Sequential`.
use Rattle.std.specs.Prelude.{ℕ, suc, zero, ◌≤◌, ◌≡◌, refl, Bool, true, false, cond, ◌&&◌, ◌||◌, List, [], ◌∷◌, ◌++◌, eqb}
use Rattle.std.proofs.Common.{sym, ap, ◌∙◌, arith}
use Rattle.std.proofs.Math.Option.{Option, none, some, map, none-ne-some, some-ne-none, some-injective}
use Rattle.std.proofs.lemmas.Bool.{eqb-false}
use Rattle.placing.specs.Operation.{Operation, Kind, is_write, is_some, listed}
use Rattle.placing.specs.Sequential.{times, due, Sequential, row_at as operation_at, wrote as wrote_by, holds as holds_by}
use Rattle.verdicts.specs.Explains.{Row, IsRead, row_at, wrote, holds, Explains}
use Rattle.verdicts.specs.Operations.{as_row, as_rows}
use Rattle.verdicts.specs.TimesLaws.{stands-in}

module _ {Value : Type 0} (number : Value → ℕ) (os : List (Operation Value)) where
  row_as : (i : ℕ) → row_at (as_rows number os) i ≡ map (as_row number) (operation_at os i)
  row_as i = go os i
    where
      go : (l : List (Operation Value)) (i : ℕ) → row_at (as_rows number l) i ≡ map (as_row number) (operation_at l i)
      go [] i = refl
      go (o ∷ l) zero = refl
      go (o ∷ l) (suc zero) = refl
      go (o ∷ l) (suc (suc i)) = go l (suc i)

  -- the operation of a row
  pub record Behind (i : ℕ) (a : Row) : Type 0 where
    pub o : Operation Value
    pub here : operation_at os i ≡ some o
    pub is : as_row number o ≡ a

  pub behind : (i : ℕ) (a : Row) → row_at (as_rows number os) i ≡ some a → Behind i a
  behind i a e = go (operation_at os i) refl (sym (row_as i) ∙ e)
    where
      go : (p : Option (Operation Value)) → operation_at os i ≡ p → map (as_row number) (operation_at os i) ≡ some a → Behind i a
      go none q f = absurd (none-ne-some a (sym (ap (map (as_row number)) q) ∙ f))
      go (some o) q f = record { o = o; here = q; is = some-injective (as_row number o) a (sym (ap (map (as_row number)) q) ∙ f) }

module _ {Value : Type 0} (number : Value → ℕ) (nought : Value) (zeroed : number nought ≡ 0) (os : List (Operation Value)) (order : List ℕ) where
  wrote_as : (x : ℕ) (p : Option (Operation Value)) (held : Value) → wrote x (map (as_row number) p) (number held) ≡ number (wrote_by x p held)
  wrote_as x none held = refl
  wrote_as x (some o) held = go o.kind (eqb o.register x)
    where
      go : (k : Kind) (t : Bool) → cond (eqb (cond (is_write k) 2 1) 2 && t) (number o.value) (number held) ≡ number (cond (is_write k && t) o.value held)
      go Kind.Read t = refl
      go Kind.Write true = refl
      go Kind.Write false = refl

  holds_as : (x : ℕ) (held : Value) (front : List ℕ) → holds (as_rows number os) x (number held) front ≡ number (holds_by os x held front)
  holds_as x held [] = refl
  holds_as x held (i ∷ front) =
      ap (λ (h : ℕ). holds (as_rows number os) x h front) (ap (λ (p : Option Row). wrote x p (number held)) (row_as number os i) ∙ wrote_as x (operation_at os i) held)
      ∙ holds_as x (wrote_by x (operation_at os i) held) front

  -- from nothing written on
  holds-first : (x : ℕ) (front : List ℕ) → holds (as_rows number os) x 0 front ≡ number (holds_by os x nought front)
  holds-first x front = ap (λ (h : ℕ). holds (as_rows number os) x h front) (sym zeroed) ∙ holds_as x nought front

  -- a row's marks are its operation's
  read-kind : (o : Operation Value) → (as_row number o).kind ≡ 1 → o.kind ≡ Kind.Read
  read-kind o e = go o.kind e
    where
      go : (k : Kind) → ◌≡◌ {A = ℕ} (cond (is_write k) 2 1) 1 → k ≡ Kind.Read
      go Kind.Read e = refl
      go Kind.Write e = absurd (eqb-false 2 1 refl e)

  write-kind : (o : Operation Value) → (as_row number o).kind ≡ 2 → is_write o.kind ≡ true
  write-kind o e = go o.kind e
    where
      go : (k : Kind) → ◌≡◌ {A = ℕ} (cond (is_write k) 2 1) 2 → is_write k ≡ true
      go Kind.Read e = absurd (eqb-false 1 2 refl e)
      go Kind.Write e = refl

  answered-mark : (o : Operation Value) → (as_row number o).complete ≡ 1 → is_some o.answered ≡ true
  answered-mark o e = go (is_some o.answered) e
    where
      go : (t : Bool) → ◌≡◌ {A = ℕ} (cond t 1 0) 1 → t ≡ true
      go true e = refl
      go false e = absurd (eqb-false 0 1 refl e)

  pending-mark : (o : Operation Value) → (as_row number o).complete ≡ 0 → is_some o.answered ≡ false
  pending-mark o e = go (is_some o.answered) e
    where
      go : (t : Bool) → ◌≡◌ {A = ℕ} (cond t 1 0) 0 → t ≡ false
      go true e = absurd (eqb-false 1 0 refl e)
      go false e = refl

  -- ---- what is sequential explains

  module _ (s : Sequential nought os order) where
    -- how often a row stands
    stands : (i : ℕ) (a : Row) (b : Behind number os i a) → times i order ≡ cond (listed b.o) 1 0
    stands i a b = s.once i ∙ ap due b.here

    due-most : (o : Operation Value) → cond (listed o) 1 0 ≤ 1
    due-most o = go (listed o)
      where
        go : (t : Bool) → cond t 1 0 ≤ 1
        go true = omega arith
        go false = omega arith

    seen_read : (front back : List ℕ) (i : ℕ) (a : Row) → order ≡ front ++ (i ∷ back) → row_at (as_rows number os) i ≡ some a → IsRead a → a.value ≡ holds (as_rows number os) a.register 0 front
    seen_read front back i a e here read =
        let b = behind number os i a here in
        let kind = read-kind b.o (ap (λ (c : Row). c.kind) b.is ∙ read) in
        sym (ap (λ (c : Row). c.value) b.is) ∙ ap number (s.reads front back i b.o e b.here kind) ∙ sym (holds-first b.o.register front)
        ∙ ap (λ (c : Row). holds (as_rows number os) c.register 0 front) b.is

    pub sequential-explains : Explains (as_rows number os) order
    sequential-explains =
        record {
          known = λ i e. s.once i ∙ ap due (nothing i e);
          completed = λ i a e c.
              let b = behind number os i a e in
              stands i a b ∙ ap (λ (t : Bool). cond (t || is_write b.o.kind) 1 0) (answered-mark b.o (ap (λ (d : Row). d.complete) b.is ∙ c));
          unfinished-writes = λ i a e u w.
              let b = behind number os i a e in
              omega (arith, stands i a b, due-most b.o);
          unfinished-reads = λ i a e u r.
              let b = behind number os i a e in
              stands i a b ∙ unlisted b.o (pending-mark b.o (ap (λ (d : Row). d.complete) b.is ∙ u)) (read-kind b.o (ap (λ (d : Row). d.kind) b.is ∙ r));
          sequence = λ front middle back i j a b e ha hb together.
              let p = behind number os i a ha in
              let q = behind number os j b hb in
              s.sequence front middle back i j p.o q.o e p.here q.here (ap (λ (d : Row). d.process) p.is ∙ together ∙ sym (ap (λ (d : Row). d.process) q.is));
          reads = λ front back i a e ha c r. seen_read front back i a e ha r;
        }
      where
        nothing : (i : ℕ) → row_at (as_rows number os) i ≡ none → operation_at os i ≡ none
        nothing i e = go (operation_at os i) refl (sym (row_as number os i) ∙ e)
          where
            go : (p : Option (Operation Value)) → operation_at os i ≡ p → map (as_row number) (operation_at os i) ≡ none → operation_at os i ≡ none
            go none q f = q
            go (some o) q f = absurd (some-ne-none (as_row number o) (sym (ap (map (as_row number)) q) ∙ f))

        unlisted : (o : Operation Value) → is_some o.answered ≡ false → o.kind ≡ Kind.Read → ◌≡◌ {A = ℕ} (cond (listed o) 1 0) 0
        unlisted o p k = ap (λ (t : Bool). cond (t || is_write o.kind) 1 0) p ∙ ap (λ (j : Kind). cond (is_write j) 1 0) k

  -- ---- what explains, with every unfinished write in it, is sequential

  module _ (apart : (v w : Value) → number v ≡ number w → v ≡ w) (x : Explains (as_rows number os) order)
      (writes : (i : ℕ) (o : Operation Value) → operation_at os i ≡ some o → is_some o.answered ≡ false → is_write o.kind ≡ true → 1 ≤ times i order) where
    row_of : (i : ℕ) (o : Operation Value) → operation_at os i ≡ some o → row_at (as_rows number os) i ≡ some (as_row number o)
    row_of i o e = row_as number os i ∙ ap (map (as_row number)) e

    write-once : (i : ℕ) (o : Operation Value) → operation_at os i ≡ some o → is_some o.answered ≡ false → o.kind ≡ Kind.Write → times i order ≡ 1
    write-once i o e p q =
        let most = x.unfinished-writes i (as_row number o) (row_of i o e) (ap (λ (u : Bool). cond u 1 0) p) (ap (λ (j : Kind). cond (is_write j) 2 1) q) in
        omega (arith, most, writes i o e p (ap is_write q))

    as-due : (i : ℕ) (o : Operation Value) → operation_at os i ≡ some o → times i order ≡ cond (listed o) 1 0
    as-due i o e = go (is_some o.answered) refl o.kind refl
      where
        go : (t : Bool) → is_some o.answered ≡ t → (k : Kind) → o.kind ≡ k → times i order ≡ cond (listed o) 1 0
        go true p k q = x.completed i (as_row number o) (row_of i o e) (ap (λ (u : Bool). cond u 1 0) p) ∙ ap (λ (u : Bool). cond (u || is_write o.kind) 1 0) (sym p)
        go false p Kind.Read q =
            x.unfinished-reads i (as_row number o) (row_of i o e) (ap (λ (u : Bool). cond u 1 0) p) (ap (λ (j : Kind). cond (is_write j) 2 1) q)
            ∙ ap (λ (j : Kind). cond (is_write j) 1 0) (sym q) ∙ ap (λ (u : Bool). cond (u || is_write o.kind) 1 0) (sym p)
        go false p Kind.Write q =
            write-once i o e p q ∙ ap (λ (j : Kind). cond (is_write j) 1 0) (sym q) ∙ ap (λ (u : Bool). cond (u || is_write o.kind) 1 0) (sym p)

    as-due-row : (i : ℕ) → times i order ≡ due (operation_at os i)
    as-due-row i = go (operation_at os i) refl
      where
        go : (p : Option (Operation Value)) → operation_at os i ≡ p → times i order ≡ due (operation_at os i)
        go none q = x.known i (row_as number os i ∙ ap (map (as_row number)) q) ∙ ap due (sym q)
        go (some o) q = as-due i o q ∙ ap due (sym q)

    -- a read that stands was answered
    read-answered : (i : ℕ) (o : Operation Value) → operation_at os i ≡ some o → o.kind ≡ Kind.Read → 1 ≤ times i order → is_some o.answered ≡ true
    read-answered i o e k on = go (is_some o.answered) refl
      where
        go : (t : Bool) → is_some o.answered ≡ t → is_some o.answered ≡ true
        go true p = p
        go false p =
            absurd
            (omega (arith, on, x.unfinished-reads i (as_row number o) (row_of i o e) (ap (λ (u : Bool). cond u 1 0) p) (ap (λ (j : Kind). cond (is_write j) 2 1) k)))

    pub explains-sequential : Sequential nought os order
    explains-sequential =
        record {
          once = as-due-row;
          sequence = λ front middle back i j a b e ha hb together.
              x.sequence front middle back i j (as_row number a) (as_row number b) e (row_of i a ha) (row_of j b hb) together;
          reads = λ front back i a e ha k.
              let done = read-answered i a ha k (stands-in i order front back e) in
              apart a.value (holds_by os a.register nought front)
              (x.reads front back i (as_row number a) e (row_of i a ha) (ap (λ (u : Bool). cond u 1 0) done) (ap (λ (j : Kind). cond (is_write j) 2 1) k) ∙ holds-first a.register front);
        }
