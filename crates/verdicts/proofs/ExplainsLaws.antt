-- An order explains a history exactly when none of the conditions of 23 to 27 holds.
use Rattle.std.specs.Prelude.{ℕ, ◌≤◌, ◌<◌, ◌≡◌, refl, Bool, true, false, List, ◌∷◌, ◌++◌, ◌⊎◌, eqb, leb}
use Rattle.std.proofs.Common.{inl, inr, arith, eqb-true, leb-true, leb-false}
use Rattle.std.proofs.Math.Option.{Option, none, some}
use Rattle.std.proofs.lemmas.Bool.{eqb-false}
use Rattle.placing.specs.Sequential.{times}
use Rattle.verdicts.specs.Explains.{Row, IsRead, IsWrite, Completed, Unfinished, row_at, holds, Explains}
use Rattle.verdicts.specs.File.{History}
use Rattle.verdicts.specs.Refusals.{NumberWrong, unknown, repeated, ReadNamed, RowMissing, SequenceBroken, ReadWrong}

module _ (rows : List Row) (order : List ℕ) where
  pub record Unrefused : Type 0 where
    pub numbers : NumberWrong rows order → ⊥
    pub named : ReadNamed rows order → ⊥
    pub missing : RowMissing rows order → ⊥
    pub sequence : SequenceBroken rows order → ⊥
    pub reads : ReadWrong rows order → ⊥

  -- ---- none holds: the order explains

  module _ (u : Unrefused) where
    at-most-once : (i : ℕ) → times i order ≤ 1
    at-most-once i = go (leb 2 (times i order)) refl
      where
        go : (t : Bool) → leb 2 (times i order) ≡ t → times i order ≤ 1
        go true e = absurd (u.numbers (repeated i (leb-true 2 (times i order) e)))
        go false e = omega (arith, leb-false 2 (times i order) e)

    -- what does not stand once stands never
    never : (i : ℕ) → (1 ≤ times i order → ⊥) → times i order ≡ 0
    never i no-stand = go (leb 1 (times i order)) refl
      where
        go : (t : Bool) → leb 1 (times i order) ≡ t → times i order ≡ 0
        go true e = absurd (no-stand (leb-true 1 (times i order) e))
        go false e = omega (arith, leb-false 1 (times i order) e)

    once : (i : ℕ) → (times i order ≡ 0 → ⊥) → times i order ≡ 1
    once i some-stand = go (eqb (times i order) 0) refl
      where
        go : (t : Bool) → eqb (times i order) 0 ≡ t → times i order ≡ 1
        go true e = absurd (some-stand (eqb-true (times i order) 0 e))
        go false e = omega (arith, at-most-once i, some-stand)

    kept : (front middle back : List ℕ) (i j : ℕ) (a b : Row) → order ≡ front ++ (i ∷ (middle ++ (j ∷ back))) → row_at rows i ≡ some a → row_at rows j ≡ some b → a.process ≡ b.process → i < j
    kept front middle back i j a b stand here there together = go (leb j i) refl
      where
        go : (t : Bool) → leb j i ≡ t → i < j
        go true e =
            absurd
            (u.sequence
            (record {
              front = front;
              middle = middle;
              back = back;
              i = i;
              j = j;
              a = a;
              b = b;
              stand = stand;
              here = here;
              there = there;
              together = together;
              back-to-front = leb-true j i e;
            }))
        go false e = omega (arith, leb-false j i e)

    right : (front back : List ℕ) (i : ℕ) (a : Row) → order ≡ front ++ (i ∷ back) → row_at rows i ≡ some a → Completed a → IsRead a → a.value ≡ holds rows a.register 0 front
    right front back i a stand here complete read = go (eqb a.value (holds rows a.register 0 front)) refl
      where
        go : (t : Bool) → eqb a.value (holds rows a.register 0 front) ≡ t → a.value ≡ holds rows a.register 0 front
        go true e = eqb-true a.value (holds rows a.register 0 front) e
        go false e =
            absurd
            (u.reads
            (record {
              front = front;
              back = back;
              i = i;
              a = a;
              stand = stand;
              here = here;
              complete = complete;
              read = read;
              other = eqb-false a.value (holds rows a.register 0 front) e;
            }))

    pub unrefused-explains : Explains rows order
    unrefused-explains =
        record {
          known = λ i e. never i (λ h. u.numbers (unknown i h e));
          completed = λ i a e c. once i (λ z. u.missing (record { i = i; a = a; here = e; complete = c; missing = z }));
          unfinished-writes = λ i a e f w. at-most-once i;
          unfinished-reads = λ i a e f r. never i (λ h. u.named (record { i = i; a = a; here = e; unfinished = f; read = r; named = h }));
          sequence = kept;
          reads = right;
        }

  -- ---- the order explains: none holds

  module _ (h : History rows order) (x : Explains rows order) where
    explained-once : (i : ℕ) (o : Option Row) → row_at rows i ≡ o → times i order ≤ 1
    explained-once i none e = omega (arith, x.known i e)
    explained-once i (some a) e = go (h.formed i a e).kind (h.formed i a e).complete
      where
        go : IsRead a ⊎ IsWrite a → Completed a ⊎ Unfinished a → times i order ≤ 1
        go k (inl c) = omega (arith, x.completed i a e c)
        go (inl r) (inr f) = omega (arith, x.unfinished-reads i a e f r)
        go (inr w) (inr f) = x.unfinished-writes i a e f w

    explained-numbers : NumberWrong rows order → ⊥
    explained-numbers (unknown i n e) = omega (arith, n, x.known i e)
    explained-numbers (repeated i n) = omega (arith, n, explained-once i (row_at rows i) refl)

    pub explains-unrefused : Unrefused
    explains-unrefused =
        record {
          numbers = explained-numbers;
          named = λ n. omega (arith, n.named, x.unfinished-reads n.i n.a n.here n.unfinished n.read);
          missing = λ n. omega (arith, n.missing, x.completed n.i n.a n.here n.complete);
          sequence = λ n. omega (arith, n.back-to-front, x.sequence n.front n.middle n.back n.i n.j n.a n.b n.stand n.here n.there n.together);
          reads = λ n. n.other (x.reads n.front n.back n.i n.a n.stand n.here n.complete n.read);
        }
