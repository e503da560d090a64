-- 24 and 25: the passes tell whether an unfinished read is named, and whether a completed row is missing.
use Rattle.std.specs.Prelude.{ℕ, suc, zero, ◌+◌, ◌≤◌, ◌≡◌, refl, Bool, true, false, ◌&&◌, ◌||◌, List, [], ◌∷◌, eqb, length, get_or}
use Rattle.std.proofs.Common.{sym, ap, ◌∙◌, true≢false, arith, eqb-true, eq-eqb}
use Rattle.std.proofs.lemmas.Bool.{false≢true, eqb-false}
use Rattle.std.proofs.Math.Option.{some, none-ne-some, some-injective}
use Rattle.words.specs.Ranges.{within}
use Rattle.words.specs.RangeLaws.{and_left, and_right}
use Rattle.placing.specs.Sequential.{times}
use Rattle.verdicts.specs.Explains.{Row, IsRead, Completed, Unfinished, row_at}
use Rattle.verdicts.specs.Refusals.{ReadNamed, RowMissing}
use Rattle.verdicts.specs.Verdict.{marked, named, unfinished_read, missing, zeros}
use Rattle.verdicts.specs.Tells.{Tells}
use Rattle.verdicts.proofs.RowLaws.{row_within, row_inside, row-is-named}
use Rattle.verdicts.specs.TimesLaws.{times-here, times-other, times_more, zero_of}
use Rattle.verdicts.proofs.NumberLaws.{zeros-length, zeros-at, marked-standing, marked-absent}

-- what stands in the order is a row
abbrev pub Known : List Row → List ℕ → Type 0
Known rows order = (i : ℕ) → 1 ≤ times i order → within i (length rows) ≡ true

-- ---- 24

module _ (rows : List Row) where
  -- row i is a read that is unfinished
  abbrev is_unfinished_read : ℕ → Bool
  is_unfinished_read i = eqb (named rows i).kind 1 && eqb (named rows i).complete 0

  record Met (order : List ℕ) : Type 0 where
    i : ℕ
    stands : 1 ≤ times i order
    unfinished : is_unfinished_read i ≡ true

  met : (order : List ℕ) → unfinished_read rows order ≡ true → Met order
  met [] e = absurd (false≢true e)
  met (j ∷ order) e = go (is_unfinished_read j) refl (met order)
    where
      go : (t : Bool) → is_unfinished_read j ≡ t → (unfinished_read rows order ≡ true → Met order) → Met (j ∷ order)
      go true q rest = record { i = j; stands = omega (arith, times-here j order); unfinished = q }
      go false q rest =
          let m = rest (sym (ap (λ (t : Bool). t || unfinished_read rows order) q) ∙ e) in
          record { i = m.i; stands = omega (arith, m.stands, times_more m.i j order); unfinished = m.unfinished }

  unmet : (order : List ℕ) → unfinished_read rows order ≡ false → (i : ℕ) → 1 ≤ times i order → is_unfinished_read i ≡ true → ⊥
  unmet [] e i h u = omega arith
  unmet (j ∷ order) e i h u = go (eqb i j) refl (is_unfinished_read j) refl (unmet order)
    where
      go : (s : Bool) → eqb i j ≡ s → (t : Bool) → is_unfinished_read j ≡ t
          → (unfinished_read rows order ≡ false → (i : ℕ) → 1 ≤ times i order → is_unfinished_read i ≡ true → ⊥) → ⊥
      go s p true q rest = true≢false (sym (ap (λ (t : Bool). t || unfinished_read rows order) q) ∙ e)
      go true p false q rest = true≢false (sym u ∙ ap is_unfinished_read (eqb-true i j p) ∙ q)
      go false p false q rest =
          rest (sym (ap (λ (t : Bool). t || unfinished_read rows order) q) ∙ e) i (omega (arith, h, times-other i j order (eqb-false i j p))) u

  pub read-test : (order : List ℕ) → Known rows order → Tells (unfinished_read rows order) (ReadNamed rows order)
  read-test order known =
      record {
        holds = λ e.
            let m = met order e in
            record {
              i = m.i;
              a = named rows m.i;
              here = row_within rows m.i (known m.i m.stands);
              unfinished = eqb-true _ 0 (and_right (eqb (named rows m.i).kind 1) _ m.unfinished);
              read = eqb-true _ 1 (and_left (eqb (named rows m.i).kind 1) _ m.unfinished);
              named = m.stands;
            };
        fails = λ e n. unmet order e n.i n.named (is-unfinished n.i n.a (row-is-named rows n.i n.a n.here) n.read n.unfinished);
      }
    where
      is-unfinished : (i : ℕ) (a : Row) → named rows i ≡ a → IsRead a → Unfinished a → is_unfinished_read i ≡ true
      is-unfinished i a e r u =
          ap (λ (b : Row). eqb b.kind 1 && eqb b.complete 0) e
          ∙ ap (λ (t : Bool). t && eqb a.complete 0) (eq-eqb a.kind 1 r) ∙ eq-eqb a.complete 0 u

-- ---- 25

module _ (seen : List ℕ) where
  -- the row at a place is completed and not marked
  abbrev is_missing : ℕ → Row → Bool
  is_missing place a = eqb a.complete 1 && eqb (get_or seen place 0) 0

  record Lost (place : ℕ) (rows : List Row) : Type 0 where
    k : ℕ
    a : Row
    here : row_at rows (suc k) ≡ some a
    lost : is_missing (place + k) a ≡ true

  lost-some : (place : ℕ) (rows : List Row) → missing seen place rows ≡ true → Lost place rows
  lost-some place [] e = absurd (false≢true e)
  lost-some place (a ∷ rows) e = go (is_missing place a) refl (lost-some (place + 1) rows)
    where
      go : (t : Bool) → is_missing place a ≡ t → (missing seen (place + 1) rows ≡ true → Lost (place + 1) rows) → Lost place (a ∷ rows)
      go true q rest =
          let z : place + 0 ≡ place = omega arith in
          record { k = 0; a = a; here = refl; lost = ap (λ (p : ℕ). is_missing p a) z ∙ q }
      go false q rest =
          let l = rest (sym (ap (λ (t : Bool). t || missing seen (place + 1) rows) q) ∙ e) in
          let z : place + suc l.k ≡ place + 1 + l.k = omega arith in
          record { k = suc l.k; a = l.a; here = l.here; lost = ap (λ (p : ℕ). is_missing p l.a) z ∙ l.lost }

  lost-none : (place : ℕ) (rows : List Row) → missing seen place rows ≡ false → (k : ℕ) (a : Row) → row_at rows (suc k) ≡ some a → is_missing (place + k) a ≡ true → ⊥
  lost-none place [] e k a h l = none-ne-some a h
  lost-none place (b ∷ rows) e k a h l = go (is_missing place b) refl (lost-none (place + 1) rows) k h l
    where
      go : (t : Bool) → is_missing place b ≡ t
          → (missing seen (place + 1) rows ≡ false → (k : ℕ) (a : Row) → row_at rows (suc k) ≡ some a → is_missing (place + 1 + k) a ≡ true → ⊥)
          → (k : ℕ) → row_at (b ∷ rows) (suc k) ≡ some a → is_missing (place + k) a ≡ true → ⊥
      go true q rest k h l = true≢false (sym (ap (λ (t : Bool). t || missing seen (place + 1) rows) q) ∙ e)
      go false q rest zero h l =
          let z : place + 0 ≡ place = omega arith in
          true≢false (sym l ∙ ap (λ (p : ℕ). is_missing p a) z ∙ ap (is_missing place) (sym (some-injective b a h)) ∙ q)
      go false q rest (suc k) h l =
          let z : place + suc k ≡ place + 1 + k = omega arith in
          rest (sym (ap (λ (t : Bool). t || missing seen (place + 1) rows) q) ∙ e) k a h (sym (ap (λ (p : ℕ). is_missing p a) z) ∙ l)

pub missing-test : (rows : List Row) (order : List ℕ) → length rows ≤ 1024 → Tells (missing (marked (zeros 1025) order) 1 rows) (RowMissing rows order)
missing-test rows order few =
    record {
      holds = λ e. absent (lost-some (marked (zeros 1025) order) 1 rows e);
      fails = λ e m. present e m.i m.a m.here m.complete m.missing;
    }
  where
    absent : Lost (marked (zeros 1025) order) 1 rows → RowMissing rows order
    absent l =
        let z : 1 + l.k ≡ suc l.k = omega arith in
        let inside = row_inside rows (suc l.k) l.a l.here in
        let unmarked : get_or (marked (zeros 1025) order) (suc l.k) 0 ≡ 0 =
        ap (λ (p : ℕ). get_or (marked (zeros 1025) order) p 0) (sym z) ∙ eqb-true (get_or (marked (zeros 1025) order) (1 + l.k) 0) 0 (and_right (eqb l.a.complete 1) _ l.lost) in
        record {
          i = suc l.k;
          a = l.a;
          here = l.here;
          complete = eqb-true _ 1 (and_left (eqb l.a.complete 1) _ l.lost);
          missing = zero_of (times (suc l.k) order) (λ h. omega (arith, unmarked, marked-standing (suc l.k) (zeros 1025) order (omega (arith, zeros-length 1025, inside.1)) h));
        }

    present : missing (marked (zeros 1025) order) 1 rows ≡ false → (i : ℕ) (a : Row) → row_at rows i ≡ some a → Completed a → times i order ≡ 0 → ⊥
    present e zero a h c m = omega (arith, (row_inside rows 0 a h).0)
    present e (suc k) a h c m =
        let z : 1 + k ≡ suc k = omega arith in
        lost-none (marked (zeros 1025) order) 1 rows e k a h
        (ap (λ (t : Bool). t && eqb (get_or (marked (zeros 1025) order) (1 + k) 0) 0) (eq-eqb a.complete 1 c)
        ∙ eq-eqb _ 0 (ap (λ (p : ℕ). get_or (marked (zeros 1025) order) p 0) z ∙ marked-absent (suc k) (zeros 1025) order m ∙ zeros-at 1025 (suc k)))
