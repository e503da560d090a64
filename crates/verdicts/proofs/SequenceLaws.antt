-- 26: the pass with each process's last row number tells whether a sequence is broken.
use Rattle.std.specs.Prelude.{ℕ, ◌≤◌, ◌<◌, ◌≡◌, refl, Bool, true, false, not, ◌&&◌, eqb, ltb, length, get_or, set}
use Rattle.std.proofs.Common.{sym, ap, ◌∙◌, true≢false, arith, length-set, get_or-set_same, get_or-set_other, eqb-true, ltb-true, ltb-false}
use mathlib.Core.List.{List, [], ◌∷◌, ◌++◌, nil≢cons, head-eq_of_cons-eq, tail-eq_of_cons-eq}
use Rattle.std.proofs.Math.Option.{some}
use Rattle.std.proofs.lemmas.Bool.{eqb-false}
use Rattle.words.specs.RangeLaws.{and_left, and_right}
use Rattle.placing.specs.Sequential.{times}
use Rattle.verdicts.specs.Explains.{Row, row_at}
use Rattle.verdicts.specs.Refusals.{SequenceBroken}
use Rattle.verdicts.specs.Verdict.{named, rising, zeros}
use Rattle.verdicts.specs.Tells.{Tells, telling}
use Rattle.verdicts.proofs.RowLaws.{row_within, row_inside, row-is-named}
use Rattle.verdicts.specs.TimesLaws.{times-here, times-other, times_more, standing, stands-in}
use Rattle.verdicts.proofs.NumberLaws.{zeros-length, zeros-at}
use Rattle.verdicts.proofs.NamedLaws.{Known}

-- what is known of the rest of an order
pub known-rest : (rows : List Row) (k : ℕ) (order : List ℕ) → Known rows (k ∷ order) → Known rows order
known-rest rows k order known i h = known i (omega (arith, h, times_more i k order))

pub known-first : (rows : List Row) (k : ℕ) (order : List ℕ) → Known rows (k ∷ order) → row_at rows k ≡ some (named rows k)
known-first rows k order known = row_within rows k (known k (omega (arith, times-here k order)))

module _ (rows : List Row) where
  -- each row's process has a place in the table
  abbrev Placed : List ℕ → Type 0
  Placed last = (i : ℕ) (a : Row) → row_at rows i ≡ some a → a.process < length last

  set-placed : (last : List ℕ) (p k : ℕ) → Placed last → Placed (set last p k)
  set-placed last p k placed i a h = omega (arith, placed i a h, length-set last p k)

  -- ---- no sequence is broken

  record Rises (last order : List ℕ) : Type 0 where
    above : (i : ℕ) (a : Row) → 1 ≤ times i order → row_at rows i ≡ some a → get_or last a.process 0 < i
    sequence : (front middle back : List ℕ) (i j : ℕ) (a b : Row)
        → order ≡ front ++ (i ∷ (middle ++ (j ∷ back)))
        → row_at rows i ≡ some a
        → row_at rows j ≡ some b
        → a.process ≡ b.process
        → i < j

  module _ (last order : List ℕ) (k : ℕ) (here : row_at rows k ≡ some (named rows k)) (placed : Placed last) (first : get_or last (named rows k).process 0 < k)
      (rest : Rises (set last (named rows k).process k) order) where
    same : (a : Row) → row_at rows k ≡ some a → a.process ≡ (named rows k).process
    same a e = ap (λ (b : Row). b.process) (sym (row-is-named rows k a e))

    -- of the process itself, k is now the last
    later : (i q : ℕ) → q ≡ (named rows k).process → get_or (set last (named rows k).process k) q 0 < i → k < i
    later i q e h =
        let z : get_or (set last (named rows k).process k) q 0 ≡ k = ap (λ (x : ℕ). get_or (set last (named rows k).process k) x 0) e ∙ get_or-set_same last (named rows k).process k 0 (placed k (named rows k) here) in
        omega (arith, h, z)

    above_more : (i : ℕ) (a : Row) → 1 ≤ times i (k ∷ order) → row_at rows i ≡ some a → get_or last a.process 0 < i
    above_more i a h e = go (eqb i k) refl (eqb a.process (named rows k).process) refl
      where
        go : (s : Bool) → eqb i k ≡ s → (t : Bool) → eqb a.process (named rows k).process ≡ t → get_or last a.process 0 < i
        go true q t r =
            let i≡k : i ≡ k = eqb-true i k q in
            let z : get_or last a.process 0 ≡ get_or last (named rows k).process 0 = ap (λ (x : ℕ). get_or last x 0) (same a (sym (ap (row_at rows) i≡k) ∙ e)) in
            omega (arith, first, z)
        go false q true r =
            let mine : a.process ≡ (named rows k).process = eqb-true a.process (named rows k).process r in
            let z : get_or last a.process 0 ≡ get_or last (named rows k).process 0 = ap (λ (x : ℕ). get_or last x 0) mine in
            let on : 1 ≤ times i order = omega (arith, h, times-other i k order (eqb-false i k q)) in
            omega (arith, first, z, later i a.process mine (rest.above i a on e))
        go false q false r =
            let on : 1 ≤ times i order = omega (arith, h, times-other i k order (eqb-false i k q)) in
            let z = get_or-set_other last (named rows k).process a.process k 0 (eqb-false a.process (named rows k).process r) in
            omega (arith, z, rest.above i a on e)

    sequence-more : (front middle back : List ℕ) (i j : ℕ) (a b : Row)
        → k ∷ order ≡ front ++ (i ∷ (middle ++ (j ∷ back)))
        → row_at rows i ≡ some a
        → row_at rows j ≡ some b
        → a.process ≡ b.process
        → i < j
    sequence-more [] middle back i j a b e ha hb together =
        let k≡i : k ≡ i = head-eq_of_cons-eq e in
        let on : 1 ≤ times j order = stands-in j order middle back (tail-eq_of_cons-eq e) in
        let mine : b.process ≡ (named rows k).process = sym together ∙ same a (ap (row_at rows) k≡i ∙ ha) in
        omega (arith, k≡i, later j b.process mine (rest.above j b on hb))
    sequence-more (f ∷ front) middle back i j a b e ha hb together = rest.sequence front middle back i j a b (tail-eq_of_cons-eq e) ha hb together

    rises-more : Rises last (k ∷ order)
    rises-more = record { above = above_more; sequence = sequence-more }

  rising-true : (last order : List ℕ) → Known rows order → Placed last → rising rows last order ≡ true → Rises last order
  rising-true last [] known placed e =
      record {
        above = λ i a h. absurd (omega arith);
        sequence = λ front middle back i j a b s. absurd (none front middle back i j s);
      }
    where
      none : (front middle back : List ℕ) (i j : ℕ) → [] ≡ front ++ (i ∷ (middle ++ (j ∷ back))) → ⊥
      none [] middle back i j s = nil≢cons s
      none (f ∷ front) middle back i j s = nil≢cons s
  rising-true last (k ∷ order) known placed e =
      let p = (named rows k).process in
      rises-more last order k (known-first rows k order known) placed (ltb-true (get_or last p 0) k (and_left (ltb (get_or last p 0) k) _ e))
      (rising-true (set last p k) order (known-rest rows k order known) (set-placed last p k placed) (and_right (ltb (get_or last p 0) k) _ e))

  -- ---- a sequence is broken

  data Falls (last order : List ℕ) : Type 0 where
    below : (j : ℕ) (b : Row) → 1 ≤ times j order → row_at rows j ≡ some b → j ≤ get_or last b.process 0 → Falls last order
    broken : SequenceBroken rows order → Falls last order

  module _ (last order : List ℕ) (k : ℕ) (here : row_at rows k ≡ some (named rows k)) (placed : Placed last) where
    falls-more : Falls (set last (named rows k).process k) order → Falls last (k ∷ order)
    falls-more (below j b on hb le) = go (eqb b.process (named rows k).process) refl
      where
        go : (t : Bool) → eqb b.process (named rows k).process ≡ t → Falls last (k ∷ order)
        go true q =
            let mine : b.process ≡ (named rows k).process = eqb-true b.process (named rows k).process q in
            let z : get_or (set last (named rows k).process k) b.process 0 ≡ k = ap (λ (x : ℕ). get_or (set last (named rows k).process k) x 0) mine ∙ get_or-set_same last (named rows k).process k 0 (placed k (named rows k) here) in
            let s = standing j order on in
            broken
            (record {
              front = [];
              middle = s.front;
              back = s.back;
              i = k;
              j = j;
              a = named rows k;
              b = b;
              stand = ap (λ (l : List ℕ). k ∷ l) s.whole;
              here = here;
              there = hb;
              together = sym mine;
              back-to-front = omega (arith, le, z);
            })
        go false q =
            let z = get_or-set_other last (named rows k).process b.process k 0 (eqb-false b.process (named rows k).process q) in
            below j b (omega (arith, on, times_more j k order)) hb (omega (arith, le, z))
    falls-more (broken s) =
        broken
        (record {
          front = k ∷ s.front;
          middle = s.middle;
          back = s.back;
          i = s.i;
          j = s.j;
          a = s.a;
          b = s.b;
          stand = ap (λ (l : List ℕ). k ∷ l) s.stand;
          here = s.here;
          there = s.there;
          together = s.together;
          back-to-front = s.back-to-front;
        })

  rising-false : (last order : List ℕ) → Known rows order → Placed last → rising rows last order ≡ false → Falls last order
  rising-false last [] known placed e = absurd (true≢false e)
  rising-false last (k ∷ order) known placed e =
      go (ltb (get_or last (named rows k).process 0) k) refl
      (rising-false (set last (named rows k).process k) order (known-rest rows k order known) (set-placed last (named rows k).process k placed))
    where
      here : row_at rows k ≡ some (named rows k)
      here = known-first rows k order known

      go : (t : Bool) → ltb (get_or last (named rows k).process 0) k ≡ t
          → (rising rows (set last (named rows k).process k) order ≡ false → Falls (set last (named rows k).process k) order) → Falls last (k ∷ order)
      go false q rest = below k (named rows k) (omega (arith, times-here k order)) here (ltb-false (get_or last (named rows k).process 0) k q)
      go true q rest =
          falls-more last order k here placed
          (rest (sym (ap (λ (t : Bool). t && rising rows (set last (named rows k).process k) order) q) ∙ e))

  pub sequence-test : (order : List ℕ) → Known rows order → ((i : ℕ) (a : Row) → row_at rows i ≡ some a → a.process < 256)
      → Tells (not (rising rows (zeros 256) order)) (SequenceBroken rows order)
  sequence-test order known small =
      telling (rising rows (zeros 256) order) (λ e. wrong (rising-false (zeros 256) order known placed e))
      (λ e s. let r = rising-true (zeros 256) order known placed e in omega (arith, s.back-to-front, r.sequence s.front s.middle s.back s.i s.j s.a s.b s.stand s.here s.there s.together))
    where
      placed : Placed (zeros 256)
      placed i a h = omega (arith, small i a h, zeros-length 256)

      wrong : Falls (zeros 256) order → SequenceBroken rows order
      wrong (below j b on hb le) = absurd (omega (arith, le, zeros-at 256 b.process, (row_inside rows j b hb).0))
      wrong (broken s) = s
