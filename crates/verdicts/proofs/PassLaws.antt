-- The test of the lengths, in its three ways; and one turn of each pass: what is left to do is done with the first row or number, and then with the others.
use Rattle.std.specs.Prelude.{ℕ, suc, zero, ◌+◌, ◌-◌, ◌*◌, ◌≤◌, ◌<◌, ◌≡◌, Bool, cond, ◌&&◌, ◌||◌, List, [], ◌∷◌, eqb, ltb, get_or, set}
use Rattle.std.proofs.Math.Path.{refl, sym, ap}
use Rattle.std.proofs.Common.{◌∙◌, arith}
use Rattle.std.proofs.Math.Bool.{true, false, and_assoc, and-false, or_assoc}
use Rattle.std.proofs.Math.Dec.{leb}
use Rattle.std.proofs.Math.ListN.{length}
use Rattle.std.proofs.lemmas.List.{set-get_or}
use borrow.Author.Tests.{le-leb, lt-leb, eq-eqb, ne_eqb}
use Rattle.words.specs.Ranges.{within}
use Rattle.words.specs.RangeLaws.{and_left, and_right, within-least, within-most}
use Rattle.verdicts.specs.Verdict.{byte_at, half_at, word_at, value_at, row_of, rows_from, numbers_from, row_count, order_at, order_count, sized, formed, laid, inside, fresh, marked, blank, named, unfinished_read, missing, rising, reads_own, holding, reading, zeros, rows_in, order_in, judged_known, judged, verdict_of}
use Rattle.verdicts.specs.Sized.{Sized}
use Rattle.verdicts.proofs.BytesLaws.{rows-count}

-- ---- 22: the three ways of the test of the lengths

module _ (bytes : List ℕ) where
  pub sized-short : length bytes < 9 → false ≡ sized bytes
  unfolding sized
  sized-short h = rw (lt-leb 9 (length bytes) h) refl

  pub sized-cut : (r : ℕ) → r ≡ row_count bytes → length bytes < 7 + 12 * r + 2 → false ≡ sized bytes
  unfolding sized
  sized-cut r er h =
      let past : length bytes < order_at bytes + 2 = omega (arith, er, h) in
      rw (lt-leb (order_at bytes + 2) (length bytes) past)
      (sym (and-false (leb 9 (length bytes))) ∙ ap (λ (t : Bool). leb 9 (length bytes) && t) (sym (and-false (eqb (word_at bytes 0) (length bytes - 4) && (eqb (byte_at bytes 4) 1 && leb (row_count bytes) 1024)))))

  pub sized-whole : (w r n : ℕ) → w ≡ word_at bytes 0 → r ≡ row_count bytes → n ≡ half_at bytes (7 + 12 * r) → 9 ≤ length bytes → 7 + 12 * r + 2 ≤ length bytes
      → ((eqb w (length bytes - 4) && (eqb (byte_at bytes 4) 1 && leb r 1024)) && (leb n 1024 && eqb (7 + 12 * r + 2 + 2 * n) (length bytes))) ≡ sized bytes
  unfolding sized
  sized-whole w r n ew er en long room =
      let inside : order_at bytes + 2 ≤ length bytes = omega (arith, er, room) in
      let count : n ≡ order_count bytes = en ∙ ap (λ (k : ℕ). half_at bytes (7 + 12 * k)) er in
      rw (le-leb 9 (length bytes) long, le-leb (order_at bytes + 2) (length bytes) inside, ew, count, er) refl

-- the first of what is left
rows_next : (bytes : List ℕ) (at left : ℕ) → 0 < left → rows_from bytes at left ≡ row_of bytes at ∷ rows_from bytes (at + 12) (left - 1)
rows_next bytes at zero h = absurd (omega arith)
rows_next bytes at (suc left) h =
    let e : left ≡ suc left - 1 = omega arith in
    ap (λ (n : ℕ). row_of bytes at ∷ rows_from bytes (at + 12) n) e

numbers-next : (bytes : List ℕ) (at left : ℕ) → 0 < left → numbers_from bytes at left ≡ half_at bytes at ∷ numbers_from bytes (at + 2) (left - 1)
numbers-next bytes at zero h = absurd (omega arith)
numbers-next bytes at (suc left) h =
    let e : left ≡ suc left - 1 = omega arith in
    ap (λ (n : ℕ). half_at bytes at ∷ numbers_from bytes (at + 2) n) e

-- ---- 22: one row more

pub laid-turn : (bytes : List ℕ) (at left : ℕ) (ended : List ℕ) (ok f : Bool) (p m : ℕ) → 0 < left → p ≡ byte_at bytes at → f ≡ formed (row_of bytes at) → m ≡ 1 - byte_at bytes (at + 11)
    → ((ok && (f && eqb (get_or ended p 0) 0)) && laid (set ended p m) (rows_from bytes (at + 12) (left - 1))) ≡ (ok && laid ended (rows_from bytes at left))
laid-turn bytes at left ended ok f p m h ep ef em =
    rw (rows_next bytes at left h, ep, ef, em)
    (and_assoc ok (formed (row_of bytes at) && eqb (get_or ended (byte_at bytes at) 0) 0) (laid (set ended (byte_at bytes at) (1 - byte_at bytes (at + 11))) (rows_from bytes (at + 12) (left - 1)))
    ∙ ap (λ (t : Bool). ok && t) (and_assoc (formed (row_of bytes at)) (eqb (get_or ended (byte_at bytes at) 0) 0) (laid (set ended (byte_at bytes at) (1 - byte_at bytes (at + 11))) (rows_from bytes (at + 12) (left - 1)))))

-- ---- 23: one number more

module _ (bytes : List ℕ) (at left rows : ℕ) (seen : List ℕ) (n : ℕ) (more : 0 < left) (is : n ≡ half_at bytes at) where
  pub fresh-outside : within n rows ≡ false → false ≡ fresh rows seen (numbers_from bytes at left)
  fresh-outside e = rw (numbers-next bytes at left more, ← is, e) refl

  pub fresh-seen : within n rows ≡ true → (get_or seen n 0 ≡ 0 → ⊥) → false ≡ fresh rows seen (numbers_from bytes at left)
  fresh-seen e f = rw (numbers-next bytes at left more, ← is, e, ne_eqb (get_or seen n 0) 0 f) refl

  pub fresh-turn : within n rows ≡ true → get_or seen n 0 ≡ 0 → fresh rows (set seen n 1) (numbers_from bytes (at + 2) (left - 1)) ≡ fresh rows seen (numbers_from bytes at left)
  fresh-turn e f = rw (numbers-next bytes at left more, ← is, e, eq-eqb (get_or seen n 0) 0 f) refl

  pub marked_turn : marked (set seen n 1) (numbers_from bytes (at + 2) (left - 1)) ≡ marked seen (numbers_from bytes at left)
  marked_turn = rw (numbers-next bytes at left more, ← is) refl

pub fresh-inside : (rows : ℕ) (seen order : List ℕ) → fresh rows seen order ≡ true → inside rows order ≡ true
fresh-inside rows seen [] e = refl
fresh-inside rows seen (i ∷ order) e =
    ap (λ (t : Bool). t && inside rows order) (and_left (within i rows) _ e)
    ∙ fresh-inside rows (set seen i 1) order (and_right (eqb (get_or seen i 0) 0) _ (and_right (within i rows) _ e))

-- ---- 24, 26 and 27: one number more, whose row stands at a place

rows_at : (bytes : List ℕ) (at count k : ℕ) → k < count → get_or (rows_from bytes at count) k blank ≡ row_of bytes (at + 12 * k)
rows_at bytes at zero k h = absurd (omega arith)
rows_at bytes at (suc count) zero h =
    let e : at ≡ at + 12 * 0 = omega arith in
    ap (row_of bytes) e
rows_at bytes at (suc count) (suc k) h =
    let e : at + 12 + 12 * k ≡ at + 12 * suc k = omega arith in
    rows_at bytes (at + 12) count k (omega arith) ∙ ap (row_of bytes) e

module _ (bytes : List ℕ) (at left rows : ℕ) (all : inside rows (numbers_from bytes at left) ≡ true) (more : 0 < left) where
  first-inside : (within (half_at bytes at) rows && inside rows (numbers_from bytes (at + 2) (left - 1))) ≡ true
  first-inside = sym (ap (inside rows) (numbers-next bytes at left more)) ∙ all

  number-inside : within (half_at bytes at) rows ≡ true
  number-inside = and_left (within (half_at bytes at) rows) _ first-inside

  pub rest-inside : inside rows (numbers_from bytes (at + 2) (left - 1)) ≡ true
  rest-inside = and_right (within (half_at bytes at) rows) _ first-inside

  pub number-least : 1 ≤ half_at bytes at
  number-least = within-least (half_at bytes at) rows number-inside

  pub number-most : half_at bytes at ≤ rows
  number-most = within-most (half_at bytes at) rows number-inside

  -- what `row_named` requires
  pub number-row : 7 + 12 * rows ≤ length bytes → (1 ≤ half_at bytes at) × (7 + 12 * half_at bytes at ≤ length bytes)
  number-row room = (number-least, omega (arith, number-most, room))

  module _ (row : ℕ) (place : row ≡ 7 + 12 * (half_at bytes at - 1)) where
    named-is : named (rows_from bytes 7 rows) (half_at bytes at) ≡ row_of bytes row
    named-is = rows_at bytes 7 rows (half_at bytes at - 1) (omega (arith, number-least, number-most)) ∙ ap (row_of bytes) (sym place)

    pub unfinished-turn : (found : Bool)
        → ((found || (eqb (byte_at bytes (row + 1)) 1 && eqb (byte_at bytes (row + 11)) 0)) || unfinished_read (rows_from bytes 7 rows) (numbers_from bytes (at + 2) (left - 1)))
        ≡ (found || unfinished_read (rows_from bytes 7 rows) (numbers_from bytes at left))
    unfinished-turn found =
        rw (numbers-next bytes at left more, named-is)
        (or_assoc found (eqb (byte_at bytes (row + 1)) 1 && eqb (byte_at bytes (row + 11)) 0) (unfinished_read (rows_from bytes 7 rows) (numbers_from bytes (at + 2) (left - 1))))

    pub rising-turn : (ok : Bool) (last : List ℕ) (n p : ℕ) → n ≡ half_at bytes at → p ≡ byte_at bytes row
        → ((ok && ltb (get_or last p 0) n) && rising (rows_from bytes 7 rows) (set last p n) (numbers_from bytes (at + 2) (left - 1)))
        ≡ (ok && rising (rows_from bytes 7 rows) last (numbers_from bytes at left))
    rising-turn ok last n p en ep =
        rw (numbers-next bytes at left more, named-is, en, ep)
        (and_assoc ok (ltb (get_or last (byte_at bytes row) 0) (half_at bytes at))
        (rising (rows_from bytes 7 rows) (set last (byte_at bytes row) (half_at bytes at)) (numbers_from bytes (at + 2) (left - 1))))

    -- a table in which a place is stored again as it was
    stored : (held : List ℕ) (w : Bool) (x v : ℕ) → set held x (cond w v (get_or held x 0)) ≡ cond w (set held x v) held
    stored held true x v = refl
    stored held false x v = set-get_or held x 0

    pub reading-turn : (ok : Bool) (held : List ℕ) (x v h : ℕ) → x ≡ byte_at bytes (row + 2) → v ≡ value_at bytes (row + 3) → h ≡ cond (eqb (byte_at bytes (row + 1)) 2) v (get_or held x 0)
        → ((ok && (eqb (byte_at bytes (row + 1)) 2 || eqb v (get_or held x 0))) && reading (rows_from bytes 7 rows) (set held x h) (numbers_from bytes (at + 2) (left - 1)))
        ≡ (ok && reading (rows_from bytes 7 rows) held (numbers_from bytes at left))
    reading-turn ok held x v h ex ev eh =
        rw (eh, ex, ev, stored held (eqb (byte_at bytes (row + 1)) 2) (byte_at bytes (row + 2)) (value_at bytes (row + 3)), numbers-next bytes at left more, named-is)
        (and_assoc ok (reads_own (row_of bytes row) held) (reading (rows_from bytes 7 rows) (holding (row_of bytes row) held) (numbers_from bytes (at + 2) (left - 1))))

-- ---- 25: one row more

pub missing-turn : (bytes : List ℕ) (at left : ℕ) (seen : List ℕ) (place : ℕ) (found : Bool) → 0 < left
    → ((found || (eqb (byte_at bytes (at + 11)) 1 && eqb (get_or seen place 0) 0)) || missing seen (place + 1) (rows_from bytes (at + 12) (left - 1)))
    ≡ (found || missing seen place (rows_from bytes at left))
missing-turn bytes at left seen place found more =
    rw (rows_next bytes at left more)
    (or_assoc found (eqb (byte_at bytes (at + 11)) 1 && eqb (get_or seen place 0) 0) (missing seen (place + 1) (rows_from bytes (at + 12) (left - 1))))

-- ---- the verdict: its ways

module _ (bytes : List ℕ) (rows : ℕ) (is : rows ≡ row_count bytes) where
  pub verdict-unsized : sized bytes ≡ false → 22 ≡ verdict_of bytes
  unfolding verdict_of
  verdict-unsized e = rw e refl

  pub verdict-unlaid : laid (zeros 256) (rows_from bytes 7 rows) ≡ false → 22 ≡ verdict_of bytes
  unfolding verdict_of rows_in
  verdict-unlaid e =
      let f : laid (zeros 256) (rows_from bytes 7 (row_count bytes)) ≡ false = sym (ap (λ (n : ℕ). laid (zeros 256) (rows_from bytes 7 n)) is) ∙ e in
      rw (f, and-false (sized bytes)) refl

  pub verdict-judged : sized bytes ≡ true → laid (zeros 256) (rows_from bytes 7 rows) ≡ true → judged (rows_in bytes) (order_in bytes) ≡ verdict_of bytes
  unfolding verdict_of rows_in
  verdict-judged s e =
      let f : laid (zeros 256) (rows_from bytes 7 (row_count bytes)) ≡ true = sym (ap (λ (n : ℕ). laid (zeros 256) (rows_from bytes 7 n)) is) ∙ e in
      rw (s, f) refl

  module _ (count : ℕ) (counts : count ≡ half_at bytes (7 + 12 * rows)) where
    order_is : order_in bytes ≡ numbers_from bytes (7 + 12 * rows + 2) count
    unfolding order_in
    order_is = rw (counts, is) refl

    rows_are : rows_in bytes ≡ rows_from bytes 7 rows
    unfolding rows_in
    rows_are = ap (rows_from bytes 7) (sym is)

    pub order-room : Sized bytes → 7 + 12 * rows + 2 + 2 * count ≤ length bytes
    order-room s =
        let same : count ≡ order_count bytes = counts ∙ ap (λ (n : ℕ). half_at bytes (7 + 12 * n)) is in
        omega (arith, s.whole, is, same)

    pub judged-stale : fresh rows (zeros 1025) (numbers_from bytes (7 + 12 * rows + 2) count) ≡ false → 23 ≡ judged (rows_in bytes) (order_in bytes)
    unfolding judged
    judged-stale e = rw (order_is, rows_are, rows-count bytes 7 rows, e) refl

    pub judged-fresh : (seen : List ℕ) → seen ≡ marked (zeros 1025) (numbers_from bytes (7 + 12 * rows + 2) count) → fresh rows (zeros 1025) (numbers_from bytes (7 + 12 * rows + 2) count) ≡ true
        → judged_known seen (rows_from bytes 7 rows) (numbers_from bytes (7 + 12 * rows + 2) count) ≡ judged (rows_in bytes) (order_in bytes)
    unfolding judged
    judged-fresh seen told e = rw (order_is, rows_are, rows-count bytes 7 rows, e, told) refl
