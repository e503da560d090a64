-- A history file in chunks: what a chunk of a known history is, and the chunks of a file.
use Rattle.std.specs.Prelude.{ℕ, zero, suc, ◌+◌, ◌-◌, ◌*◌, ◌/◌, ◌≤◌, ◌<◌, ◌≡◌, refl, Bool, true, false, List, [], ◌∷◌, length, get_or, set, eqb, cond, ◌&&◌, ◌||◌, drop, take, Result, Ok, Err, IsOk}
use Rattle.std.proofs.Common.{sym, ap, ap₂, ◌∙◌, arith, true≢false, get_or-take, get_or-drop, length-take-le, length-drop}
use Rattle.std.proofs.Math.Seq.{drop-cons}
use Rattle.std.proofs.lemmas.List.{drop_all}
use Rattle.std.specs.Simd.{first_chunks}
use Rattle.words.specs.Ranges.{within}
use Rattle.words.specs.RangeLaws.{and_left, and_right, within-least, within-most}
use Rattle.verdicts.specs.declared.faults.Fault.{Fault}
use Rattle.verdicts.specs.declared.rows.Row.{Row as CodeRow}
use Rattle.verdicts.specs.Explains.{Row}
use Rattle.verdicts.specs.Verdict.{half_at, word_at, value_at, row_of, rows_from, numbers_from, row_count, order_at, order_count, rows_in, order_in, blank, formed, sized, laid, inside, named, missing}
use Rattle.verdicts.specs.Sized.{Sized}
use Rattle.verdicts.specs.Histories.{Cut}
use Rattle.verdicts.proofs.BytesLaws.{rows-count}
use Rattle.verdicts.proofs.FileLaws.{sized-tells}
use Rattle.verdicts.specs.Rows.{told, row_in, number_in, rows_of, numbers_of, AllFormed, Decodes}

pub rows-long : (xs : List (List ℕ)) → length (rows_of xs) ≡ length xs
rows-long [] = refl
rows-long (x ∷ xs) = ap suc (rows-long xs)

pub row-of-chunk : (xs : List (List ℕ)) (k : ℕ) → k < length xs → get_or (rows_of xs) k blank ≡ row_in (get_or xs k [])
row-of-chunk [] k h = absurd (omega arith)
row-of-chunk (x ∷ xs) zero h = refl
row-of-chunk (x ∷ xs) (suc k) h = row-of-chunk xs k (omega arith)

-- the bytes of a row that is formed are decoded
pub decoded : (xs : List (List ℕ)) (n : ℕ) → within n (length xs) ≡ true → AllFormed (rows_of xs) → (r : Result CodeRow Fault) → Decodes (get_or xs (n - 1) []) r → IsOk r
decoded xs n w all r d = go r d
  where
    least : 1 ≤ n
    least = within-least n (length xs) w

    inside-it : n - 1 < length xs
    inside-it = omega (arith, least, within-most n (length xs) w)

    whole : formed (row_in (get_or xs (n - 1) [])) ≡ true
    whole = ap formed (sym (row-of-chunk xs (n - 1) inside-it)) ∙ all (n - 1) (omega (arith, inside-it, rows-long xs))

    go : (r : Result CodeRow Fault) → Decodes (get_or xs (n - 1) []) r → IsOk r
    go (Ok a) e = refl
    go (Err fault) e = absurd (true≢false (sym whole ∙ e.1))

-- a number of an order that names rows alone
pub number-inside : (count : ℕ) (xs : List (List ℕ)) (k : ℕ) → k < length xs → inside count (numbers_of xs) ≡ true → within (number_in (get_or xs k [])) count ≡ true
number-inside count [] k h e = absurd (omega arith)
number-inside count (x ∷ xs) zero h e = and_left (within (number_in x) count) (inside count (numbers_of xs)) e
number-inside count (x ∷ xs) (suc k) h e = number-inside count xs k (omega arith) (and_right (within (number_in x) count) (inside count (numbers_of xs)) e)

-- 25: the row of a number, and the rows behind it
module _ (seen : List ℕ) (xs : List (List ℕ)) (p : ℕ) (least : 1 ≤ p) (most : p ≤ length xs) (a : CodeRow) (is : told a ≡ named (rows_of xs) p) where
  abbrev missed : Bool
  missed = a.complete && eqb (get_or seen p 0) 0

  marked-done : (b : Bool) → eqb (cond b 1 0) 1 ≡ b
  marked-done true = refl
  marked-done false = refl

  row-is : row_in (get_or xs (p - 1) []) ≡ told a
  row-is = sym (is ∙ row-of-chunk xs (p - 1) (omega (arith, least, most)))

  cut-off : drop (p - 1) xs ≡ get_or xs (p - 1) [] ∷ drop p xs
  cut-off =
      let e : suc (p - 1) ≡ p = omega (arith, least) in
      drop-cons xs (p - 1) [] (omega (arith, least, most)) ∙ ap (λ (k : ℕ). get_or xs (p - 1) [] ∷ drop k xs) e

  missing-on : missing seen p (rows_of (drop (p - 1) xs)) ≡ (missed || missing seen (p + 1) (rows_of (drop p xs)))
  missing-on =
      ap (λ (l : List (List ℕ)). missing seen p (rows_of l)) cut-off
      ∙ ap (λ (b : Row). (eqb b.complete 1 && eqb (get_or seen p 0) 0) || missing seen (p + 1) (rows_of (drop p xs))) row-is
      ∙ ap (λ (t : Bool). (t && eqb (get_or seen p 0) 0) || missing seen (p + 1) (rows_of (drop p xs))) (marked-done a.complete)

  pub missing-here : missed ≡ true → true ≡ missing seen p (rows_of (drop (p - 1) xs))
  missing-here e = rw (missing-on, e) refl

  pub missing-next : missed ≡ false → missing seen (p + 1) (rows_of (drop (p + 1 - 1) xs)) ≡ missing seen p (rows_of (drop (p - 1) xs))
  missing-next e =
      let back : p + 1 - 1 ≡ p = omega arith in
      rw (missing-on, e, back) refl

  pub missing-last : length xs ≤ p → missed ≡ false → false ≡ missing seen p (rows_of (drop (p - 1) xs))
  missing-last last e = rw (missing-on, e, drop_all p xs last) refl

-- the rows of a history that is laid are formed
pub laid-formed : (ended : List ℕ) (rows : List Row) → laid ended rows ≡ true → AllFormed rows
laid-formed ended [] e k h = absurd (omega arith)
laid-formed ended (a ∷ rows) e zero h = and_left (formed a) _ e
laid-formed ended (a ∷ rows) e (suc k) h =
    laid-formed (set ended a.process (1 - a.complete)) rows (and_right (eqb (get_or ended a.process 0) 0) _ (and_right (formed a) _ e)) k (omega arith)

-- ---- a file is cut into chunks

module _ (s t : List ℕ) (i j : ℕ) where
  -- so many bytes from a place on are those from another
  abbrev Same : ℕ → Type 0
  Same most = (k : ℕ) → k < most → get_or s (i + k) 0 ≡ get_or t (j + k) 0

  same_byte : (most k p q : ℕ) → Same most → k < most → p ≡ i + k → q ≡ j + k → get_or s p 0 ≡ get_or t q 0
  same_byte most k p q same h e f = ap (λ (n : ℕ). get_or s n 0) e ∙ same k h ∙ ap (λ (n : ℕ). get_or t n 0) (sym f)

  same_half : (most k p q : ℕ) → Same most → k + 1 < most → p ≡ i + k → q ≡ j + k → half_at s p ≡ half_at t q
  same_half most k p q same h e f =
      ap₂ (λ (a b : ℕ). a * 256 + b) (same_byte most k p q same (omega arith) e f) (same_byte most (k + 1) (p + 1) (q + 1) same h (omega (arith, e)) (omega (arith, f)))

  same_word : (most k p q : ℕ) → Same most → k + 3 < most → p ≡ i + k → q ≡ j + k → word_at s p ≡ word_at t q
  same_word most k p q same h e f =
      ap₂ (λ (a b : ℕ). a * 65536 + b) (same_half most k p q same (omega arith) e f) (same_half most (k + 2) (p + 2) (q + 2) same (omega arith) (omega (arith, e)) (omega (arith, f)))

  same_value : (most k p q : ℕ) → Same most → k + 7 < most → p ≡ i + k → q ≡ j + k → value_at s p ≡ value_at t q
  same_value most k p q same h e f =
      ap₂ (λ (a b : ℕ). a * 4294967296 + b) (same_word most k p q same (omega arith) e f) (same_word most (k + 4) (p + 4) (q + 4) same (omega arith) (omega (arith, e)) (omega (arith, f)))

  same_row : Same 12 → row_of s i ≡ row_of t j
  same_row same =
      let process = same_byte 12 0 i j same (omega arith) (omega arith) (omega arith) in
      let kind = same_byte 12 1 (i + 1) (j + 1) same (omega arith) refl refl in
      let register = same_byte 12 2 (i + 2) (j + 2) same (omega arith) refl refl in
      let value = same_value 12 3 (i + 3) (j + 3) same (omega arith) refl refl in
      let complete = same_byte 12 11 (i + 11) (j + 11) same (omega arith) refl refl in
      built process kind register value complete
    where
      built : {p p' k k' r r' v v' c c' : ℕ} → p ≡ p' → k ≡ k' → r ≡ r' → v ≡ v' → c ≡ c'
          → ◌≡◌ {A = Row} (record { process = p; kind = k; register = r; value = v; complete = c }) (record { process = p'; kind = k'; register = r'; value = v'; complete = c' })
      built ep ek er ev ec = rw (ep, ek, er, ev, ec) refl

same-rows : (s t : List ℕ) (i j count : ℕ) → Same s t i j (12 * count) → rows_from s i count ≡ rows_from t j count
same-rows s t i j zero same = refl
same-rows s t i j (suc count) same =
    ap₂ ◌∷◌ (same_row s t i j (λ k h. same k (omega (arith, h))))
    (same-rows s t (i + 12) (j + 12) count (λ k h. same_byte s t i j (12 * suc count) (12 + k) (i + 12 + k) (j + 12 + k) same (omega (arith, h)) (omega arith) (omega arith)))

same-numbers : (s t : List ℕ) (i j count : ℕ) → Same s t i j (2 * count) → numbers_from s i count ≡ numbers_from t j count
same-numbers s t i j zero same = refl
same-numbers s t i j (suc count) same =
    ap₂ ◌∷◌ (same_half s t i j (2 * suc count) 0 i j same (omega arith) (omega arith) (omega arith))
    (same-numbers s t (i + 2) (j + 2) count (λ k h. same_byte s t i j (2 * suc count) (2 + k) (i + 2 + k) (j + 2 + k) same (omega (arith, h)) (omega arith) (omega arith)))

-- what is left of a list
part-on : (s : List ℕ) (at most : ℕ) → Same (drop at s) s 0 at most
part-on s at most k h =
    let e : at + (0 + k) ≡ at + k = omega arith in
    get_or-drop at s (0 + k) 0 ∙ ap (λ (n : ℕ). get_or s n 0) e

-- the chunks of a list are its rows, or its row numbers
rows-chunked : (count : ℕ) (s : List ℕ) → rows_of (first_chunks 12 count s) ≡ rows_from s 0 count
rows-chunked zero s = refl
rows-chunked (suc count) s =
    ap₂ ◌∷◌ (same_row (take 12 s) s 0 0 (λ k h. get_or-take 12 s (0 + k) 0 (omega (arith, h))))
    (rows-chunked count (drop 12 s) ∙ same-rows (drop 12 s) s 0 12 count (part-on s 12 (12 * count)))

numbers-chunked : (count : ℕ) (s : List ℕ) → numbers_of (first_chunks 2 count s) ≡ numbers_from s 0 count
numbers-chunked zero s = refl
numbers-chunked (suc count) s =
    ap₂ ◌∷◌ (same_half (take 2 s) s 0 0 2 0 0 0 (λ k h. get_or-take 2 s (0 + k) 0 (omega (arith, h))) (omega arith) refl refl)
    (numbers-chunked count (drop 2 s) ∙ same-numbers (drop 2 s) s 0 2 count (part-on s 2 (2 * count)))

-- a part of a list
part-same : (bytes : List ℕ) (at size : ℕ) → Same (take size (drop at bytes)) bytes 0 at size
part-same bytes at size k h = get_or-take size (drop at bytes) (0 + k) 0 (omega (arith, h)) ∙ part-on bytes at size k h

part-long : (bytes : List ℕ) (at size : ℕ) → at + size ≤ length bytes → length (take size (drop at bytes)) ≡ size
part-long bytes at size h = length-take-le size (drop at bytes) (omega (arith, h, length-drop at bytes))

part-rows : (bytes : List ℕ) (at count : ℕ) → at + 12 * count ≤ length bytes
    → rows_of (first_chunks 12 (length (take (12 * count) (drop at bytes)) / 12) (take (12 * count) (drop at bytes))) ≡ rows_from bytes at count
part-rows bytes at count h =
    ap (λ (n : ℕ). rows_of (first_chunks 12 n part)) many ∙ rows-chunked count part ∙ same-rows part bytes 0 at count (part-same bytes at (12 * count))
  where
    part : List ℕ
    part = take (12 * count) (drop at bytes)

    many : length part / 12 ≡ count
    many = omega (arith, part-long bytes at (12 * count) h)

part-numbers : (bytes : List ℕ) (at count : ℕ) → at + 2 * count ≤ length bytes
    → numbers_of (first_chunks 2 (length (take (2 * count) (drop at bytes)) / 2) (take (2 * count) (drop at bytes))) ≡ numbers_from bytes at count
part-numbers bytes at count h =
    ap (λ (n : ℕ). numbers_of (first_chunks 2 n part)) many ∙ numbers-chunked count part ∙ same-numbers part bytes 0 at count (part-same bytes at (2 * count))
  where
    part : List ℕ
    part = take (2 * count) (drop at bytes)

    many : length part / 2 ≡ count
    many = omega (arith, part-long bytes at (2 * count) h)

module _ (bytes : List ℕ) (rows order : List (List ℕ)) (count m n : ℕ) (is : count ≡ row_count bytes) (whole : sized bytes ≡ true) (em : m ≡ 12 * count) (en : n ≡ length bytes - (7 + 12 * count + 2))
    (r : rows ≡ first_chunks 12 (length (take m (drop 7 bytes)) / 12) (take m (drop 7 bytes)))
    (o : order ≡ first_chunks 2 (length (take n (drop (7 + 12 * count + 2) bytes)) / 2) (take n (drop (7 + 12 * count + 2) bytes))) where
  s : Sized bytes
  s = sized-tells bytes whole

  at-is : 7 + 12 * count + 2 ≡ order_at bytes + 2
  at-is = omega (arith, is)

  all-numbers : n ≡ 2 * order_count bytes
  all-numbers = omega (arith, en, is, s.whole)

  rows-cut : rows_of rows ≡ rows_in bytes
  unfolding rows_in
  rows-cut =
      ap rows_of (r ∙ ap (λ (k : ℕ). first_chunks 12 (length (take k (drop 7 bytes)) / 12) (take k (drop 7 bytes))) (em ∙ ap (λ (k : ℕ). 12 * k) is))
      ∙ part-rows bytes 7 (row_count bytes) (omega (arith, s.room))

  order-cut : numbers_of order ≡ order_in bytes
  unfolding order_in
  order-cut =
      ap numbers_of (o ∙ ap₂ (λ (k at : ℕ). first_chunks 2 (length (take k (drop at bytes)) / 2) (take k (drop at bytes))) all-numbers at-is)
      ∙ part-numbers bytes (order_at bytes + 2) (order_count bytes) (omega (arith, s.whole))

  rows-counted : length (rows_in bytes) ≡ row_count bytes
  unfolding rows_in
  rows-counted = rows-count bytes 7 (row_count bytes)

  pub cut-is : Cut bytes rows order
  cut-is =
      record {
        whole = whole;
        few = omega (arith, s.few, sym (rows-long rows), ap length rows-cut, rows-counted);
        rows-are = rows-cut;
        order-is = order-cut;
      }
