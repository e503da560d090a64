-- 22, the whole file: its tests tell whether the bytes are the file of some history and order within the limits.
use Rattle.std.specs.Prelude.{ℕ, suc, zero, ◌+◌, ◌-◌, ◌*◌, ◌≤◌, ◌<◌, ◌≡◌, Bool, true, false, ◌&&◌, eqb, leb}
use Rattle.std.proofs.Math.Path.{refl, ap, subst}
use Rattle.std.proofs.Common.{sym, ◌∙◌, arith, eqb-true, eq-eqb, leb-true, le-leb}
use mathlib.Core.List.{List, [], ◌∷◌, ◌++◌, append-nil}
use Rattle.std.proofs.Math.Option.{some, none-ne-some, some-injective}
use Rattle.std.proofs.Math.ListN.{length, drop, length-append}
use Rattle.std.proofs.Math.Seq.{drop-length}
use Rattle.std.proofs.lemmas.Bool.{eqb-false}
use Rattle.words.specs.RangeLaws.{and_left, and_right}
use Rattle.placing.specs.Sequential.{times}
use Rattle.verdicts.specs.Explains.{Row, row_at}
use Rattle.verdicts.specs.File.{two, four, rows_bytes, numbers_bytes, body, history_file, Formed, History, Bytes}
use Rattle.verdicts.specs.Verdict.{byte_at, half_at, word_at, row_of, rows_from, numbers_from, row_count, order_at, order_count, rows_in, order_in, sized, laid, zeros}
use Rattle.verdicts.specs.Sized.{Sized}
use Rattle.verdicts.proofs.BytesLaws.{Goes, byte-read, two-read, four-read, rows-read, numbers-read, byte-written, two-written, four-written, rows_written, numbers-written, follows, rows-count, numbers-count, rows-length, numbers-length, half-small, value-small}
use Rattle.verdicts.proofs.LaidLaws.{formed-kind, formed-complete, formed-of, laid-tells, laid-told}
use Rattle.verdicts.specs.TimesLaws.{times-other}

-- ---- what the test of the lengths tells

pub sized-tells : (bytes : List ℕ) → sized bytes ≡ true → Sized bytes
unfolding sized
sized-tells bytes e =
    let e₁ = and_right (leb 9 (length bytes)) _ e in
    let opening = and_left (eqb (word_at bytes 0) (length bytes - 4) && (eqb (byte_at bytes 4) 1 && leb (row_count bytes) 1024)) _ e₁ in
    let e₂ = and_right (eqb (word_at bytes 0) (length bytes - 4) && (eqb (byte_at bytes 4) 1 && leb (row_count bytes) 1024)) _ e₁ in
    let opened = and_right (eqb (word_at bytes 0) (length bytes - 4)) _ opening in
    let ending = and_right (leb (order_at bytes + 2) (length bytes)) _ e₂ in
    record {
      long = leb-true 9 (length bytes) (and_left (leb 9 (length bytes)) _ e);
      counted = eqb-true (word_at bytes 0) (length bytes - 4) (and_left (eqb (word_at bytes 0) (length bytes - 4)) _ opening);
      version = eqb-true (byte_at bytes 4) 1 (and_left (eqb (byte_at bytes 4) 1) _ opened);
      few = leb-true (row_count bytes) 1024 (and_right (eqb (byte_at bytes 4) 1) _ opened);
      room = leb-true (order_at bytes + 2) (length bytes) (and_left (leb (order_at bytes + 2) (length bytes)) _ e₂);
      short = leb-true (order_count bytes) 1024 (and_left (leb (order_count bytes) 1024) _ ending);
      whole = eqb-true (order_at bytes + 2 + 2 * order_count bytes) (length bytes) (and_right (leb (order_count bytes) 1024) _ ending);
    }

all_true : (a b c d e f g : Bool) → a ≡ true → b ≡ true → c ≡ true → d ≡ true → e ≡ true → f ≡ true → g ≡ true → (a && ((b && (c && d)) && (e && (f && g)))) ≡ true
all_true a b c d e f g p q r s t u v = rw (p, q, r, s, t, u, v) refl

pub sized-told : (bytes : List ℕ) → Sized bytes → sized bytes ≡ true
unfolding sized
sized-told bytes s =
    all_true (leb 9 (length bytes)) (eqb (word_at bytes 0) (length bytes - 4)) (eqb (byte_at bytes 4) 1) (leb (row_count bytes) 1024)
    (leb (order_at bytes + 2) (length bytes)) (leb (order_count bytes) 1024) (eqb (order_at bytes + 2 + 2 * order_count bytes) (length bytes))
    (le-leb 9 (length bytes) s.long) (eq-eqb (word_at bytes 0) (length bytes - 4) s.counted) (eq-eqb (byte_at bytes 4) 1 s.version) (le-leb (row_count bytes) 1024 s.few)
    (le-leb (order_at bytes + 2) (length bytes) s.room) (le-leb (order_count bytes) 1024 s.short) (eq-eqb (order_at bytes + 2 + 2 * order_count bytes) (length bytes) s.whole)

-- ---- a file that was written

pub body-length : (rows : List Row) (order : List ℕ) → length (body rows order) ≡ 5 + 12 * length rows + 2 * length order
body-length rows order =
    omega (arith, rows-length rows, numbers-length order, length-append (rows_bytes rows) (two (length order) ++ numbers_bytes order))

module _ (rows : List Row) (order : List ℕ) where
  pub file-length : length (history_file rows order) ≡ 9 + 12 * length rows + 2 * length order
  unfolding history_file
  file-length = omega (arith, body-length rows order, length-append (four (length (body rows order))) (body rows order))

  -- its parts, one behind another
  part_length : (word_at (history_file rows order) 0 ≡ length (body rows order)) × Goes (history_file rows order) 4 (body rows order)
  unfolding history_file
  part_length = four-read (history_file rows order) 0 (length (body rows order)) (body rows order) refl

  part-version : (byte_at (history_file rows order) 4 ≡ 1) × Goes (history_file rows order) 5 (two (length rows) ++ (rows_bytes rows ++ (two (length order) ++ numbers_bytes order)))
  part-version = byte-read (history_file rows order) 4 1 (two (length rows) ++ (rows_bytes rows ++ (two (length order) ++ numbers_bytes order))) part_length.1

  part_count : (row_count (history_file rows order) ≡ length rows) × Goes (history_file rows order) 7 (rows_bytes rows ++ (two (length order) ++ numbers_bytes order))
  part_count = two-read (history_file rows order) 5 (length rows) (rows_bytes rows ++ (two (length order) ++ numbers_bytes order)) part-version.1

  part-rows : (rows_from (history_file rows order) 7 (length rows) ≡ rows) × Goes (history_file rows order) (7 + 12 * length rows) (two (length order) ++ numbers_bytes order)
  part-rows = rows-read (history_file rows order) 7 rows (two (length order) ++ numbers_bytes order) part_count.1

  part-order : (half_at (history_file rows order) (7 + 12 * length rows) ≡ length order) × Goes (history_file rows order) (7 + 12 * length rows + 2) (numbers_bytes order)
  part-order = two-read (history_file rows order) (7 + 12 * length rows) (length order) (numbers_bytes order) part-rows.1

  part-numbers : numbers_from (history_file rows order) (7 + 12 * length rows + 2) (length order) ≡ order
  part-numbers = numbers-read (history_file rows order) (7 + 12 * length rows + 2) order [] (part-order.1 ∙ sym (append-nil (numbers_bytes order)))

  order-at : order_at (history_file rows order) ≡ 7 + 12 * length rows
  order-at = ap (λ (n : ℕ). 7 + 12 * n) part_count.0

  order-count : order_count (history_file rows order) ≡ length order
  order-count = ap (half_at (history_file rows order)) order-at ∙ part-order.0

  -- it is read back as it was written
  pub file-rows : rows_in (history_file rows order) ≡ rows
  unfolding rows_in
  file-rows = ap (rows_from (history_file rows order) 7) part_count.0 ∙ part-rows.0

  pub file-order : order_in (history_file rows order) ≡ order
  unfolding order_in
  file-order =
      ap (λ (n : ℕ). numbers_from (history_file rows order) (n + 2) (order_count (history_file rows order))) order-at
      ∙ ap (numbers_from (history_file rows order) (7 + 12 * length rows + 2)) order-count ∙ part-numbers

  pub file-sized : length rows ≤ 1024 → length order ≤ 1024 → sized (history_file rows order) ≡ true
  file-sized few short =
      sized-told (history_file rows order)
      (record {
        long = omega (arith, file-length);
        counted = omega (arith, part_length.0, body-length rows order, file-length);
        version = part-version.0;
        few = omega (arith, part_count.0, few);
        room = omega (arith, order-at, file-length);
        short = omega (arith, order-count, short);
        whole = omega (arith, order-at, order-count, file-length);
      })

pub file-laid : (rows : List Row) (order : List ℕ) → History rows order → laid (zeros 256) rows ≡ true
file-laid rows order h =
    laid-told rows (λ i a e. (h.formed i a e).process) (λ i a e. formed-of a (h.formed i a e).kind (h.formed i a e).complete) h.ended

-- ---- a file that passes the tests

module _ (bytes : List ℕ) (small : Bytes bytes) where
  -- each row and each number was read somewhere
  rows-somewhere : (at count i : ℕ) (a : Row) → row_at (rows_from bytes at count) i ≡ some a → (to : ℕ) × (row_of bytes to ≡ a)
  rows-somewhere at zero i a e = absurd (none-ne-some a e)
  rows-somewhere at (suc count) zero a e = absurd (none-ne-some a e)
  rows-somewhere at (suc count) (suc zero) a e = (at, some-injective (row_of bytes at) a e)
  rows-somewhere at (suc count) (suc (suc i)) a e = rows-somewhere (at + 12) count (suc i) a e

  numbers-small : (at count i : ℕ) → 1 ≤ times i (numbers_from bytes at count) → i < 65536
  numbers-small at zero i h = absurd (omega arith)
  numbers-small at (suc count) i h = go (eqb i (half_at bytes at)) refl (numbers-small (at + 2) count i)
    where
      go : (t : Bool) → eqb i (half_at bytes at) ≡ t → (1 ≤ times i (numbers_from bytes (at + 2) count) → i < 65536) → i < 65536
      go true q rest =
          let z : i ≡ half_at bytes at = eqb-true i (half_at bytes at) q in
          omega (arith, z, half-small bytes small at)
      go false q rest =
          let z = times-other i (half_at bytes at) (numbers_from bytes (at + 2) count) (eqb-false i (half_at bytes at) q) in
          rest (omega (arith, h, z))

  rows-small : (at count i : ℕ) (a : Row) → row_at (rows_from bytes at count) i ≡ some a → a.process < 256
  rows-small at count i a e =
      let r = rows-somewhere at count i a e in
      subst (λ (b : Row). b.process < 256) r.1 (small r.0)

  module _ (s : Sized bytes) (e : laid (zeros 256) (rows_in bytes) ≡ true) where
    count-rows : length (rows_in bytes) ≡ row_count bytes
    unfolding rows_in
    count-rows = rows-count bytes 7 (row_count bytes)

    count-order : length (order_in bytes) ≡ order_count bytes
    unfolding order_in
    count-order = numbers-count bytes (order_at bytes + 2) (order_count bytes)

    -- each part is as it would be written
    ends : drop (order_at bytes + 2) bytes ≡ numbers_bytes (order_in bytes)
    unfolding order_in
    ends =
        numbers-written bytes small (order_at bytes + 2) (order_count bytes) (omega (arith, s.whole))
        ∙ ap (λ (k : ℕ). numbers_bytes (order_in bytes) ++ drop k bytes) s.whole
        ∙ ap (λ (l : List ℕ). numbers_bytes (order_in bytes) ++ l) (drop-length bytes) ∙ append-nil (numbers_bytes (order_in bytes))

    behind-rows : drop (order_at bytes) bytes ≡ two (length (order_in bytes)) ++ numbers_bytes (order_in bytes)
    behind-rows =
        follows bytes small (order_at bytes) (order_at bytes + 2) (two (order_count bytes)) _ (two-written bytes small (order_at bytes) s.room) ends
        ∙ ap (λ (n : ℕ). two n ++ numbers_bytes (order_in bytes)) (sym count-order)

    behind-count : drop 7 bytes ≡ rows_bytes (rows_in bytes) ++ (two (length (order_in bytes)) ++ numbers_bytes (order_in bytes))
    unfolding rows_in
    behind-count =
        follows bytes small 7 (order_at bytes) (rows_bytes (rows_in bytes)) _ (rows_written bytes small 7 (row_count bytes) (omega (arith, s.room))) behind-rows

    behind-length : drop 4 bytes ≡ body (rows_in bytes) (order_in bytes)
    behind-length =
        follows bytes small 4 5 (byte_at bytes 4 ∷ []) _ (byte-written bytes small 4 (omega (arith, s.long)))
        (follows bytes small 5 7 (two (row_count bytes)) _ (two-written bytes small 5 (omega (arith, s.long))) behind-count)
        ∙ ap (λ (n : ℕ). n ∷ (two (row_count bytes) ++ (rows_bytes (rows_in bytes) ++ (two (length (order_in bytes)) ++ numbers_bytes (order_in bytes))))) s.version
        ∙ ap (λ (n : ℕ). 1 ∷ (two n ++ (rows_bytes (rows_in bytes) ++ (two (length (order_in bytes)) ++ numbers_bytes (order_in bytes))))) (sym count-rows)

    pub as_written : bytes ≡ history_file (rows_in bytes) (order_in bytes)
    unfolding history_file
    as_written =
        follows bytes small 0 4 (four (word_at bytes 0)) _ (four-written bytes small 0 (omega (arith, s.long))) behind-length
        ∙ ap (λ (n : ℕ). four n ++ body (rows_in bytes) (order_in bytes)) counts
      where
        counts : word_at bytes 0 ≡ length (body (rows_in bytes) (order_in bytes))
        counts = omega (arith, s.counted, s.whole, s.long, body-length (rows_in bytes) (order_in bytes), count-rows, count-order)

    row-formed : (i : ℕ) (a : Row) → row_at (rows_in bytes) i ≡ some a → Formed a
    unfolding rows_in
    row-formed i a h =
        let r = rows-somewhere 7 (row_count bytes) i a h in
        let l = laid-tells (rows_in bytes) (rows-small 7 (row_count bytes)) e in
        record {
          process = subst (λ (b : Row). b.process < 256) r.1 (small r.0);
          kind = formed-kind a (l.shapes i a h);
          register = subst (λ (b : Row). b.register < 256) r.1 (small (r.0 + 2));
          value = subst (λ (b : Row). b.value < 18446744073709551616) r.1 (value-small bytes small (r.0 + 3));
          complete = formed-complete a (l.shapes i a h);
        }

    pub read_history : History (rows_in bytes) (order_in bytes)
    unfolding rows_in order_in
    read_history =
        record {
          few = omega (arith, count-rows, s.few);
          short = omega (arith, count-order, s.short);
          numbers = numbers-small (order_at bytes + 2) (order_count bytes);
          formed = row-formed;
          ended = (laid-tells (rows_in bytes) (rows-small 7 (row_count bytes)) e).turns;
        }
