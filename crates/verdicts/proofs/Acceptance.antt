-- The verdict is exact. For every file of bytes: it is 0 exactly when the file is accepted, and any other number exactly when that number's condition holds and no smaller one's does.
use Rattle.std.specs.Prelude.{ℕ, ◌+◌, ◌≤◌, ◌<◌, ◌≡◌, Bool, cond, not, ◌&&◌, List, ◌↔◌, leb, length}
use Rattle.std.proofs.Math.Path.{refl}
use Rattle.std.proofs.Common.{sym, ap, subst, ◌∙◌}
use Rattle.std.proofs.Math.Bool.{true, false, true≢false}
use native.Mathlib.Omega.{arith}
use Rattle.std.proofs.Math.Dec.{eqb}
use borrow.Author.Tests.{leb-true, leb-false, eqb-true, eqb-false}
use Rattle.words.specs.Ranges.{within}
use Rattle.words.specs.RangeLaws.{and_left, and_right}
use Rattle.verdicts.specs.Explains.{Row}
use Rattle.verdicts.specs.File.{History, Bytes, IsFile, history_file}
use Rattle.verdicts.specs.Refusals.{NumberWrong, ReadNamed, RowMissing, SequenceBroken, ReadWrong, Accepted, Refused, no-file, number-wrong, read_named, row-missing, sequence-broken, read-wrong, First}
use Rattle.verdicts.specs.Verdict.{rows_in, order_in, sized, laid, fresh, marked, unfinished_read, missing, rising, reading, zeros, judged_known, judged, verdict_of}
use Rattle.verdicts.specs.Tells.{Tells}
use Rattle.verdicts.proofs.FileLaws.{file-rows, file-order, file-sized, file-laid, sized-tells, read_history, as_written}
use Rattle.verdicts.proofs.NumberLaws.{number-test, fresh-true, zeros-length}
use Rattle.verdicts.proofs.NamedLaws.{Known, read-test, missing-test}
use Rattle.verdicts.proofs.SequenceLaws.{sequence-test}
use Rattle.verdicts.proofs.ReadingLaws.{reading-test}
use Rattle.verdicts.proofs.ExplainsLaws.{Unrefused, unrefused-explains, explains-unrefused}

-- ---- of a history and an order

-- the first of the conditions of 23 to 27 that holds
data Judged (rows : List Row) (order : List ℕ) : ℕ → Type 0 where
  by-23 : NumberWrong rows order → Judged rows order 23
  by-24 : (NumberWrong rows order → ⊥) → ReadNamed rows order → Judged rows order 24
  by-25 : (NumberWrong rows order → ⊥) → (ReadNamed rows order → ⊥) → RowMissing rows order → Judged rows order 25
  by-26 : (NumberWrong rows order → ⊥) → (ReadNamed rows order → ⊥) → (RowMissing rows order → ⊥) → SequenceBroken rows order → Judged rows order 26
  by-27 : (NumberWrong rows order → ⊥) → (ReadNamed rows order → ⊥) → (RowMissing rows order → ⊥) → (SequenceBroken rows order → ⊥) → ReadWrong rows order → Judged rows order 27
  by-none : Unrefused rows order → Judged rows order 0

module _ (rows : List Row) (order : List ℕ) where
  -- one test more in front of the others
  tested : {P : Type 0} (n later : ℕ) (t : Bool) → Tells t P → (P → Judged rows order n) → ((P → ⊥) → Judged rows order later) → Judged rows order (cond t n later)
  tested n later true tells here rest = here (tells.holds refl)
  tested n later false tells here rest = rest (tells.fails refl)

  module _ (h : History rows order) where
    known : (NumberWrong rows order → ⊥) → Known rows order
    known right i on = go (fresh (length rows) (zeros 1025) order) refl
      where
        go : (t : Bool) → fresh (length rows) (zeros 1025) order ≡ t → within i (length rows) ≡ true
        go true e = (fresh-true (length rows) (zeros 1025) order (omega (arith, h.few, zeros-length 1025)) e i).known on
        go false e = absurd (right ((number-test rows order h.few).holds (ap not e)))

    judged-first : Judged rows order (judged rows order)
    unfolding judged judged_known
    judged-first =
        tested 23 _ (not (fresh (length rows) (zeros 1025) order)) (number-test rows order h.few) by-23 (λ n.
        tested 24 _ (unfinished_read rows order) (read-test rows order (known n)) (by-24 n) (λ r.
        tested 25 _ (missing (marked (zeros 1025) order) 1 rows) (missing-test rows order h.few) (by-25 n r) (λ m.
        tested 26 _ (not (rising rows (zeros 256) order)) (sequence-test rows order (known n) (λ i a e. (h.formed i a e).process)) (by-26 n r m) (λ s.
        tested 27 _ (not (reading rows (zeros 256) order)) (reading-test rows order (known n) h.formed r) (by-27 n r m s) (λ w.
        by-none (record { numbers = n; named = r; missing = m; sequence = s; reads = w }))))))

-- ---- of the bytes of a file

module _ (bytes : List ℕ) where
  -- a file is read as it was written, and passes the tests of its layout
  file-reads-rows : (f : IsFile bytes) → f.rows ≡ rows_in bytes
  file-reads-rows f = sym (file-rows f.rows f.order) ∙ sym (ap rows_in f.written)

  file-reads-order : (f : IsFile bytes) → f.order ≡ order_in bytes
  file-reads-order f = sym (file-order f.rows f.order) ∙ sym (ap order_in f.written)

  file-laid-out : IsFile bytes → (sized bytes && laid (zeros 256) (rows_in bytes)) ≡ true
  file-laid-out f =
      let s : sized bytes ≡ true = ap sized f.written ∙ file-sized f.rows f.order f.history.few f.history.short in
      let l : laid (zeros 256) (rows_in bytes) ≡ true = sym (ap (laid (zeros 256)) (file-reads-rows f)) ∙ file-laid f.rows f.order f.history in
      rw (s, l) refl

  -- what holds of the rows and order of a file holds of those that are read
  of-read : (P : List Row → List ℕ → Type 0) (f : IsFile bytes) → P f.rows f.order → P (rows_in bytes) (order_in bytes)
  of-read P f p = subst (P (rows_in bytes)) (file-reads-order f) (subst (λ (rows : List Row). P rows f.order) (file-reads-rows f) p)

  -- the verdict, with why it is given
  data Given : ℕ → Type 0 where
    clean : Accepted bytes → Given 0
    refused : (n : ℕ) → 1 ≤ n → First bytes n → Given n

  Clear : ℕ → Type 0
  Clear n = (m : ℕ) → m < n → Refused bytes m → ⊥

  -- no number is below 22, and one number more
  clear-22 : Clear 22
  unfolding Clear
  clear-22 _ less (no-file n) = omega arith
  clear-22 _ less (number-wrong f w) = omega arith
  clear-22 _ less (read_named f w) = omega arith
  clear-22 _ less (row-missing f w) = omega arith
  clear-22 _ less (sequence-broken f w) = omega arith
  clear-22 _ less (read-wrong f w) = omega arith

  clear_next : (n : ℕ) → Clear n → (Refused bytes n → ⊥) → Clear (n + 1)
  unfolding Clear
  clear_next n clear here m less r = go (eqb m n) refl
    where
      go : (t : Bool) → eqb m n ≡ t → ⊥
      go true e = here (subst (Refused bytes) (eqb-true m n e) r)
      go false e = clear m (omega (arith, eqb-false m n e)) r

  -- a condition that does not hold of what is read holds of no history that the bytes are the file of
  not-22 : IsFile bytes → Refused bytes 22 → ⊥
  not-22 f (no-file none) = none f

  not-23 : (NumberWrong (rows_in bytes) (order_in bytes) → ⊥) → Refused bytes 23 → ⊥
  not-23 right (number-wrong f w) = right (of-read NumberWrong f w)

  not-24 : (ReadNamed (rows_in bytes) (order_in bytes) → ⊥) → Refused bytes 24 → ⊥
  not-24 right (read_named f w) = right (of-read ReadNamed f w)

  not-25 : (RowMissing (rows_in bytes) (order_in bytes) → ⊥) → Refused bytes 25 → ⊥
  not-25 right (row-missing f w) = right (of-read RowMissing f w)

  not-26 : (SequenceBroken (rows_in bytes) (order_in bytes) → ⊥) → Refused bytes 26 → ⊥
  not-26 right (sequence-broken f w) = right (of-read SequenceBroken f w)

  module _ (history : History (rows_in bytes) (order_in bytes)) (written : bytes ≡ history_file (rows_in bytes) (order_in bytes)) where
    file : IsFile bytes
    file = record { rows = rows_in bytes; order = order_in bytes; history = history; written = written }

    clear-23 : Clear 23
    clear-23 = clear_next 22 clear-22 (not-22 file)

    given-judged : (n : ℕ) → Judged (rows_in bytes) (order_in bytes) n → Given n
    unfolding Clear file
    given-judged _ (by-23 w) = refused 23 (omega arith) (number-wrong file w, clear-23)
    given-judged _ (by-24 n w) = refused 24 (omega arith) (read_named file w, clear_next 23 clear-23 (not-23 n))
    given-judged _ (by-25 n r w) = refused 25 (omega arith) (row-missing file w, clear_next 24 (clear_next 23 clear-23 (not-23 n)) (not-24 r))
    given-judged _ (by-26 n r m w) =
        refused 26 (omega arith) (sequence-broken file w, clear_next 25 (clear_next 24 (clear_next 23 clear-23 (not-23 n)) (not-24 r)) (not-25 m))
    given-judged _ (by-27 n r m s w) =
        refused 27 (omega arith)
        (read-wrong file w, clear_next 26 (clear_next 25 (clear_next 24 (clear_next 23 clear-23 (not-23 n)) (not-24 r)) (not-25 m)) (not-26 s))
    given-judged _ (by-none u) = clean (record { file = file; explained = unrefused-explains (rows_in bytes) (order_in bytes) u })

  -- what is accepted is refused by no number
  accepted-clear : Accepted bytes → (m : ℕ) → Refused bytes m → ⊥
  accepted-clear a = go
    where
      u : Unrefused (rows_in bytes) (order_in bytes)
      u = of-read Unrefused a.file (explains-unrefused a.file.rows a.file.order a.file.history a.explained)

      go : (m : ℕ) → Refused bytes m → ⊥
      go _ (no-file none) = none a.file
      go _ (number-wrong f w) = u.numbers (of-read NumberWrong f w)
      go _ (read_named f w) = u.named (of-read ReadNamed f w)
      go _ (row-missing f w) = u.missing (of-read RowMissing f w)
      go _ (sequence-broken f w) = u.sequence (of-read SequenceBroken f w)
      go _ (read-wrong f w) = u.reads (of-read ReadWrong f w)

  module _ (small : Bytes bytes) where
    given : Given (verdict_of bytes)
    unfolding verdict_of Clear
    given = go (sized bytes && laid (zeros 256) (rows_in bytes)) refl
      where
        go : (t : Bool) → (sized bytes && laid (zeros 256) (rows_in bytes)) ≡ t → Given (cond (not t) 22 (judged (rows_in bytes) (order_in bytes)))
        go false e = refused 22 (omega arith) (no-file (λ f. true≢false (sym (file-laid-out f) ∙ e)), clear-22)
        go true e =
            let s = sized-tells bytes (and_left (sized bytes) _ e) in
            let l = and_right (sized bytes) _ e in
            let h = read_history bytes small s l in
            given-judged h (as_written bytes small s l) _ (judged-first (rows_in bytes) (order_in bytes) h)

    -- 0 is given exactly when the file is accepted
    pub accepts : verdict_of bytes ≡ 0 ↔ Accepted bytes
    accepts = (λ e. accepted (verdict_of bytes) given e, λ a. unrefused a (verdict_of bytes) given)
      where
        accepted : (v : ℕ) → Given v → v ≡ 0 → Accepted bytes
        accepted _ (clean a) e = a
        accepted _ (refused n some why) e = absurd (omega arith)

        unrefused : Accepted bytes → (v : ℕ) → Given v → v ≡ 0
        unrefused a _ (clean b) = refl
        unrefused a _ (refused n some why) = absurd (accepted-clear a n why.0)

    -- any other number exactly when its condition holds and no smaller one's does
    pub refuses : (n : ℕ) → 1 ≤ n → (verdict_of bytes ≡ n) ↔ First bytes n
    refuses n some = (λ e. why (verdict_of bytes) given e, λ f. which f (verdict_of bytes) given)
      where
        why : (v : ℕ) → Given v → v ≡ n → First bytes n
        why _ (clean a) e = absurd (omega (arith, e, some))
        why _ (refused m positive f) e = subst (First bytes) e f

        which : First bytes n → (v : ℕ) → Given v → v ≡ n
        which f _ (clean a) = absurd (accepted-clear a n f.0)
        which f _ (refused m positive g) = go (leb m n) refl (leb n m) refl
          where
            go : (s : Bool) → leb m n ≡ s → (t : Bool) → leb n m ≡ t → m ≡ n
            go false p t q = absurd (g.1 n (leb-false m n p) f.0)
            go true p false q = absurd (f.1 m (leb-false n m q) g.0)
            go true p true q = omega (arith, leb-true m n p, leb-true n m q)
