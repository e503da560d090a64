-- Numbers, rows and row numbers as bytes: what was written is read back, and what is read is what was written.
use Rattle.std.specs.Prelude.{ℕ, suc, zero, ◌+◌, ◌*◌, ◌/◌, ◌%◌, ◌≤◌, ◌<◌, ◌≡◌, refl, List, [], ◌∷◌, ◌++◌, length, get_or, drop}
use Rattle.std.proofs.Common.{sym, ap, ◌∙◌, append_assoc, arith, div-add-mod', add-one, drop-cons, drop-drop, get_or-drop}
use Rattle.verdicts.specs.Explains.{Row}
use Rattle.verdicts.specs.File.{Bytes, two, four, eight, row_bytes, rows_bytes, numbers_bytes}
use Rattle.verdicts.specs.Verdict.{byte_at, half_at, word_at, value_at, row_of, rows_from, numbers_from}

-- ---- what was written is read back: where the file goes on with its bytes, it is read, and the file goes on behind them

module _ (bytes : List ℕ) where
  abbrev pub Goes : ℕ → List ℕ → Type 0
  Goes at rest = drop at bytes ≡ rest

  goes_at : (at to : ℕ) (rest : List ℕ) → at ≡ to → Goes at rest → Goes to rest
  goes_at at to rest e g = sym (ap (λ (k : ℕ). drop k bytes) e) ∙ g

  pub byte-read : (at b : ℕ) (rest : List ℕ) → Goes at (b ∷ rest) → (byte_at bytes at ≡ b) × Goes (at + 1) rest
  byte-read at b rest g =
      let z : at ≡ at + 0 = omega arith in
      (ap (λ (k : ℕ). get_or bytes k 0) z ∙ sym (get_or-drop at bytes 0 0) ∙ ap (λ (l : List ℕ). get_or l 0 0) g, sym (drop-drop 1 at bytes) ∙ ap (drop 1) g)

  pub two-read : (at n : ℕ) (rest : List ℕ) → Goes at (two n ++ rest) → (half_at bytes at ≡ n) × Goes (at + 2) rest
  two-read at n rest g =
      let a = byte-read at (n / 256) (n % 256 ∷ rest) g in
      let b = byte-read (at + 1) (n % 256) rest a.1 in
      (rw (a.0, b.0) (div-add-mod' n 256), goes_at (at + 1 + 1) (at + 2) rest (omega arith) b.1)

  pub four-read : (at n : ℕ) (rest : List ℕ) → Goes at (four n ++ rest) → (word_at bytes at ≡ n) × Goes (at + 4) rest
  four-read at n rest g =
      let a = two-read at (n / 65536) (two (n % 65536) ++ rest) g in
      let b = two-read (at + 2) (n % 65536) rest a.1 in
      (ap (λ (h : ℕ). h * 65536 + half_at bytes (at + 2)) a.0 ∙ ap (λ (h : ℕ). n / 65536 * 65536 + h) b.0 ∙ div-add-mod' n 65536, goes_at (at + 2 + 2) (at + 4) rest (omega arith) b.1)

  eight-read : (at n : ℕ) (rest : List ℕ) → Goes at (eight n ++ rest) → (value_at bytes at ≡ n) × Goes (at + 8) rest
  eight-read at n rest g =
      let a = four-read at (n / 4294967296) (four (n % 4294967296) ++ rest) g in
      let b = four-read (at + 4) (n % 4294967296) rest a.1 in
      (ap (λ (h : ℕ). h * 4294967296 + word_at bytes (at + 4)) a.0 ∙ ap (λ (h : ℕ). n / 4294967296 * 4294967296 + h) b.0 ∙ div-add-mod' n 4294967296, goes_at (at + 4 + 4) (at + 8) rest (omega arith) b.1)

  row-path : (at : ℕ) (a : Row) → byte_at bytes at ≡ a.process → byte_at bytes (at + 1) ≡ a.kind → byte_at bytes (at + 2) ≡ a.register → value_at bytes (at + 3) ≡ a.value
      → byte_at bytes (at + 11) ≡ a.complete → row_of bytes at ≡ a
  row-path at a p k x v c = λ i. record { process = p i; kind = k i; register = x i; value = v i; complete = c i }

  row_read : (at : ℕ) (a : Row) (rest : List ℕ) → Goes at (row_bytes a ++ rest) → (row_of bytes at ≡ a) × Goes (at + 12) rest
  row_read at a rest g =
      let p = byte-read at a.process _ g in
      let k = byte-read (at + 1) a.kind _ p.1 in
      let x = byte-read (at + 2) a.register _ (goes_at (at + 1 + 1) (at + 2) _ (omega arith) k.1) in
      let v = eight-read (at + 3) a.value _ (goes_at (at + 2 + 1) (at + 3) _ (omega arith) x.1) in
      let c = byte-read (at + 11) a.complete rest (goes_at (at + 3 + 8) (at + 11) _ (omega arith) v.1) in
      (row-path at a p.0 k.0 x.0 v.0 c.0, goes_at (at + 11 + 1) (at + 12) rest (omega arith) c.1)

  pub rows-read : (at : ℕ) (rows : List Row) (rest : List ℕ) → Goes at (rows_bytes rows ++ rest) → (rows_from bytes at (length rows) ≡ rows) × Goes (at + 12 * length rows) rest
  rows-read at [] rest g = (refl, goes_at at (at + 0) rest (omega arith) g)
  rows-read at (a ∷ rows) rest g =
      let r = row_read at a (rows_bytes rows ++ rest) (g ∙ append_assoc (row_bytes a) (rows_bytes rows) rest) in
      let s = rows-read (at + 12) rows rest r.1 in
      (ap (λ (b : Row). b ∷ rows_from bytes (at + 12) (length rows)) r.0 ∙ ap (λ (l : List Row). a ∷ l) s.0, goes_at (at + 12 + 12 * length rows) (at + 12 * suc (length rows)) rest (omega arith) s.1)

  pub numbers-read : (at : ℕ) (order rest : List ℕ) → Goes at (numbers_bytes order ++ rest) → numbers_from bytes at (length order) ≡ order
  numbers-read at [] rest g = refl
  numbers-read at (i ∷ order) rest g =
      let r = two-read at i (numbers_bytes order ++ rest) (g ∙ append_assoc (two i) (numbers_bytes order) rest) in
      ap (λ (j : ℕ). j ∷ numbers_from bytes (at + 2) (length order)) r.0 ∙ ap (λ (l : List ℕ). i ∷ l) (numbers-read (at + 2) order rest r.1)

-- ---- what is read is what was written: a file of bytes goes on, from a place on, with the bytes of what is read there

module _ (bytes : List ℕ) (small : Bytes bytes) where
  pub half-small : (at : ℕ) → half_at bytes at < 65536
  half-small at = omega (arith, small at, small (at + 1))

  pub word_small : (at : ℕ) → word_at bytes at < 4294967296
  word_small at = omega (arith, half-small at, half-small (at + 2))

  pub value-small : (at : ℕ) → value_at bytes at < 18446744073709551616
  value-small at = omega (arith, word_small at, word_small (at + 4))

  pub byte-written : (at : ℕ) → at + 1 ≤ length bytes → drop at bytes ≡ byte_at bytes at ∷ drop (at + 1) bytes
  byte-written at room = drop-cons bytes at 0 (omega arith) ∙ ap (λ (k : ℕ). byte_at bytes at ∷ drop k bytes) (sym (add-one at))

  -- two numbers below a base, joined and taken apart again
  high-256 : (a b : ℕ) → b < 256 → (a * 256 + b) / 256 ≡ a
  high-256 a b h = omega arith

  low-256 : (a b : ℕ) → b < 256 → (a * 256 + b) % 256 ≡ b
  low-256 a b h = omega arith

  high-65536 : (a b : ℕ) → b < 65536 → (a * 65536 + b) / 65536 ≡ a
  high-65536 a b h = omega arith

  low-65536 : (a b : ℕ) → b < 65536 → (a * 65536 + b) % 65536 ≡ b
  low-65536 a b h = omega arith

  high-4294967296 : (a b : ℕ) → b < 4294967296 → (a * 4294967296 + b) / 4294967296 ≡ a
  high-4294967296 a b h = omega arith

  low-4294967296 : (a b : ℕ) → b < 4294967296 → (a * 4294967296 + b) % 4294967296 ≡ b
  low-4294967296 a b h = omega arith

  pub two-written : (at : ℕ) → at + 2 ≤ length bytes → drop at bytes ≡ two (half_at bytes at) ++ drop (at + 2) bytes
  two-written at room =
      let e : at + 1 + 1 ≡ at + 2 = omega arith in
      byte-written at (omega arith)
      ∙ ap (λ (l : List ℕ). byte_at bytes at ∷ l) (byte-written (at + 1) (omega arith) ∙ ap (λ (k : ℕ). byte_at bytes (at + 1) ∷ drop k bytes) e)
      ∙ ap (λ (h : ℕ). h ∷ (byte_at bytes (at + 1) ∷ drop (at + 2) bytes)) (sym (high-256 (byte_at bytes at) (byte_at bytes (at + 1)) (small (at + 1))))
      ∙ ap (λ (l : ℕ). half_at bytes at / 256 ∷ (l ∷ drop (at + 2) bytes)) (sym (low-256 (byte_at bytes at) (byte_at bytes (at + 1)) (small (at + 1))))

  pub four-written : (at : ℕ) → at + 4 ≤ length bytes → drop at bytes ≡ four (word_at bytes at) ++ drop (at + 4) bytes
  four-written at room =
      let e : at + 2 + 2 ≡ at + 4 = omega arith in
      two-written at (omega arith)
      ∙ ap (λ (l : List ℕ). two (half_at bytes at) ++ l) (two-written (at + 2) (omega arith) ∙ ap (λ (k : ℕ). two (half_at bytes (at + 2)) ++ drop k bytes) e)
      ∙ ap (λ (h : ℕ). two h ++ (two (half_at bytes (at + 2)) ++ drop (at + 4) bytes)) (sym (high-65536 (half_at bytes at) (half_at bytes (at + 2)) (half-small (at + 2))))
      ∙ ap (λ (h : ℕ). two (word_at bytes at / 65536) ++ (two h ++ drop (at + 4) bytes)) (sym (low-65536 (half_at bytes at) (half_at bytes (at + 2)) (half-small (at + 2))))

  eight-written : (at : ℕ) → at + 8 ≤ length bytes → drop at bytes ≡ eight (value_at bytes at) ++ drop (at + 8) bytes
  eight-written at room =
      let e : at + 4 + 4 ≡ at + 8 = omega arith in
      four-written at (omega arith)
      ∙ ap (λ (l : List ℕ). four (word_at bytes at) ++ l) (four-written (at + 4) (omega arith) ∙ ap (λ (k : ℕ). four (word_at bytes (at + 4)) ++ drop k bytes) e)
      ∙ ap (λ (h : ℕ). four h ++ (four (word_at bytes (at + 4)) ++ drop (at + 8) bytes)) (sym (high-4294967296 (word_at bytes at) (word_at bytes (at + 4)) (word_small (at + 4))))
      ∙ ap (λ (h : ℕ). four (value_at bytes at / 4294967296) ++ (four h ++ drop (at + 8) bytes)) (sym (low-4294967296 (word_at bytes at) (word_at bytes (at + 4)) (word_small (at + 4))))

  -- bytes follow one another: what goes on at a place, and what goes on behind that
  pub follows : (at to : ℕ) (front : List ℕ) (rest : List ℕ) → drop at bytes ≡ front ++ drop to bytes → drop to bytes ≡ rest → drop at bytes ≡ front ++ rest
  follows at to front rest e f = e ∙ ap (λ (l : List ℕ). front ++ l) f

  row_written : (at : ℕ) → at + 12 ≤ length bytes → drop at bytes ≡ row_bytes (row_of bytes at) ++ drop (at + 12) bytes
  row_written at room =
      follows at (at + 1) (byte_at bytes at ∷ []) _ (byte-written at (omega arith))
      (follows (at + 1) (at + 2) (byte_at bytes (at + 1) ∷ []) _ (byte-written (at + 1) (omega arith) ∙ ap (λ (k : ℕ). byte_at bytes (at + 1) ∷ drop k bytes) e₁)
      (follows (at + 2) (at + 3) (byte_at bytes (at + 2) ∷ []) _ (byte-written (at + 2) (omega arith) ∙ ap (λ (k : ℕ). byte_at bytes (at + 2) ∷ drop k bytes) e₂)
      (follows (at + 3) (at + 11) (eight (value_at bytes (at + 3))) _ (eight-written (at + 3) (omega arith) ∙ ap (λ (k : ℕ). eight (value_at bytes (at + 3)) ++ drop k bytes) e₃)
      (byte-written (at + 11) (omega arith) ∙ ap (λ (k : ℕ). byte_at bytes (at + 11) ∷ drop k bytes) e₄))))
    where
      e₁ : at + 1 + 1 ≡ at + 2
      e₁ = omega arith

      e₂ : at + 2 + 1 ≡ at + 3
      e₂ = omega arith

      e₃ : at + 3 + 8 ≡ at + 11
      e₃ = omega arith

      e₄ : at + 11 + 1 ≡ at + 12
      e₄ = omega arith

  pub rows_written : (at count : ℕ) → at + 12 * count ≤ length bytes → drop at bytes ≡ rows_bytes (rows_from bytes at count) ++ drop (at + 12 * count) bytes
  rows_written at zero room =
      let e : at ≡ at + 12 * 0 = omega arith in
      ap (λ (k : ℕ). drop k bytes) e
  rows_written at (suc count) room =
      let e : at + 12 + 12 * count ≡ at + 12 * suc count = omega arith in
      follows at (at + 12) (row_bytes (row_of bytes at)) _ (row_written at (omega arith))
      (rows_written (at + 12) count (omega arith) ∙ ap (λ (k : ℕ). rows_bytes (rows_from bytes (at + 12) count) ++ drop k bytes) e)
      ∙ sym (append_assoc (row_bytes (row_of bytes at)) (rows_bytes (rows_from bytes (at + 12) count)) (drop (at + 12 * suc count) bytes))

  pub numbers-written : (at count : ℕ) → at + 2 * count ≤ length bytes → drop at bytes ≡ numbers_bytes (numbers_from bytes at count) ++ drop (at + 2 * count) bytes
  numbers-written at zero room =
      let e : at ≡ at + 2 * 0 = omega arith in
      ap (λ (k : ℕ). drop k bytes) e
  numbers-written at (suc count) room =
      let e : at + 2 + 2 * count ≡ at + 2 * suc count = omega arith in
      follows at (at + 2) (two (half_at bytes at)) _ (two-written at (omega arith))
      (numbers-written (at + 2) count (omega arith) ∙ ap (λ (k : ℕ). numbers_bytes (numbers_from bytes (at + 2) count) ++ drop k bytes) e)
      ∙ sym (append_assoc (two (half_at bytes at)) (numbers_bytes (numbers_from bytes (at + 2) count)) (drop (at + 2 * suc count) bytes))

-- ---- how many there are

pub rows-count : (bytes : List ℕ) (at count : ℕ) → length (rows_from bytes at count) ≡ count
rows-count bytes at zero = refl
rows-count bytes at (suc count) = ap suc (rows-count bytes (at + 12) count)

pub numbers-count : (bytes : List ℕ) (at count : ℕ) → length (numbers_from bytes at count) ≡ count
numbers-count bytes at zero = refl
numbers-count bytes at (suc count) = ap suc (numbers-count bytes (at + 2) count)

pub rows-length : (rows : List Row) → length (rows_bytes rows) ≡ 12 * length rows
rows-length [] = omega arith
rows-length (a ∷ rows) = omega (arith, rows-length rows)

pub numbers-length : (order : List ℕ) → length (numbers_bytes order) ≡ 2 * length order
numbers-length [] = omega arith
numbers-length (i ∷ order) = omega (arith, numbers-length order)
