-- A history within the limits that is written as a file: it is a file of bytes, and is accepted exactly when its order explains it.
use Rattle.std.specs.Prelude.{ℕ, suc, zero, ◌/◌, ◌%◌, ◌≤◌, ◌<◌, ◌≡◌, refl, List, [], ◌∷◌, ◌++◌, ◌↔◌, ◌⊎◌, length}
use Rattle.std.proofs.Common.{sym, ap, subst, ◌∙◌, inl, inr, arith}
use Rattle.std.proofs.Math.Option.{some}
use Rattle.placing.specs.Sequential.{times}
use Rattle.verdicts.specs.Explains.{Row, IsRead, IsWrite, Completed, Unfinished, row_at, Explains}
use Rattle.verdicts.specs.File.{two, four, eight, row_bytes, rows_bytes, numbers_bytes, body, history_file, Formed, History, Bytes, IsFile}
use Rattle.verdicts.specs.Refusals.{Accepted}
use Rattle.verdicts.specs.Verdict.{rows_in, order_in, verdict_of}
use Rattle.verdicts.specs.TimesLaws.{times-here, times_more}
use Rattle.verdicts.proofs.FileLaws.{body-length, file-rows, file-order}
use Rattle.verdicts.proofs.Acceptance.{accepts}

-- ---- it is a file of bytes

none-small : Bytes []
none-small at = omega arith

small-cons : (b : ℕ) (rest : List ℕ) → b < 256 → Bytes rest → Bytes (b ∷ rest)
small-cons b rest h small zero = h
small-cons b rest h small (suc at) = small at

small-append : (front rest : List ℕ) → Bytes front → Bytes rest → Bytes (front ++ rest)
small-append [] rest f small at = small at
small-append (b ∷ front) rest f small zero = f 0
small-append (b ∷ front) rest f small (suc at) = small-append front rest (λ k. f (suc k)) small at

two-small : (n : ℕ) → n < 65536 → Bytes (two n)
two-small n h = small-cons (n / 256) (n % 256 ∷ []) (omega arith) (small-cons (n % 256) [] (omega arith) none-small)

four-small : (n : ℕ) → n < 4294967296 → Bytes (four n)
four-small n h = small-append (two (n / 65536)) (two (n % 65536)) (two-small (n / 65536) (omega arith)) (two-small (n % 65536) (omega arith))

eight-small : (n : ℕ) → n < 18446744073709551616 → Bytes (eight n)
eight-small n h = small-append (four (n / 4294967296)) (four (n % 4294967296)) (four-small (n / 4294967296) (omega arith)) (four-small (n % 4294967296) (omega arith))

mark-small : (a : Row) → Formed a → (a.kind < 256) × (a.complete < 256)
mark-small a f = (kinds f.kind, ends f.complete)
  where
    kinds : IsRead a ⊎ IsWrite a → a.kind < 256
    kinds (inl r) = omega (arith, r)
    kinds (inr w) = omega (arith, w)

    ends : Completed a ⊎ Unfinished a → a.complete < 256
    ends (inl c) = omega (arith, c)
    ends (inr u) = omega (arith, u)

row_small : (a : Row) → Formed a → Bytes (row_bytes a)
row_small a f =
    let m = mark-small a f in
    let behind : List ℕ = eight a.value ++ (a.complete ∷ []) in
    small-cons a.process (a.kind ∷ (a.register ∷ behind)) f.process
    (small-cons a.kind (a.register ∷ behind) m.0
    (small-cons a.register behind f.register
    (small-append (eight a.value) (a.complete ∷ []) (eight-small a.value f.value) (small-cons a.complete [] m.1 none-small))))

rows-small : (rows : List Row) → ((i : ℕ) (a : Row) → row_at rows i ≡ some a → Formed a) → Bytes (rows_bytes rows)
rows-small [] formed = none-small
rows-small (a ∷ rows) formed =
    small-append (row_bytes a) (rows_bytes rows) (row_small a (formed 1 a refl)) (rows-small rows later)
  where
    later : (i : ℕ) (b : Row) → row_at rows i ≡ some b → Formed b
    later zero b e = formed 0 b (nought rows e)
      where
        nought : (l : List Row) → row_at l 0 ≡ some b → row_at (a ∷ l) 0 ≡ some b
        nought [] e = e
        nought (c ∷ l) e = e
    later (suc i) b e = formed (suc (suc i)) b e

numbers-small : (order : List ℕ) → ((i : ℕ) → 1 ≤ times i order → i < 65536) → Bytes (numbers_bytes order)
numbers-small [] small = none-small
numbers-small (j ∷ order) small =
    small-append (two j) (numbers_bytes order) (two-small j (small j (omega (arith, times-here j order))))
    (numbers-small order (λ i h. small i (omega (arith, h, times_more i j order))))

module _ (rows : List Row) (order : List ℕ) (h : History rows order) where
  body-small : Bytes (body rows order)
  body-small =
      let numbers : List ℕ = two (length order) ++ numbers_bytes order in
      small-cons 1 (two (length rows) ++ (rows_bytes rows ++ numbers)) (omega arith)
      (small-append (two (length rows)) (rows_bytes rows ++ numbers) (two-small (length rows) (omega (arith, h.few)))
      (small-append (rows_bytes rows) numbers (rows-small rows h.formed)
      (small-append (two (length order)) (numbers_bytes order) (two-small (length order) (omega (arith, h.short))) (numbers-small order h.numbers))))

  pub file-small : Bytes (history_file rows order)
  unfolding history_file
  file-small =
      small-append (four (length (body rows order))) (body rows order)
      (four-small (length (body rows order)) (omega (arith, body-length rows order, h.few, h.short))) body-small

  -- ---- it is accepted exactly when its order explains it

  pub written-accepts : verdict_of (history_file rows order) ≡ 0 ↔ Explains rows order
  written-accepts = (λ e. read ((accepts (history_file rows order) file-small).0 e), λ x. (accepts (history_file rows order) file-small).1 (record { file = file; explained = x }))
    where
      file : IsFile (history_file rows order)
      file = record { rows = rows; order = order; history = h; written = refl }

      read : Accepted (history_file rows order) → Explains rows order
      read a =
          let same_rows : a.file.rows ≡ rows = sym (file-rows a.file.rows a.file.order) ∙ sym (ap rows_in a.file.written) ∙ file-rows rows order in
          let same-order : a.file.order ≡ order = sym (file-order a.file.rows a.file.order) ∙ sym (ap order_in a.file.written) ∙ file-order rows order in
          subst (Explains rows) same-order (subst (λ (l : List Row). Explains l a.file.order) same_rows a.explained)
