-- A file is written in parts: one more row, one more number, and the three parts one after another.
use Rattle.std.specs.Prelude.{ℕ, ◌+◌, ◌*◌, ◌≤◌, ◌<◌, ◌≡◌, refl, List, [], ◌∷◌, ◌++◌, length, get_or, take}
use Rattle.std.proofs.Common.{sym, ap, ◌∙◌, append_assoc, append-nil, arith, add-one, take-suc, length-take-le}
use Rattle.std.proofs.lemmas.List.{length-map}
use Rattle.tables.specs.declared.Row.{Row}
use Rattle.order.specs.Operations.{operation_of, operations_of}
use Rattle.text.specs.Written.{Wrote}
use Rattle.text.specs.WrittenLaws.{and_next, as_text}
use Rattle.verdicts.specs.File.{two, four, row_bytes, numbers_bytes, body, history_file}
use Rattle.verdicts.proofs.FileLaws.{body-length}
use Rattle.verdicts.specs.Operations.{as_row}
use Rattle.histories.specs.OwnFile.{bits_of, own_rows, file_of, head_text, rows_text, order_text, Recorded}

rows_both : (ls ms : List Row) → rows_text (ls ++ ms) ≡ rows_text ls ++ rows_text ms
rows_both [] ms = refl
rows_both (a ∷ ls) ms =
    ap (λ (l : List ℕ). row_bytes (as_row bits_of (operation_of a)) ++ l) (rows_both ls ms)
    ∙ sym (append_assoc (row_bytes (as_row bits_of (operation_of a))) (rows_text ls) (rows_text ms))

pub one-row : (rows : List Row) (i : ℕ) (d : Row) → i < length rows → rows_text (take i rows) ++ row_bytes (as_row bits_of (operation_of (get_or rows i d))) ≡ rows_text (take (i + 1) rows)
one-row rows i d more =
    ap (λ (l : List ℕ). rows_text (take i rows) ++ l) (sym (append-nil (row_bytes (as_row bits_of (operation_of (get_or rows i d))))))
    ∙ sym (rows_both (take i rows) (get_or rows i d ∷ []))
    ∙ ap rows_text (sym (take-suc rows i d more) ∙ ap (λ (k : ℕ). take k rows) (sym (add-one i)))

numbers-both : (ls ms : List ℕ) → numbers_bytes (ls ++ ms) ≡ numbers_bytes ls ++ numbers_bytes ms
numbers-both [] ms = refl
numbers-both (a ∷ ls) ms =
    ap (λ (l : List ℕ). two a ++ l) (numbers-both ls ms) ∙ sym (append_assoc (two a) (numbers_bytes ls) (numbers_bytes ms))

pub one_number : (order : List ℕ) (i : ℕ) → i < length order → numbers_bytes (take i order) ++ two (get_or order i 0) ≡ numbers_bytes (take (i + 1) order)
one_number order i more =
    ap (λ (l : List ℕ). numbers_bytes (take i order) ++ l) (sym (append-nil (two (get_or order i 0))))
    ∙ sym (numbers-both (take i order) (get_or order i 0 ∷ []))
    ∙ ap numbers_bytes (sym (take-suc order i 0 more) ∙ ap (λ (k : ℕ). take k order) (sym (add-one i)))

own-count : (rows : List Row) → length (own_rows rows) ≡ length rows
own-count rows = length-map (operations_of rows) (as_row bits_of) ∙ length-map rows operation_of

-- the three parts, with their counts
pub parts_are : (rows : List Row) (order : List ℕ) (used count : ℕ) → used ≡ length rows → count ≡ length order
    → head_text used count ++ (rows_text rows ++ order_text count order) ≡ file_of rows order
unfolding file_of history_file
parts_are rows order used count eu ec =
    let n : length (own_rows rows) ≡ used = own-count rows ∙ sym eu in
    let size : 5 + 12 * used + 2 * count ≡ length (body (own_rows rows) order) = omega (arith, body-length (own_rows rows) order, n, ec) in
    ap (λ (k : ℕ). (four k ++ (1 ∷ two used)) ++ (rows_text rows ++ order_text count order)) size
    ∙ append_assoc (four (length (body (own_rows rows) order))) (1 ∷ two used) (rows_text rows ++ order_text count order)
    ∙ ap (λ (k : ℕ). four (length (body (own_rows rows) order)) ++ ((1 ∷ two k) ++ (rows_text rows ++ order_text count order))) (sym n)
    ∙ ap (λ (k : ℕ). four (length (body (own_rows rows) order)) ++ ((1 ∷ two (length (own_rows rows))) ++ (rows_text rows ++ order_text k order))) ec

pub recorded : (rows : List Row) (order : List ℕ) (used count : ℕ) → used ≤ length rows → count ≤ length order → used ≤ 1024 → count ≤ 1024 → {xs ys zs us : List ℕ} {a b r : ℕ}
    → Wrote 0 (head_text used count) 7 xs ys a → Wrote a (rows_text (take used rows)) (12 * used) ys zs b → Wrote b (order_text count (take count order)) (2 + 2 * count) zs us r
    → Recorded (take used rows) (take count order) xs us r
recorded rows order used count lu lc few short w v u =
    as_text (parts_are (take used rows) (take count order) used count (sym (length-take-le used rows lu)) (sym (length-take-le count order lc))) (omega arith) (and_next w (and_next v u))
