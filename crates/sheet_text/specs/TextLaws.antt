-- Laws of the lines of a sheet: the two ways of a line, one more of the numbers met, the whole of its two parts, and what printing replies.
use Rattle.std.specs.Prelude.{ℕ, zero, suc, ◌+◌, ◌≤◌, ◌<◌, ◌≡◌, Bool, List, [], ◌∷◌, ◌++◌, get_or, leb, take, Result, Ok, Err}
use Rattle.std.proofs.Common.{sym, subst, ◌∙◌, append_assoc, append-nil, arith, add-one, length-take, eq-eqb, ne_eqb, le-leb}
use Rattle.std.proofs.Math.Path.{refl, ap}
use Rattle.std.proofs.Math.Bool.{cond, true, false}
use Rattle.std.proofs.Math.ListN.{length}
use Rattle.std.proofs.lemmas.Bool.{lt-leb}
use Rattle.tables.specs.Tables.{laid_at}
use Rattle.text.specs.Printed.{number, field, dash, newline, word_refused}
use Rattle.text.specs.Written.{Wrote}
use Rattle.text.specs.LaidLaws.{laid-length}
use Rattle.figures.specs.declared.Waits.{Waits}
use Rattle.figures.specs.declared.Sheet.{Sheet}
use Rattle.sheet_text.specs.SheetText.{word_wait, schedules_line, refused_line, refused_lines, mean, wait_line, sheet_text, print_reply, print_left}
use Rattle.std.specs.Result.{result_unwrap_or}
use Rattle.words.specs.declared.refusal.Refusal.{Refusal}
use Rattle.words.specs.declared.refusal.Refusal.TheVariants.{ShortOutput}
use Rattle.sheet_text.specs.Printing.{print_result}
use Rattle.sheet_text.specs.TextParts.{head_text, rest_text}

-- ---- the two ways of a line

pub not-met : (k n : ℕ) → n ≡ 0 → [] ≡ refused_line k n
unfolding refused_line
not-met k n e = simp (eq-eqb n 0 e)

pub met : (k n : ℕ) → (n ≡ 0 → ⊥) → word_refused ++ (number k ++ (number n ++ (newline ∷ []))) ≡ refused_line k n
unfolding refused_line
met k n h = simp (ne_eqb n 0 h)

pub no-waits : (w : Waits) → w.count ≡ 0 → word_wait ++ (field dash ++ (field dash ++ (field dash ++ (newline ∷ [])))) ≡ wait_line w
unfolding wait_line
no-waits w e = simp (eq-eqb w.count 0 e)

pub some-waits : (w : Waits) → (w.count ≡ 0 → ⊥) → word_wait ++ (mean w ++ (number w.least ++ (number w.greatest ++ (newline ∷ [])))) ≡ wait_line w
unfolding wait_line
some-waits w h = simp (ne_eqb w.count 0 h)

-- ---- one more number

refused-last : (files : List ℕ) (k j : ℕ) → refused_lines files k j ++ refused_line (k + j) (get_or files (k + j) 0) ≡ refused_lines files k (suc j)
refused-last files k zero = let same : k + zero ≡ k = omega arith in ap (λ (i : ℕ). refused_line i (get_or files i 0)) same ∙ sym (append-nil (refused_line k (get_or files k 0)))
refused-last files k (suc j) =
    append_assoc (refused_line k (get_or files k 0)) (refused_lines files (suc k) j) (refused_line (k + suc j) (get_or files (k + suc j) 0))
    ∙ ap (λ (i : ℕ). refused_line k (get_or files k 0) ++ (refused_lines files (suc k) j ++ refused_line i (get_or files i 0))) same
    ∙ ap (λ (l : List ℕ). refused_line k (get_or files k 0) ++ l) (refused-last files (suc k) j)
  where
    same : k + suc j ≡ suc k + j
    same = omega arith

pub one-refused : (files : List ℕ) (i : ℕ) → refused_lines files 1 i ++ refused_line (i + 1) (get_or files (i + 1) 0) ≡ refused_lines files 1 (i + 1)
one-refused files i =
    ap (λ (j : ℕ). refused_lines files 1 i ++ refused_line j (get_or files j 0)) same ∙ refused-last files 1 i ∙ ap (refused_lines files 1) (sym (add-one i))
  where
    same : i + 1 ≡ 1 + i
    same = omega arith

-- ---- the whole

pub whole_is : (s : Sheet) → head_text s ++ rest_text s ≡ sheet_text s
unfolding sheet_text
whole_is s = append_assoc (schedules_line s.schedules) (refused_lines s.files 1 31) (rest_text s)

-- ---- what printing replies

reply-sized : (t : Bool) (n : ℕ) → result_unwrap_or {E = Refusal} (cond t (Ok n) (Err ShortOutput)) 0 ≡ cond t n 0
reply-sized true n = refl
reply-sized false n = refl

-- the reply that C has
pub size-is : (s : Sheet) (out : List ℕ) → result_unwrap_or (print_result s out) 0 ≡ print_reply s out
unfolding print_result print_reply
size-is s out = reply-sized (leb 1409 (length out)) (length (sheet_text s))

module _ (s : Sheet) (out : List ℕ) where
  pub long-reply : 1409 ≤ length out → (r : ℕ) (out' : List ℕ) → Wrote 0 (sheet_text s) 1409 out out' r → r ≡ print_reply s out
  unfolding print_reply
  long-reply l r out' w = counted w.ends ∙ ap (λ (t : Bool). cond t (length (sheet_text s)) 0) (sym (le-leb 1409 (length out) l))
    where
      counted : r ≡ 0 + length (sheet_text s) → r ≡ length (sheet_text s)
      counted q = omega (arith, q)

  pub long-result : 1409 ≤ length out → (r : ℕ) (out' : List ℕ) → Wrote 0 (sheet_text s) 1409 out out' r → Ok r ≡ print_result s out
  unfolding print_result
  long-result l r out' w =
      ap {B = Result ℕ Refusal} (λ (n : ℕ). Ok n) (counted w.ends)
      ∙ ap {B = Result ℕ Refusal} (λ (t : Bool). cond t (Ok (length (sheet_text s))) (Err ShortOutput)) (sym (le-leb 1409 (length out) l))
    where
      counted : r ≡ 0 + length (sheet_text s) → r ≡ length (sheet_text s)
      counted q = omega (arith, q)

  pub long-left : 1409 ≤ length out → (r : ℕ) (out' : List ℕ) → Wrote 0 (sheet_text s) 1409 out out' r → out' ≡ print_left s out
  unfolding print_left
  long-left l r out' w = w.lays ∙ ap (λ (t : Bool). cond t (laid_at 0 (sheet_text s) out) out) (sym (le-leb 1409 (length out) l))

  pub short-reply : length out < 1409 → 0 ≡ print_reply s out
  unfolding print_reply
  short-reply l = ap (λ (t : Bool). cond t (length (sheet_text s)) 0) (sym (lt-leb 1409 (length out) l))

  pub short-result : length out < 1409 → Err ShortOutput ≡ print_result s out
  unfolding print_result
  short-result l = ap {B = Result ℕ Refusal} (λ (t : Bool). cond t (Ok (length (sheet_text s))) (Err ShortOutput)) (sym (lt-leb 1409 (length out) l))

  pub short-left : length out < 1409 → out ≡ print_left s out
  unfolding print_left
  short-left l = ap (λ (t : Bool). cond t (laid_at 0 (sheet_text s) out) out) (sym (lt-leb 1409 (length out) l))

  -- so many bytes stand at the front
  abbrev Fronts : ℕ → List ℕ → Type 0
  Fronts n xs = (n ≤ length xs) × (n ≡ length (take n xs))

  fronts : (n : ℕ) (xs : List ℕ) → n ≤ length xs → Fronts n xs
  fronts n xs l = (l, omega (arith, l, length-take n xs))

  pub none-fronts : Fronts 0 out
  none-fronts = fronts 0 out (omega arith)

  pub long-fronts : (r : ℕ) (out' : List ℕ) → Wrote 0 (sheet_text s) 1409 out out' r → Fronts r out'
  long-fronts r out' w =
      fronts r out' (subst (λ (l : List ℕ). r ≤ length l) (sym w.lays) (omega (arith, w.ends, w.room, laid-length 0 (sheet_text s) out w.room)))
