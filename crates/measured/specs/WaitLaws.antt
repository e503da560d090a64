-- A wait is an exact difference: every completed operation of a schedule was invoked before it was answered, so that its wait and its invocation time make its response time.
use Rattle.std.specs.Prelude.{ℕ, suc, ◌+◌, ◌<◌, ◌≡◌, refl, Bool, true, false, cond, eqb, length, get_or}
use Rattle.std.proofs.Common.{sym, subst, arith, eqb-true}
use mathlib.Core.List.Memᴰ
use mathlib.Core.List.{List, [], Memᴰ}
use Rattle.std.proofs.lemmas.Bool.{eqb-false, not-true}
use Rattle.tables.specs.declared.Row.{Row}
use Rattle.tables.specs.Tables.{empty_row}
use Rattle.state.specs.Reached.{Reached}
use Rattle.format.specs.Format.{file_refusal}
use Rattle.format.proofs.FileLaws.{file-opens}
use Rattle.schedule.specs.Opening.{ran_file}
use Rattle.schedule.proofs.FileLaws.{file-reached}
use Rattle.consistency.proofs.SoundLaws.{answered-later}
use Rattle.figures.specs.Figures.{is_complete}
use Rattle.sheets.specs.Totals.{rows_of, Completed}

-- a member of a list stands at some place of it
member-place : {A : Type 0} (d : A) {a : A} {l : List A} → Memᴰ a l → (i : ℕ) × (i < length l) × (get_or l i d ≡ a)
member-place d (Memᴰ.head e) = (0, omega arith, sym e)
member-place d (Memᴰ.tail m) =
    let u = member-place d m in
    (suc u.0, omega (arith, u.1), u.2)

module _ (bytes : List ℕ) (row : Row) (complete : is_complete row ≡ true) where
  answered : row.answered.0 ≡ 0 → ⊥
  answered = eqb-false row.answered.0 0 (not-true (eqb row.answered.0 0) complete)

  of-run : file_refusal bytes ≡ 0 → Memᴰ row (ran_file bytes).state.rows → row.invoked.0 < row.answered.0
  of-run accepted m =
      let reached : Reached (ran_file bytes).state = file-reached bytes (file-opens bytes accepted) in
      let (j, l, e) = member-place empty_row m in
      subst (λ (r : Row). (r.answered.0 ≡ 0 → ⊥) → r.invoked.0 < r.answered.0) e (answered-later reached j l) answered

  pub invoked-first : Memᴰ row (rows_of bytes) → row.invoked.0 < row.answered.0
  invoked-first m = go (eqb (file_refusal bytes) 0) refl m
    where
      go : (t : Bool) → eqb (file_refusal bytes) 0 ≡ t → Memᴰ row (cond t (ran_file bytes).state.rows []) → row.invoked.0 < row.answered.0
      go true e m = of-run (eqb-true (file_refusal bytes) 0 e) m
      go false e m = absurd (Memᴰ.not-nil m)

pub wait-exact : (files : List (List ℕ)) (wait : ℕ) (c : Completed files wait) → c.row.invoked.0 + wait ≡ c.row.answered.0
wait-exact files wait c = omega (arith, invoked-first c.bytes c.row c.complete c.listed, c.waited)

-- none is 0
pub wait-some : (files : List (List ℕ)) (wait : ℕ) → Completed files wait → 0 < wait
wait-some files wait c = omega (arith, invoked-first c.bytes c.row c.complete c.listed, c.waited)
