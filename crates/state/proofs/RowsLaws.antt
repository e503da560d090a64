-- A row, once there, stays what was called for: the end of a phase changes nothing of it that `queried_row` and `completed` keep, and other rows only
-- join behind it.
use Rattle.std.specs.Prelude.{ℕ, ◌-◌, ◌<◌, ◌≡◌, refl, List, [], ◌∷◌, ◌++◌, length, get_or, set}
use Rattle.std.proofs.Common.{sym, ap, ◌∙◌, arith, get_or-set_same, get_or-set_other}
use Rattle.std.proofs.Math.Decide.{ℕ_discrete}
use Rattle.std.proofs.Math.ListN.{get_or-append}
use Rattle.words.specs.declared.Pair.{Pair}
use Rattle.words.specs.declared.Time.{Time}
use Rattle.replica.specs.declared.Ended.{Ended}
use Rattle.replica.specs.declared.Ended.TheVariants.{Pending, Query, At}
use Rattle.replica.specs.Numbers.{pointed}
use Rattle.tables.specs.declared.Row.{Row}
use Rattle.tables.specs.Tables.{empty_row}
use Rattle.state.specs.declared.Event.{Event}
use Rattle.state.specs.State.{State, row_of}
use Rattle.state.specs.Step.{completed, queried_row, answered_rows, step}
use Rattle.state.specs.Follows.{Follows, receiver_of, rule_at}
use Rattle.state.specs.Follows.Follows.{reads, writes, delivers, crashes, loses}
use Rattle.state.proofs.FollowsLaws.{accepted-follows}
use Rattle.state.specs.Within.{Within}

-- what is read of a row, and stays when a phase of its operation ends
module _ {A : Type 0} (f : Row → A) (stays : (r : Row) (who : ℕ) → f (queried_row r who) ≡ f r)
    (stays-done : (r : Row) (time : Time) (pair : Pair) (who : ℕ) → f (completed r time pair who) ≡ f r) where
  -- the row at a place becomes another of which the same is read
  changed-stays : (rows : List Row) (change : Row → Row) → ((r : Row) → f (change r) ≡ f r) → (at j : ℕ) → j < length rows
      → f (get_or (set rows at (change (get_or rows at empty_row))) j empty_row) ≡ f (get_or rows j empty_row)
  changed-stays rows change same at j l =
      elim (ℕ_discrete j at) [
        | yes e ↦
            ap (λ i. f (get_or (set rows i (change (get_or rows i empty_row))) j empty_row)) (sym e)
            ∙ ap f (get_or-set_same rows j (change (get_or rows j empty_row)) empty_row l) ∙ same (get_or rows j empty_row)
        | no n ↦ ap f (get_or-set_other rows at j (change (get_or rows at empty_row)) empty_row n)
      ]

  pub answered-stays : (rows : List Row) (number : ℕ) (ended : Ended) (j : ℕ) → j < length rows
      → f (get_or (answered_rows rows number ended) j empty_row) ≡ f (get_or rows j empty_row)
  answered-stays rows number Pending j l = refl
  answered-stays rows number (Query who) j l = changed-stays rows (λ r. queried_row r who) (λ r. stays r who) (number - 1) j l
  answered-stays rows number (At time pair who) j l =
      changed-stays rows (λ r. completed r time pair who) (λ r. stays-done r time pair who) (number - 1) j l

  added-stays : (rows : List Row) (new : Row) (j : ℕ) → j < length rows → f (get_or (rows ++ (new ∷ [])) j empty_row) ≡ f (get_or rows j empty_row)
  added-stays rows new j l = ap f (get_or-append rows (new ∷ []) empty_row j l)

  follows-stays : {s t : State} {e : Event} → Follows s e t → (row : ℕ) → Within row (length s.rows) → f (row_of t row) ≡ f (row_of s row)
  follows-stays {s} (reads p x) row l = added-stays s.rows _ (row - 1) (omega (arith, l.least, l.most))
  follows-stays {s} (writes p x value) row l = added-stays s.rows _ (row - 1) (omega (arith, l.least, l.most))
  follows-stays {s} (delivers k i found) row l =
      answered-stays s.rows (pointed (receiver_of s i).phase) (rule_at s i).ended (row - 1) (omega (arith, l.least, l.most))
  follows-stays (crashes p) row l = refl
  follows-stays (loses k i found) row l = refl

  pub row_stays : (s : State) (e : Event) → (step s e).refusal ≡ 0 → (row : ℕ) → Within row (length s.rows)
      → f (row_of (step s e).state row) ≡ f (row_of s row)
  row_stays s e z = follows-stays (accepted-follows s e z)
