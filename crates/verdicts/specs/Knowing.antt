-- A history whose order names rows of its alone, each once: refused by 23 it is none.
use Rattle.std.specs.Prelude.{ℕ, ◌≡◌, Bool, true, List, length}
use Rattle.verdicts.specs.declared.history.History.{History}
use Rattle.verdicts.specs.declared.history.Known.{Known}
use Rattle.verdicts.specs.Verdict.{fresh, marked}
use Rattle.verdicts.specs.Rows.{numbers_of}

abbrev pub is_fresh : History → List ℕ → Bool
is_fresh history seen = fresh (length history.rows.now) seen (numbers_of history.order.now)

-- it is the same history, and its order's numbers are marked
pub record Knows (history : History) (seen : List ℕ) (known : Known) (seen' : List ℕ) : Type 0 where
  pub same : known.history ≡ history
  pub fresh-order : is_fresh history seen ≡ true
  pub marks : seen' ≡ marked seen (numbers_of history.order.now)
