-- What a bench that is well formed with its tables says of what is asked of it.
use Rattle.std.specs.Prelude.{◌≡◌, refl, Bool, true, false, cond, List, length}
use Rattle.std.proofs.Common.{sym}
use Rattle.words.specs.declared.Message.{Message}
use Rattle.tables.specs.declared.Row.{Row}
use Rattle.state.specs.declared.Bench.{Bench}
use Rattle.state.specs.State.{view}
use Rattle.state.specs.Tabled.{tabled}
use Rattle.state.proofs.WellLaws.{Well, well}
use Rattle.standing.specs.Status.{statuses, standings_of, downs}
use Rattle.standing.proofs.StatusLaws.{statuses-same}
use Rattle.advance.proofs.TabledLaws.{tabled-well}

where-true : {A : Type 0} (t : Bool) (x y z : A) → (t ≡ true → x ≡ y) → cond t x z ≡ cond t y z
where-true true x y z h = h refl
where-true false x y z h = refl

module _ (b : Bench) (messages : List Message) (rows : List Row) where
  pub well-tabled : tabled b messages rows ≡ true → Well (view b messages rows)
  well-tabled e = well (view b messages rows) (tabled-well b messages rows e)

  pub seven : tabled b messages rows ≡ true → length b.replicas ≡ 7
  seven e = (well-tabled e).seven

  pub standings-same : cond (tabled b messages rows) (record { refusal = 0; of = standings_of b }) (downs 18) ≡ cond (tabled b messages rows) (statuses (view b messages rows)) (downs 18)
  standings-same = where-true (tabled b messages rows) (record { refusal = 0; of = standings_of b }) (statuses (view b messages rows)) (downs 18) (λ e. sym (statuses-same b messages rows (well-tabled e).processes.most))
