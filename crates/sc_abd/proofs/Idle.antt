-- An idle process has an empty set and no operation outstanding, and the algorithm has counted nothing for it; one that waits has one outstanding.
use Rattle.std.specs.Prelude.{ℕ, ◌≡◌, refl, Bool, true, not, [], map}
use Rattle.std.proofs.Common.{ap, ◌∙◌}
use Rattle.std.proofs.lemmas.Bool.{false≢true}
use Rattle.replica.specs.declared.Phase.{Phase}
use Rattle.replica.specs.declared.Phase.TheVariants.{Idle, Querying, Updating}
use Rattle.replica.specs.Handlers.{is_idle}
use Rattle.state.specs.State.{State}
use Rattle.state.specs.WellFormed.{is_empty}
use Rattle.state.proofs.WellLaws.{PhaseOk}
use Rattle.sc_abd.specs.Algorithm1.{Process}
use Rattle.sc_abd.specs.System.{outstanding}
use Rattle.sc_abd.specs.Same.{operation_of, pointed_rows, SamePhase}
use Rattle.sc_abd.proofs.Histories.{outstanding-pending}

pub idle-outstanding : (s : State) (p : ℕ) (phase : Phase) (repliers : ℕ) → PhaseOk s p phase repliers
    → outstanding p (map operation_of s.rows) ≡ not (is_idle phase)
idle-outstanding s p Idle repliers o = outstanding-pending p 1 s.rows ∙ ap (λ l. not (is_empty l)) o.0
idle-outstanding s p (Querying row gathered) repliers o = outstanding-pending p 1 s.rows ∙ ap (λ l. not (is_empty l)) o.0
idle-outstanding s p (Updating row sent) repliers o = outstanding-pending p 1 s.rows ∙ ap (λ l. not (is_empty l)) o.0

pub idle-responses : (s : State) (phase : Phase) (process : Process) (asks : Bool) → is_idle phase ≡ true → SamePhase s phase process asks
    → process.responses ≡ []
idle-responses s Idle process asks e h = h
idle-responses s (Querying row gathered) process asks e h = absurd (false≢true e)
idle-responses s (Updating row sent) process asks e h = absurd (false≢true e)

pub idle-points : (phase : Phase) → is_idle phase ≡ true → pointed_rows phase ≡ []
idle-points Idle e = refl
idle-points (Querying row gathered) e = absurd (false≢true e)
idle-points (Updating row sent) e = absurd (false≢true e)

pub idle-empty : (s : State) (p : ℕ) (phase : Phase) (repliers : ℕ) → is_idle phase ≡ true → PhaseOk s p phase repliers → repliers ≡ 0
idle-empty s p Idle repliers e o = o.1
idle-empty s p (Querying row gathered) repliers e o = absurd (false≢true e)
idle-empty s p (Updating row sent) repliers e o = absurd (false≢true e)
