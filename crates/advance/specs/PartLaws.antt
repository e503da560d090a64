-- Bounds of the parts.
use Rattle.std.specs.Prelude.{ℕ, ◌+◌, ◌≤◌, Option, Some, None}
use Rattle.std.proofs.Common.{arith}
use Rattle.state.specs.declared.Bench.{Bench}
use Rattle.state.specs.declared.Event.{Event}
use Rattle.state.specs.declared.Event.TheVariants.{Read, Write, Deliver, Crash, Lose}
use Rattle.advance.specs.Parts.{left_of, tallied}

pub from-small : (taken : Option ℕ) (n : ℕ) → n ≤ 512 → left_of taken n ≤ 512
from-small (Some at) n l = omega arith
from-small None n l = l

pub tally-small : (e : Event) (b : Bench) → ((tallied e b).rows ≤ b.rows + 1) × ((tallied e b).delivered ≤ b.delivered + 1) × ((tallied e b).lost ≤ b.lost + 1)
tally-small (Read p x) b = (omega arith, omega arith, omega arith)
tally-small (Write p x value) b = (omega arith, omega arith, omega arith)
tally-small (Deliver k) b = (omega arith, omega arith, omega arith)
tally-small (Crash p) b = (omega arith, omega arith, omega arith)
tally-small (Lose k) b = (omega arith, omega arith, omega arith)
