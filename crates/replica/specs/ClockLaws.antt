-- Laws of the clock's rule on receiving: a receipt is later than the sending and than all before it.
use Rattle.std.specs.Prelude.{ℕ, ◌+◌, ◌≤◌, ◌<◌}
use Rattle.std.proofs.Common.{arith}
use Rattle.replica.specs.Clock.{after}

-- a receipt is later than all that its process did before it
pub after-own : (own sent : ℕ) → own < after own sent
after-own own sent = omega arith

-- and later than the sending
pub after-sent : (own sent : ℕ) → sent < after own sent
after-sent own sent = omega arith

pub after-monotone : {a b c d : ℕ} → a ≤ b → c ≤ d → after a c ≤ after b d
after-monotone h l = omega arith

-- it is the least such time: it exceeds no bound on the two by more than 1
pub after-least : {own sent bound : ℕ} → own ≤ bound → sent ≤ bound → after own sent ≤ bound + 1
after-least h l = omega arith
