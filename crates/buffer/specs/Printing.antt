-- What a function replies that writes a text into a lent output, and what it leaves there. So many bytes are always enough for the text; an output that is shorter is
-- refused by 19, whether or not this text would fit.
use Rattle.std.specs.Prelude.{ℕ, ◌≤◌, ◌≡◌, cond, List, leb, length, take, Result, Ok, Err}
use Rattle.tables.specs.Tables.{laid_at}
use Rattle.words.specs.declared.refusal.Refusal.{Refusal}
use Rattle.words.specs.Refusals.{number}

-- the number of refusal, 0 where the text was written, and how many bytes it has
pub record Printed : Type 0 where
  pub refusal : ℕ
  pub size : ℕ

-- what a result says of it
abbrev pub printed : Result ℕ Refusal → Printed
printed (Ok size) = record { refusal = 0; size = size }
printed (Err e) = record { refusal = number e; size = 0 }

unfoldable pub print_reply : ℕ → List ℕ → ℕ → Printed
print_reply enough text room = cond (leb enough room) (record { refusal = 0; size = length text }) (record { refusal = 19; size = 0 })

-- the text stands in front, and what is behind it is as before; refused, all of it
unfoldable pub print_left : ℕ → List ℕ → List ℕ → List ℕ
print_left enough text out = cond (leb enough (length out)) (laid_at 0 text out) out

-- n bytes stand at the front of the output; said twice, so that whoever takes them out has it either way
abbrev pub Fronts : ℕ → List ℕ → Type 0
Fronts n out = (n ≤ length out) × (n ≡ length (take n out))
