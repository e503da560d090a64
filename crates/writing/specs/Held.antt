-- Numbers as the types of the code hold them: bytes, numbers of 32 bits, values of 64 with a sign. Whatever is handed in by a caller is held; a list of ℕ need not be.
use Rattle.std.specs.Prelude.{ℕ, ◌<◌, List, [], ◌∷◌, get_or}
use Rattle.std.specs.Int.{w64}
use Rattle.std.proofs.Common.{SFits}
use Rattle.state.specs.declared.Event.{Event}
use Rattle.state.specs.declared.Event.TheVariants.{Read, Write, Deliver, Crash, Lose}

-- each is a byte
abbrev pub Bytes : List ℕ → Type 0
Bytes bytes = (i : ℕ) → get_or bytes i 0 < 256

abbrev pub Held : Event → Type 0
Held (Read p x) = (p.0 < 256) × (x < 256)
Held (Write p x v) = (p.0 < 256) × ((x < 256) × SFits w64 v)
Held (Deliver k) = k < 4294967296
Held (Crash p) = p.0 < 256
Held (Lose k) = k < 4294967296

abbrev pub HeldAll : List Event → Type 0
HeldAll [] = Unit {0}
HeldAll (event ∷ rest) = Held event × HeldAll rest
