-- The kinds of events: the first byte of each, and how many bytes an event of the kind has, its first byte included. Document 01, "Schedule file".
use Rattle.std.specs.Prelude.{ℕ, ◌≡◌, ◌<◌, ◌⊎◌, Result, MatchResult}
use Rattle.words.specs.declared.refusal.Refusal.{Refusal}
use Rattle.words.specs.declared.refusal.Refusal.TheVariants.{Unknown}
use Rattle.state.specs.declared.Event.{Event}
use Rattle.state.specs.declared.Event.TheVariants as event
use Rattle.format.specs.declared.kinds.Kind.{Kind}
use Rattle.format.specs.declared.kinds.Kind.TheVariants.{Read, Write, Deliver, Crash, Lose}

abbrev pub first_byte : Kind → ℕ
first_byte Read = 1
first_byte Write = 2
first_byte Deliver = 3
first_byte Crash = 4
first_byte Lose = 5

abbrev pub size : Kind → ℕ
size Read = 3
size Write = 11
size Deliver = 5
size Crash = 2
size Lose = 5

abbrev pub kind_of : Event → Kind
kind_of (event.Read p x) = Read
kind_of (event.Write p x value) = Write
kind_of (event.Deliver k) = Deliver
kind_of (event.Crash p) = Crash
kind_of (event.Lose k) = Lose

-- the kind with this first byte, or unknown by a byte that no kind has
abbrev pub Decodes : ℕ → Result Kind Refusal → Type 0
Decodes byte r = MatchResult r (λ kind. first_byte kind ≡ byte) (λ refusal. (refusal ≡ Unknown) × ((byte ≡ 0) ⊎ (5 < byte)))
