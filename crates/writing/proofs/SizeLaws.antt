-- How many bytes each event has, and the whole file.
use Rattle.std.specs.Prelude.{ℕ, ◌+◌, ◌≡◌, refl, ℤ, length, List}
use Rattle.std.proofs.Common.{arith, length-append}
use Rattle.words.specs.declared.Pid.{Pid}
use Rattle.state.specs.declared.Event.{Event}
use Rattle.state.specs.declared.Event.TheVariants.{Read, Write, Deliver, Crash, Lose}
use Rattle.writing.specs.Bytes.{word_bytes, value_bytes, event_bytes, events_bytes, behind_length, file_bytes}

pub word_size : (k : ℕ) → length (word_bytes k) ≡ 4
unfolding word_bytes
word_size k = refl

pub value_size : (v : ℤ) → length (value_bytes v) ≡ 8
unfolding value_bytes word_bytes
value_size v = refl

pub read-size : (p : Pid) (x : ℕ) → length (event_bytes (Read p x)) ≡ 3
unfolding event_bytes
read-size p x = refl

pub write-size : (p : Pid) (x : ℕ) (v : ℤ) → length (event_bytes (Write p x v)) ≡ 11
unfolding event_bytes value_bytes word_bytes
write-size p x v = refl

pub deliver-size : (k : ℕ) → length (event_bytes (Deliver k)) ≡ 5
unfolding event_bytes word_bytes
deliver-size k = refl

pub crash-size : (p : Pid) → length (event_bytes (Crash p)) ≡ 2
unfolding event_bytes
crash-size p = refl

pub lose-size : (k : ℕ) → length (event_bytes (Lose k)) ≡ 5
unfolding event_bytes word_bytes
lose-size k = refl

pub file-size : (n m : ℕ) (events : List Event) → length (file_bytes n m events) ≡ 7 + length (events_bytes events)
unfolding file_bytes
file-size n m events =
    omega (arith, length-append (word_bytes (length (behind_length n m events))) (behind_length n m events), word_size (length (behind_length n m events)))
