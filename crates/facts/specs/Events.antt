-- What P5 to P8 speak of: events one after another, which number each of them gets, which state they leave, and what could be delivered next.
use Rattle.std.specs.Prelude.{ℕ, cond, List, [], ◌∷◌, eqb, ℤ, pos}
use Rattle.words.specs.declared.Message.{Message}
use Rattle.state.specs.declared.Event.{Event}
use Rattle.state.specs.declared.Event.TheVariants.{Read, Write, Deliver, Crash}
use Rattle.state.specs.State.{State, fresh}
use Rattle.state.specs.Step.{step}
use Rattle.state.specs.Reached.{after}

-- ---- the events, by the number of their process

abbrev pub read : ℕ → ℕ → Event
read p x = Read (record { 0 = p }) x

abbrev pub write : ℕ → ℕ → ℤ → Event
write p x value = Write (record { 0 = p }) x value

abbrev pub crash : ℕ → Event
crash p = Crash (record { 0 = p })

-- ---- what is said of them

-- the number of each event: 0 if it is accepted, else its refusal, which changes nothing
abbrev pub numbers : State → List Event → List ℕ
numbers s [] = []
numbers s (e ∷ events) = (step s e).refusal ∷ numbers (step s e).state events

-- the messages among these whose delivery is accepted
abbrev pub taken : State → List Message → List ℕ
taken s [] = []
taken s (m ∷ rest) = cond (eqb (step s (Deliver m.number)).refusal 0) (m.number ∷ taken s rest) (taken s rest)

-- the messages in flight that can be delivered
abbrev pub deliverable : State → List ℕ
deliverable s = taken s s.flight

-- ---- P5 and P6: one process and one register

-- process 1 writes 7; its update reaches it, and its ack
abbrev pub write_alone : List Event
write_alone = write 1 1 (pos 7) ∷ Deliver 1 ∷ Deliver 2 ∷ []

abbrev pub after_write : State
after_write = after (fresh 1 1) write_alone

-- then it reads; its query reaches it, the response, its update, and its ack
abbrev pub read_behind : List Event
read_behind = read 1 1 ∷ Deliver 3 ∷ Deliver 4 ∷ Deliver 5 ∷ Deliver 6 ∷ []

abbrev pub after_read : State
after_read = after after_write read_behind

-- ---- P7: two processes and one register

-- process 2 crashes, 1 writes 7; its update reaches itself, and its ack
abbrev pub write_of_two : List Event
write_of_two = crash 2 ∷ write 1 1 (pos 7) ∷ Deliver 1 ∷ Deliver 3 ∷ []

abbrev pub after_crash : State
after_crash = after (fresh 2 1) write_of_two

-- ---- P8: process 1 writes 7, and its update is delivered to it twice

abbrev pub twice : List Event
twice = write 1 1 (pos 7) ∷ Deliver 1 ∷ Deliver 1 ∷ []
