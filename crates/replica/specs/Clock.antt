-- clock = larger of own and sender's time, plus 1
use Rattle.std.specs.Prelude.{ℕ, ◌+◌, max}
use Rattle.words.specs.declared.Time.{Time}
use Rattle.replica.specs.declared.clock.Clock.{Clock}

-- of the numbers
abbrev pub after : ℕ → ℕ → ℕ
after own sent = max own sent + 1

-- of the two times
abbrev pub after_time : Time → Time → Time
after_time own sent = record { 0 = after own.0 sent.0 }

-- and of a clock, and the time that a message bears
abbrev pub clock_after : Clock → Time → Clock
clock_after clock time = record { time = after_time clock.time time }
