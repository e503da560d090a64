-- The limits, each named once: document 01's, of a bench; and those of one replica by itself.
use Rattle.std.specs.Prelude.{ℕ}

-- accepted events; messages in flight; rows of the history
abbrev pub most_events : ℕ
most_events = 12000

abbrev pub most_flight : ℕ
most_flight = 512

abbrev pub most_rows : ℕ
most_rows = 1024

-- a replica's times and request numbers, whoever joins it to others; one more still fits in four bytes
abbrev pub most_time : ℕ
most_time = 4000000000

abbrev pub most_rid : ℕ
most_rid = 4000000000
