-- A stamp as one number, time times eight plus process, as hosts print and compare it.
use Rattle.std.specs.Prelude.{ℕ, ◌+◌, ◌*◌}
use Rattle.words.specs.declared.Stamp.{Stamp}

abbrev pub rank : Stamp → ℕ
rank s = s.time.0 * 8 + s.process.0
