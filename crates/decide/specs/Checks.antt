-- The checks of an event, over the counts that they look at: document 01's order, the first that holds is given.
use Rattle.std.specs.Prelude.{ℕ, ◌+◌, ◌-◌, Bool, not, leb, None}
use Rattle.words.specs.Limits.{most_events, most_rows}
use Rattle.words.specs.Ranges.{within}
use Rattle.state.specs.Step.{check, no_room, found_refusal}
use Rattle.decide.specs.declared.Counters.{Counters}

abbrev pub full : Counters → Bool
full c = leb most_events c.accepted

abbrev pub invoke_checks : Counters → ℕ → ℕ → Bool → Bool → ℕ → ℕ
invoke_checks c p x crashed idle later =
    check (full c) 17
    (check (not (within p c.n)) 8
    (check (not (within x c.m)) 9
    (check crashed 10
    (check (not idle) 11
    (check (leb most_rows c.rows) 16
    (check (no_room (c.flight + c.n)) 15 later))))))

-- no such message in flight: 17, else 12
abbrev pub missing_checks : Counters → ℕ
missing_checks c = check (full c) 17 (found_refusal None)

abbrev pub deliver_checks : Counters → Bool → ℕ → ℕ → ℕ
deliver_checks c crashed count later = check (full c) 17 (check crashed 13 (check (no_room (c.flight - 1 + count)) 15 later))

abbrev pub crash_checks : Counters → ℕ → Bool → ℕ → ℕ
crash_checks c p crashed later = check (full c) 17 (check (not (within p c.n)) 8 (check crashed 10 later))

-- `down`: one of the two ends has crashed
abbrev pub lose_checks : Counters → Bool → ℕ
lose_checks c down = check (full c) 17 (check (not down) 14 0)
