-- The worked example of docs/JUDGING.md, byte by byte, and what becomes of it when its order is spoilt: the checker computes each verdict.
use Rattle.std.specs.Prelude.{ℕ, ◌≡◌, refl, List, [], ◌∷◌, ◌++◌}
use Rattle.verdicts.specs.Explains.{Row}
use Rattle.verdicts.specs.File.{history_file}
use Rattle.verdicts.specs.Verdict.{rows_in, order_in, sized, zeros, judged_known, judged, verdict_of}

-- process 1 writes 7 to register 1; process 2 reads 7 there, and begins to write -3, which is cut off
abbrev rows : List Row
rows =
    record { process = 1; kind = 2; register = 1; value = 7; complete = 1 }
    ∷ (record { process = 2; kind = 1; register = 1; value = 7; complete = 1 }
    ∷ (record { process = 2; kind = 2; register = 1; value = 18446744073709551613; complete = 0 } ∷ []))

abbrev bytes : List ℕ
bytes =
    0 ∷ 0 ∷ 0 ∷ 45 ∷ 1 ∷ 0 ∷ 3
    ∷ 1 ∷ 2 ∷ 1 ∷ 0 ∷ 0 ∷ 0 ∷ 0 ∷ 0 ∷ 0 ∷ 0 ∷ 7 ∷ 1
    ∷ 2 ∷ 1 ∷ 1 ∷ 0 ∷ 0 ∷ 0 ∷ 0 ∷ 0 ∷ 0 ∷ 0 ∷ 7 ∷ 1
    ∷ 2 ∷ 2 ∷ 1 ∷ 255 ∷ 255 ∷ 255 ∷ 255 ∷ 255 ∷ 255 ∷ 255 ∷ 253 ∷ 0
    ∷ 0 ∷ 2 ∷ 0 ∷ 1 ∷ 0 ∷ 2 ∷ []

example-written : history_file rows (1 ∷ (2 ∷ [])) ≡ bytes
unfolding history_file
example-written = refl

-- a verdict, computed
abbrev Verdict : List ℕ → ℕ → Type 0
Verdict order number = verdict_of (history_file rows order) ≡ number

example-accepted : Verdict (1 ∷ (2 ∷ [])) 0
unfolding history_file verdict_of sized rows_in order_in zeros judged judged_known
example-accepted = refl

-- the cut-off write may stand
example-cut-off : Verdict (1 ∷ (2 ∷ (3 ∷ []))) 0
unfolding history_file verdict_of sized rows_in order_in zeros judged judged_known
example-cut-off = refl

-- a byte too many
example-left-over : verdict_of (bytes ++ (0 ∷ [])) ≡ 22
unfolding verdict_of sized rows_in order_in zeros judged judged_known
example-left-over = refl

-- the cut-off write twice
example-twice : Verdict (1 ∷ (2 ∷ (3 ∷ (3 ∷ [])))) 23
unfolding history_file verdict_of sized rows_in order_in zeros judged judged_known
example-twice = refl

-- the read left out
example-missing : Verdict (1 ∷ []) 25
unfolding history_file verdict_of sized rows_in order_in zeros judged judged_known
example-missing = refl

-- process 2's rows the other way round
example-swapped : Verdict (1 ∷ (3 ∷ (2 ∷ []))) 26
unfolding history_file verdict_of sized rows_in order_in zeros judged judged_known
example-swapped = refl

-- the read before the write that it saw
example-too-early : Verdict (2 ∷ (1 ∷ [])) 27
unfolding history_file verdict_of sized rows_in order_in zeros judged judged_known
example-too-early = refl
