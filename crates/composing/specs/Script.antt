-- The schedule that a text stands for, or the first line that is wrong: the first line that says anything is `bench N M`, and no other; the lines behind it are events; N and M
-- are in range, and the file has at most 65,536 bytes.
use Rattle.std.specs.Prelude.{ℕ, suc, ◌+◌, cond, not, List, [], ◌∷◌, ltb, length, Result, Ok, Err}
use Rattle.words.specs.Ranges.{within}
use Rattle.state.specs.declared.Event.{Event}
use Rattle.writing.specs.Bytes.{event_bytes}
use Rattle.script.specs.declared.Fault.{Fault}
use Rattle.script.specs.declared.Fault.TheVariants.{NoBench, Processes, Registers, TooLong}
use Rattle.script.specs.declared.Line.{Line}
use Rattle.script.specs.declared.Line.TheVariants.{Blank, Bench, Does}
use Rattle.script.specs.Lines.{lines}
use Rattle.script.specs.Meaning.{line_of}

-- ---- the lines behind the first

pub data Listed : Type 0 where
  listed : List Event → Listed
  faulty : ℕ → Fault → Listed

abbrev pub preceded : Event → Listed → Listed
preceded event (listed rest) = listed (event ∷ rest)
preceded event (faulty line fault) = faulty line fault

-- a file of so many bytes, and one event more
abbrev pub one_more : ℕ → ℕ → Event → (ℕ → Listed) → Listed
one_more i size event go = cond (ltb 65536 (size + length (event_bytes event))) (faulty i TooLong) (preceded event (go (size + length (event_bytes event))))

abbrev pub followed : ℕ → ℕ → Result Line Fault → (ℕ → Listed) → Listed
followed i size (Ok Blank) go = go size
followed i size (Ok (Bench n m)) go = faulty i NoBench
followed i size (Ok (Does event)) go = one_more i size event go
followed i size (Err fault) go = faulty i fault

-- the lines from number i on, behind a file of so many bytes
abbrev pub following : ℕ → ℕ → List (List ℕ) → Listed
following i size [] = listed []
following i size (line ∷ rest) = followed i size (line_of line) (λ more. following (suc i) more rest)

-- ---- the whole

pub data Script : Type 0 where
  script : (n m : ℕ) → List Event → Script
  wrong : ℕ → Fault → Script

abbrev pub as_script : ℕ → ℕ → Listed → Script
as_script n m (listed events) = script n m events
as_script n m (faulty line fault) = wrong line fault

abbrev pub begun : ℕ → ℕ → ℕ → Listed → Script
begun i n m rest = cond (not (within n 7)) (wrong i Processes) (cond (not (within m 16)) (wrong i Registers) (as_script n m rest))

-- a file has 7 bytes before its first event
abbrev pub opened : ℕ → Result Line Fault → Script → List (List ℕ) → Script
opened i (Ok Blank) next rest = next
opened i (Ok (Bench n m)) next rest = begun i n m (following (suc i) 7 rest)
opened i (Ok (Does event)) next rest = wrong i NoBench
opened i (Err fault) next rest = wrong i fault

abbrev pub opening : ℕ → List (List ℕ) → Script
opening i [] = wrong i NoBench
opening i (line ∷ rest) = opened i (line_of line) (opening (suc i) rest) rest

unfoldable pub script_of : List ℕ → Script
script_of text = opening 1 (lines text)
