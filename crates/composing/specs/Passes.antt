-- What the passes over a text say of what is left of it.
use Rattle.std.specs.Prelude.{ℕ, ◌+◌, ◌≤◌, ◌≡◌, true, cond, List, [], ◌∷◌, ltb, length, Result, Ok, Err}
use Rattle.words.specs.Ranges.{within}
use Rattle.state.specs.declared.Event.{Event}
use Rattle.writing.specs.Bytes.{event_bytes, events_bytes}
use Rattle.script.specs.declared.Fault.{Fault}
use Rattle.script.specs.declared.Fault.TheVariants.{NoBench, TooLong}
use Rattle.script.specs.declared.Line.{Line}
use Rattle.script.specs.declared.Line.TheVariants.{Blank, Bench, Does}
use Rattle.script.specs.Lines.{lines}
use Rattle.script.specs.Meaning.{line_of}
use Rattle.buffer.specs.Printing.{Fronts}
use Rattle.composing.specs.declared.NotComposed.{NotComposed}
use Rattle.composing.specs.declared.NotComposed.TheVariants.{Wrong, Short}
use Rattle.composing.specs.declared.Opening.{Opening}
use Rattle.composing.specs.Script.{Listed, listed, faulty, following, as_script, wrong, script_of}

-- the line of the bench was found, with N and M in range: the rest of the text lists the events
abbrev pub Opens : List ℕ → Result Opening NotComposed → Type 0
Opens text (Ok o) =
    (o.number + length (lines o.rest.now) ≤ length (lines text))
    × (((within o.n 7 ≡ true) × (within o.m 16 ≡ true)) × (script_of text ≡ as_script o.n o.m (following (o.number + 1) 7 (lines o.rest.now))))
Opens text (Err (Wrong i fault)) = script_of text ≡ wrong i fault
Opens text (Err Short) = ⊥

-- how many bytes the file has, with those before these lines
abbrev pub surveyed : ℕ → Listed → Result ℕ NotComposed
surveyed size (listed events) = Ok (size + length (events_bytes events))
surveyed size (faulty i fault) = Err (Wrong i fault)

-- the bytes of a file with one line more
abbrev pub grown : ℕ → Result Line Fault → Result ℕ Fault
grown size (Ok Blank) = Ok size
grown size (Ok (Bench n m)) = Err NoBench
grown size (Ok (Does event)) = cond (ltb 65536 (size + length (event_bytes event))) (Err TooLong) (Ok (size + length (event_bytes event)))
grown size (Err fault) = Err fault

-- the bytes of the event on a line, if it says one
abbrev pub line_bytes : Result Line Fault → List ℕ
line_bytes (Ok Blank) = []
line_bytes (Ok (Bench n m)) = []
line_bytes (Ok (Does event)) = event_bytes event
line_bytes (Err fault) = []

-- the events among lines
abbrev pub joined_to : Result Line Fault → List Event → List Event
joined_to (Ok Blank) rest = rest
joined_to (Ok (Bench n m)) rest = rest
joined_to (Ok (Does event)) rest = event ∷ rest
joined_to (Err fault) rest = rest

abbrev pub events_in : List (List ℕ) → List Event
events_in [] = []
events_in (line ∷ rest) = joined_to (line_of line) (events_in rest)

-- a file of so many bytes, into an output of so many
abbrev pub filed_as : ℕ → ℕ → Result ℕ NotComposed
filed_as size room = cond (ltb room size) (Err Short) (Ok size)

-- the file stands at the front of the output
abbrev pub Fits : Result ℕ NotComposed → List ℕ → Type 0
Fits (Ok size) out = Fronts size out
Fits (Err why) out = Unit {0}
