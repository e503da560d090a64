-- What the functions say that take words off the front of a line: `reads` says what follows by what was taken and by the words behind it.
use Rattle.std.specs.Prelude.{ℕ, ◌≡◌, List, Result, Ok, Err}
use Rattle.script.specs.declared.Fault.{Fault}
use Rattle.script.specs.declared.Line.{Line}
use Rattle.script.specs.Meaning.{end_then}

-- what a number or a value that was taken leaves to whatever follows
abbrev pub Took : {X : Type 0} → ((X → List (List ℕ) → Result Line Fault) → Result Line Fault) → List (List ℕ) → Result X Fault → Type 0
Took {X} reads rest (Ok x) = (go : X → List (List ℕ) → Result Line Fault) → reads go ≡ go x rest
Took {X} reads rest (Err fault) = (go : X → List (List ℕ) → Result Line Fault) → reads go ≡ Err fault

-- what the fields of a line say, if nothing follows them
abbrev pub Reads : Result Line Fault → List (List ℕ) → Result Line Fault → Type 0
Reads meant rest (Ok line) = meant ≡ end_then rest line
Reads meant rest (Err fault) = meant ≡ Err fault
