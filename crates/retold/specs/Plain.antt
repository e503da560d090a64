-- A text without comments and spare blanks: the words of each line with one blank between them, and no line that says nothing. And the two round trips.
use Rattle.std.specs.Prelude.{ℕ, ◌≤◌, ◌≡◌, List, [], ◌∷◌, ◌++◌, length, take, Ok}
use Rattle.tables.specs.Tables.{laid_at}
use Rattle.text.specs.Printed.{field}
use Rattle.state.specs.declared.Event.{Event}
use Rattle.format.specs.Format.{file_refusal}
use Rattle.writing.specs.Bytes.{file_bytes}
use Rattle.writing.specs.Held.{Bytes}
use Rattle.writing.specs.Reading.{read_out}
use Rattle.buffer.specs.Printing.{print_reply, print_left}
use Rattle.showing.specs.Shown.{ended, shown}
use Rattle.script.specs.Lines.{lines, uncommented, words}
use Rattle.composing.specs.Script.{script, script_of}
use Rattle.composing.specs.Composed.{compose_reply, compose_left}

-- a blank before each word
abbrev pub fields : List (List ℕ) → List ℕ
fields [] = []
fields (w ∷ rest) = field w ++ fields rest

-- the words of a line
abbrev pub plain_words : List (List ℕ) → List ℕ
plain_words [] = []
plain_words (w ∷ rest) = (w ++ fields rest) ++ ended

abbrev pub plain_lines : List (List ℕ) → List ℕ
plain_lines [] = []
plain_lines (line ∷ rest) = plain_words (words (uncommented line)) ++ plain_lines rest

unfoldable pub plain : List ℕ → List ℕ
plain text = plain_lines (lines text)

-- composing what `show` prints gives the file: of each file that 1 to 5 do not refuse and whose events, read to the end, meet neither 6 nor 7
abbrev pub ComposedBack : Type 0
ComposedBack = (bytes : List ℕ) → Bytes bytes → file_refusal bytes ≡ 0 → (read_out bytes).refusal ≡ 0 → (out : List ℕ) → length bytes ≤ length out
    → (compose_reply (shown bytes) (length out) ≡ Ok (length bytes)) × (compose_left (shown bytes) out ≡ laid_at 0 bytes out)

-- showing what `compose` made gives the text without comments and spare blanks: of each text that stands for a schedule
abbrev pub ShownBack : Type 0
ShownBack = (text : List ℕ) (n m : ℕ) (events : List Event) → script_of text ≡ script n m events → shown (file_bytes n m events) ≡ plain text

-- the same of what the two functions reply and leave: the bytes that `compose` says it made, from the front of its output, shown into a page that is long enough
abbrev pub ShownAgain : Type 0
ShownAgain = (text out page : List ℕ) (size : ℕ) → compose_reply text (length out) ≡ Ok size → 393216 ≤ length page
    → (print_reply 393216 (shown (take size (compose_left text out))) (length page) ≡ record { refusal = 0; size = length (plain text) })
    × (print_left 393216 (shown (take size (compose_left text out))) page ≡ laid_at 0 (plain text) page)
