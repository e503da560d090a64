-- The text of a schedule file, as `compose` reads it: a line `bench N M`, and a line for each event. A text is a list of bytes.
use Rattle.std.specs.Prelude.{ℕ, cond, List, [], ◌∷◌, ◌++◌, eqb}
use Rattle.state.specs.declared.Event.{Event}
use Rattle.state.specs.declared.Event.TheVariants.{Read, Write, Deliver, Crash, Lose}
use Rattle.text.specs.Printed.{number, field, signed, newline, printed_refusal}
use Rattle.format.specs.Format.{byte_at, file_refusal}
use Rattle.writing.specs.Reading.{Reading, read_out}

-- ---- the words

abbrev pub word_bench : List ℕ
word_bench = 98 ∷ (101 ∷ (110 ∷ (99 ∷ (104 ∷ []))))

abbrev pub word_read : List ℕ
word_read = 114 ∷ (101 ∷ (97 ∷ (100 ∷ [])))

abbrev pub word_write : List ℕ
word_write = 119 ∷ (114 ∷ (105 ∷ (116 ∷ (101 ∷ []))))

abbrev pub word_deliver : List ℕ
word_deliver = 100 ∷ (101 ∷ (108 ∷ (105 ∷ (118 ∷ (101 ∷ (114 ∷ []))))))

abbrev pub word_crash : List ℕ
word_crash = 99 ∷ (114 ∷ (97 ∷ (115 ∷ (104 ∷ []))))

abbrev pub word_lose : List ℕ
word_lose = 108 ∷ (111 ∷ (115 ∷ (101 ∷ [])))

-- ---- the lines

abbrev pub ended : List ℕ
ended = newline ∷ []

-- bench N M
unfoldable pub bench_line : ℕ → ℕ → List ℕ
bench_line n m = word_bench ++ (number n ++ (number m ++ ended))

-- read P X, write P X V, deliver K, crash P, lose K
unfoldable pub event_line : Event → List ℕ
event_line (Read p x) = word_read ++ (number p.0 ++ (number x ++ ended))
event_line (Write p x v) = word_write ++ (number p.0 ++ (number x ++ (field (signed v) ++ ended)))
event_line (Deliver k) = word_deliver ++ (number k ++ ended)
event_line (Crash p) = word_crash ++ (number p.0 ++ ended)
event_line (Lose k) = word_lose ++ (number k ++ ended)

abbrev pub event_lines : List Event → List ℕ
event_lines [] = []
event_lines (event ∷ rest) = event_line event ++ event_lines rest

-- ---- the text of a file's bytes

-- what was read, and `refused 6` or `refused 7` where bytes that are no event were met
abbrev pub reading_text : Reading → List ℕ
reading_text r = event_lines r.events ++ cond (eqb r.refusal 0) [] (printed_refusal r.refusal)

-- a file refused by 1 to 5 prints only its number
unfoldable pub shown : List ℕ → List ℕ
shown bytes =
    cond (eqb (file_refusal bytes) 0) (bench_line (byte_at bytes 5) (byte_at bytes 6) ++ reading_text (read_out bytes))
    (printed_refusal (file_refusal bytes))
