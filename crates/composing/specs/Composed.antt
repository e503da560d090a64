-- What `compose` replies, and what it leaves in the lent output: the file that `writing` makes of the schedule that the text stands for.
use Rattle.std.specs.Prelude.{ℕ, cond, List, ltb, length, Result, Ok, Err}
use Rattle.writing.specs.Bytes.{file_bytes}
use Rattle.writing.specs.Writing.{write_left}
use Rattle.composing.specs.declared.NotComposed.{NotComposed}
use Rattle.composing.specs.declared.NotComposed.TheVariants.{Wrong, Short}
use Rattle.composing.specs.Script.{Script, script, wrong, script_of}

-- the size of the file, or the line that is wrong; 19 where the output is shorter than the file
abbrev pub replied : Script → ℕ → Result ℕ NotComposed
replied (script n m events) room = cond (ltb room (length (file_bytes n m events))) (Err Short) (Ok (length (file_bytes n m events)))
replied (wrong line fault) room = Err (Wrong line fault)

abbrev pub left : Script → List ℕ → List ℕ
left (script n m events) out = write_left n m events out
left (wrong line fault) out = out

unfoldable pub compose_reply : List ℕ → ℕ → Result ℕ NotComposed
compose_reply text room = replied (script_of text) room

unfoldable pub compose_left : List ℕ → List ℕ → List ℕ
compose_left text out = left (script_of text) out
