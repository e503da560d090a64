-- A text with a comment of its own line and two behind words, spare blanks in front, between and behind, and an empty line: what it stands for, and its plain text, as bytes.
use Rattle.std.specs.Prelude.{ℕ, ◌≡◌, refl, List, [], ◌∷◌, negsuc}
use Rattle.std.proofs.Common.{◌∙◌}
use Rattle.state.specs.declared.Event.{Event}
use Rattle.state.specs.declared.Event.TheVariants.{Write, Deliver}
use Rattle.writing.specs.Bytes.{word_bytes, value_bytes, event_bytes, file_bytes}
use Rattle.script.specs.Meaning.{head_of, fields_of, line_of}
use Rattle.script.specs.Numbers.{figure_of, amount_of}
use Rattle.showing.specs.Shown.{shown}
use Rattle.composing.specs.Script.{script, script_of}
use Rattle.retold.specs.Plain.{plain}
use Rattle.retold.proofs.ShownBackLaws.{shown-back}

-- `# one`, ` bench<tab>1  2 # N M`, ``, `write 1 2 -70#`, `  deliver 10<tab>`
text : List ℕ
text =
    35 ∷ 32 ∷ 111 ∷ 110 ∷ 101 ∷ 10 ∷ 32 ∷ 98 ∷ 101 ∷ 110 ∷ 99 ∷ 104 ∷ 9 ∷ 49 ∷ 32 ∷ 32 ∷ 50 ∷ 32 ∷ 35 ∷ 32 ∷ 78 ∷ 32 ∷ 77 ∷ 10 ∷ 10 ∷ 119 ∷ 114 ∷ 105 ∷ 116 ∷ 101 ∷ 32 ∷ 49 ∷ 32 ∷ 50 ∷ 32 ∷ 45 ∷ 55 ∷ 48 ∷ 35 ∷ 10 ∷ 32 ∷ 32 ∷ 100 ∷ 101 ∷ 108 ∷ 105 ∷ 118 ∷ 101 ∷ 114 ∷ 32 ∷ 49 ∷ 48 ∷ 9 ∷ 10 ∷ []

-- `bench 1 2`, `write 1 2 -70`, `deliver 10`
told : List ℕ
told = 98 ∷ 101 ∷ 110 ∷ 99 ∷ 104 ∷ 32 ∷ 49 ∷ 32 ∷ 50 ∷ 10 ∷ 119 ∷ 114 ∷ 105 ∷ 116 ∷ 101 ∷ 32 ∷ 49 ∷ 32 ∷ 50 ∷ 32 ∷ 45 ∷ 55 ∷ 48 ∷ 10 ∷ 100 ∷ 101 ∷ 108 ∷ 105 ∷ 118 ∷ 101 ∷ 114 ∷ 32 ∷ 49 ∷ 48 ∷ 10 ∷ []

events : List Event
events = Write (record { 0 = 1 }) 2 (negsuc 69) ∷ Deliver 10 ∷ []

stands-for : script_of text ≡ script 1 2 events
unfolding text events script_of line_of head_of fields_of figure_of amount_of event_bytes value_bytes word_bytes
stands-for = refl

plain-is : plain text ≡ told
unfolding text told plain
plain-is = refl

shown-is : shown (file_bytes 1 2 events) ≡ told
shown-is = shown-back text 1 2 events stands-for ∙ plain-is
