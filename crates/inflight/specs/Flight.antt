-- The lines of the messages in flight: `message K FROM TO TIME RID`, and then `query X`, `response T P V`, `update X T P V` or `ack`. A text is a list of bytes.
use Rattle.std.specs.Prelude.{ℕ, cond, List, [], ◌∷◌, ◌++◌, eqb, length}
use Rattle.words.specs.declared.Body.{Body}
use Rattle.words.specs.declared.Body.TheVariants.{Query, Response, Update, Ack}
use Rattle.words.specs.declared.Message.{Message}
use Rattle.words.specs.declared.Pair.{Pair}
use Rattle.state.specs.State.{laid_messages}
use Rattle.text.specs.Printed.{number, field, signed, newline, printed_refusal}
use Rattle.format.specs.Format.{file_refusal}
use Rattle.schedule.specs.Opening.{opens, ran_file}

-- ---- the words

abbrev pub word_message : List ℕ
word_message = 109 ∷ (101 ∷ (115 ∷ (115 ∷ (97 ∷ (103 ∷ (101 ∷ []))))))

abbrev pub word_query : List ℕ
word_query = 113 ∷ (117 ∷ (101 ∷ (114 ∷ (121 ∷ []))))

abbrev pub word_response : List ℕ
word_response = 114 ∷ (101 ∷ (115 ∷ (112 ∷ (111 ∷ (110 ∷ (115 ∷ (101 ∷ [])))))))

abbrev pub word_update : List ℕ
word_update = 117 ∷ (112 ∷ (100 ∷ (97 ∷ (116 ∷ (101 ∷ [])))))

abbrev pub word_ack : List ℕ
word_ack = 97 ∷ (99 ∷ (107 ∷ []))

-- ---- the lines

-- T P V
abbrev pub pair_text : Pair → List ℕ
pair_text pair = number pair.stamp.time.0 ++ (number pair.stamp.process.0 ++ field (signed pair.value))

abbrev pub body_text : Body → List ℕ
body_text (Query x) = field word_query ++ number x
body_text (Response pair) = field word_response ++ pair_text pair
body_text (Update x pair) = (field word_update ++ number x) ++ pair_text pair
body_text Ack = field word_ack

-- number, sender and recipient, the sender's time, the request number, the body
unfoldable pub message_line : Message → List ℕ
message_line m =
    (word_message ++ (number m.number ++ (number m.from.0 ++ number m.to.0)))
    ++ (number m.time.0 ++ (number m.rid.0 ++ (body_text m.body ++ (newline ∷ []))))

abbrev pub message_lines : List Message → List ℕ
message_lines [] = []
message_lines (m ∷ rest) = message_line m ++ message_lines rest

-- ---- the text of a file's bytes

-- a file refused by 1 to 5 prints only its number
unfoldable pub in_flight : List ℕ → List ℕ
in_flight bytes = cond (eqb (file_refusal bytes) 0) (message_lines (ran_file bytes).state.flight) (printed_refusal (file_refusal bytes))

-- the messages that a run leaves, over a history of the right length
unfoldable pub messages_left : List ℕ → List Message → List Message
messages_left bytes messages = cond (opens (length messages) 1024 bytes) (laid_messages (ran_file bytes).state) messages
