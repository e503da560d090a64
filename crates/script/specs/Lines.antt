-- A text as lines, and a line as words. A text is a list of bytes; a line ends before a newline, or at the end; `#` starts a comment; words stand between blanks, which
-- are spaces and tabs.
use Rattle.std.specs.Prelude.{ℕ, Bool, false, cond, not, ◌||◌, List, [], ◌∷◌, eqb}

-- what stands before the first such byte, all of it where there is none; and what stands behind it
abbrev pub before : ℕ → List ℕ → List ℕ
before byte [] = []
before byte (b ∷ rest) = cond (eqb b byte) [] (b ∷ before byte rest)

abbrev pub behind : ℕ → List ℕ → List ℕ
behind byte [] = []
behind byte (b ∷ rest) = cond (eqb b byte) rest (behind byte rest)

-- one byte more in front of the first
abbrev pub longer : ℕ → List (List ℕ) → List (List ℕ)
longer b [] = (b ∷ []) ∷ []
longer b (first ∷ rest) = (b ∷ first) ∷ rest

abbrev pub newline : ℕ
newline = 10

abbrev pub lines : List ℕ → List (List ℕ)
lines [] = []
lines (b ∷ rest) = cond (eqb b newline) ([] ∷ lines rest) (longer b (lines rest))

abbrev pub hash : ℕ
hash = 35

abbrev pub uncommented : List ℕ → List ℕ
uncommented line = before hash line

abbrev pub is_blank : ℕ → Bool
is_blank b = eqb b 32 || eqb b 9

-- no blank comes first
abbrev pub goes_on : List ℕ → Bool
goes_on [] = false
goes_on (b ∷ rest) = not (is_blank b)

abbrev pub words : List ℕ → List (List ℕ)
words [] = []
words (b ∷ rest) = cond (is_blank b) (words rest) (cond (goes_on rest) (longer b (words rest)) ((b ∷ []) ∷ words rest))

-- the word at the front, what is behind it, and what is behind the blanks at the front
abbrev pub word : List ℕ → List ℕ
word [] = []
word (b ∷ rest) = cond (is_blank b) [] (b ∷ word rest)

abbrev pub past_word : List ℕ → List ℕ
past_word [] = []
past_word (b ∷ rest) = cond (is_blank b) (b ∷ rest) (past_word rest)

abbrev pub past_blanks : List ℕ → List ℕ
past_blanks [] = []
past_blanks (b ∷ rest) = cond (is_blank b) (past_blanks rest) (b ∷ rest)
