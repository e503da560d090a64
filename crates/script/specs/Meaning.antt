-- What a line says: `bench N M`, `read P X`, `write P X V`, `deliver K`, `crash P`, `lose K`, nothing, or what is wrong with it. Words are read from the left, and the first
-- that is wrong is given.
use Rattle.std.specs.Prelude.{ℕ, Bool, true, false, cond, ◌&&◌, List, [], ◌∷◌, eqb, ℤ, Result, Ok, Err}
use Rattle.state.specs.declared.Event.TheVariants.{Read, Write, Deliver, Crash, Lose}
use Rattle.showing.specs.Shown.{word_bench, word_read, word_write, word_deliver, word_crash, word_lose}
use Rattle.script.specs.declared.Fault.{Fault}
use Rattle.script.specs.declared.Fault.TheVariants.{Unknown, Missing, TooMany}
use Rattle.script.specs.declared.Head.{Head}
use Rattle.script.specs.declared.Head.TheVariants as H
use Rattle.script.specs.declared.Line.{Line}
use Rattle.script.specs.declared.Line.TheVariants.{Blank, Bench, Does}
use Rattle.script.specs.Lines.{words, uncommented}
use Rattle.script.specs.Numbers.{figure_of, amount_of}

-- the next step on what was read, or what is wrong
abbrev pub and_then : {X Y : Type 0} → Result X Fault → (X → Result Y Fault) → Result Y Fault
and_then (Ok x) go = go x
and_then (Err fault) go = Err fault

-- ---- the first word

abbrev pub same : List ℕ → List ℕ → Bool
same [] [] = true
same [] (b ∷ bs) = false
same (a ∷ as₁) [] = false
same (a ∷ as₁) (b ∷ bs) = eqb a b && same as₁ bs

unfoldable pub head_of : List ℕ → Result Head Fault
head_of w =
    cond (same w word_bench) (Ok H.Bench)
    (cond (same w word_read) (Ok H.Read)
    (cond (same w word_write) (Ok H.Write)
    (cond (same w word_deliver) (Ok H.Deliver)
    (cond (same w word_crash) (Ok H.Crash)
    (cond (same w word_lose) (Ok H.Lose) (Err Unknown))))))

-- ---- the words behind it: each is taken, and what follows is said by `go`

abbrev pub number_then : ℕ → List (List ℕ) → (ℕ → List (List ℕ) → Result Line Fault) → Result Line Fault
number_then most [] go = Err Missing
number_then most (w ∷ rest) go = and_then (figure_of most w) (λ n. go n rest)

abbrev pub value_then : List (List ℕ) → (ℤ → List (List ℕ) → Result Line Fault) → Result Line Fault
value_then [] go = Err Missing
value_then (w ∷ rest) go = and_then (amount_of w) (λ v. go v rest)

-- two bytes; a number of 32 bits
abbrev pub two_then : List (List ℕ) → (ℕ → ℕ → List (List ℕ) → Result Line Fault) → Result Line Fault
two_then ws go = number_then 255 ws (λ p rest. number_then 255 rest (λ x last. go p x last))

abbrev pub word_then : List (List ℕ) → (ℕ → List (List ℕ) → Result Line Fault) → Result Line Fault
word_then ws go = number_then 4294967295 ws go

-- nothing more
abbrev pub end_then : List (List ℕ) → Line → Result Line Fault
end_then [] line = Ok line
end_then (w ∷ rest) line = Err TooMany

unfoldable pub fields_of : Head → List (List ℕ) → Result Line Fault
fields_of H.Bench ws = two_then ws (λ n m rest. end_then rest (Bench n m))
fields_of H.Read ws = two_then ws (λ p x rest. end_then rest (Does (Read (record { 0 = p }) x)))
fields_of H.Write ws = two_then ws (λ p x rest. value_then rest (λ v last. end_then last (Does (Write (record { 0 = p }) x v))))
fields_of H.Deliver ws = word_then ws (λ k rest. end_then rest (Does (Deliver k)))
fields_of H.Crash ws = number_then 255 ws (λ p rest. end_then rest (Does (Crash (record { 0 = p }))))
fields_of H.Lose ws = word_then ws (λ k rest. end_then rest (Does (Lose k)))

-- ---- the line

abbrev pub meaning : List (List ℕ) → Result Line Fault
meaning [] = Ok Blank
meaning (w ∷ rest) = and_then (head_of w) (λ head. fields_of head rest)

unfoldable pub line_of : List ℕ → Result Line Fault
line_of line = meaning (words (uncommented line))
