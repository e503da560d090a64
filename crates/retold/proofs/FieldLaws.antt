-- Fields that are written and read again: numbers, values, and the words of a line.
use Rattle.std.specs.Prelude.{ℕ, suc, ◌-◌, ◌≤◌, ◌<◌, ◌≡◌, refl, Bool, true, cond, not, ◌&&◌, List, [], ◌∷◌, ◌++◌, eqb, leb, ℤ, pos, negsuc, Result, Ok, Err}
use Rattle.std.proofs.Common.{sym, ap, ◌∙◌, true≢false, append_assoc, arith, SFits, le-leb, ne_eqb}
use Rattle.std.specs.Int.{w64}
use Rattle.words.specs.RangeLaws.{and_left}
use Rattle.text.specs.Printed.{decimal, signed, field}
use Rattle.text.specs.DigitLaws.{tens}
use Rattle.state.specs.declared.Event.{Event}
use Rattle.state.specs.declared.Event.TheVariants.{Read, Write, Deliver, Crash, Lose}
use Rattle.writing.specs.Held.{Held}
use Rattle.showing.specs.Shown.{word_bench, word_read, word_write, word_deliver, word_crash, word_lose, ended, bench_line, event_line}
use Rattle.script.specs.declared.Fault.{Fault}
use Rattle.script.specs.declared.Fault.TheVariants.{NotANumber, TooLarge}
use Rattle.script.specs.declared.Line.{Line}
use Rattle.script.specs.declared.Line.TheVariants.{Bench, Does}
use Rattle.script.specs.Numbers.{is_digit, digits_only, is_number, value, figure_of, positive_of, negative_of, amount_of}
use Rattle.script.specs.NumberLaws.{digit-least, number_digits}
use Rattle.script.specs.Meaning.{head_of, and_then, number_then, value_then, two_then, end_then, fields_of, meaning, line_of}
use Rattle.retold.specs.Plain.{fields, plain_words}
use Rattle.retold.specs.DecimalLaws.{decimal-number, decimal-value}
use Rattle.retold.proofs.WordLaws.{IsWord, AreWords, words_back, decimal-word, signed_word}

-- ---- a number is read as it was written

pub figure-back : (most n : ℕ) → n ≤ most → n < tens 20 → figure_of most (decimal n) ≡ Ok n
unfolding figure_of
figure-back most n l small =
    let same = decimal-value n small in
    ap (λ (t : Bool). cond t (cond (leb (value 0 (decimal n)) most) (Ok (value 0 (decimal n))) (Err TooLarge)) (Err NotANumber)) (decimal-number n small)
    ∙ ap (λ (k : ℕ). cond (leb k most) (Ok k) (Err TooLarge)) same ∙ ap (λ (t : Bool). cond t (Ok n) (Err TooLarge)) (le-leb n most l)

positive_back : (n : ℕ) → n ≤ 9223372036854775807 → positive_of (decimal n) ≡ Ok (pos n)
positive_back n l =
    let small : n < tens 20 = omega (arith, l) in
    ap (λ (t : Bool). cond t (cond (leb (value 0 (decimal n)) 9223372036854775807) (Ok (pos (value 0 (decimal n)))) (Err TooLarge)) (Err NotANumber)) (decimal-number n small)
    ∙ ap (λ (k : ℕ). cond (leb k 9223372036854775807) (Ok (pos k)) (Err TooLarge)) (decimal-value n small) ∙ ap (λ (t : Bool). cond t (Ok (pos n)) (Err TooLarge)) (le-leb n 9223372036854775807 l)

negative_back : (n : ℕ) → n < 9223372036854775808 → negative_of (decimal (suc n)) ≡ Ok (negsuc n)
negative_back n l =
    let small : suc n < tens 20 = omega (arith, l) in
    let one : suc n - 1 ≡ n = omega arith in
    ap (λ (t : Bool). cond (t && not (eqb (value 0 (decimal (suc n))) 0)) (cond (leb (value 0 (decimal (suc n))) 9223372036854775808) (Ok (negsuc (value 0 (decimal (suc n)) - 1))) (Err TooLarge)) (Err NotANumber)) (decimal-number (suc n) small)
    ∙ ap (λ (k : ℕ). cond (not (eqb k 0)) (cond (leb k 9223372036854775808) (Ok (negsuc (k - 1))) (Err TooLarge)) (Err NotANumber)) (decimal-value (suc n) small)
    ∙ ap (λ (t : Bool). cond (not t) (cond (leb (suc n) 9223372036854775808) (Ok (negsuc (suc n - 1))) (Err TooLarge)) (Err NotANumber)) (ne_eqb (suc n) 0 (λ (z : suc n ≡ 0). omega (arith, z)))
    ∙ ap (λ (t : Bool). cond t (Ok (negsuc (suc n - 1))) (Err TooLarge)) (le-leb (suc n) 9223372036854775808 (omega (arith, l))) ∙ ap (λ (k : ℕ). Ok (negsuc k)) one

-- a word of digits has no sign
unsigned : (w : List ℕ) → is_number w ≡ true → amount_of w ≡ positive_of w
unfolding amount_of
unsigned [] e = absurd (true≢false (sym e))
unsigned (b ∷ rest) e =
    let digit = and_left (is_digit b) (digits_only rest) (number_digits (b ∷ rest) e) in
    ap (λ (t : Bool). cond t (negative_of rest) (positive_of (b ∷ rest))) (ne_eqb b 45 (λ (z : b ≡ 45). omega (arith, z, digit-least b digit)))

pub amount-back : (v : ℤ) → SFits w64 v → amount_of (signed v) ≡ Ok v
unfolding signed amount_of
amount-back (pos n) f = unsigned (decimal n) (decimal-number n (omega (arith, f.sfits))) ∙ positive_back n (omega (arith, f.sfits))
amount-back (negsuc n) f = negative_back n f.sfits

-- ---- the words of a line

abbrev pub head_word : Event → List ℕ
head_word (Read p x) = word_read
head_word (Write p x v) = word_write
head_word (Deliver k) = word_deliver
head_word (Crash p) = word_crash
head_word (Lose k) = word_lose

abbrev pub field_words : Event → List (List ℕ)
field_words (Read p x) = decimal p.0 ∷ (decimal x ∷ [])
field_words (Write p x v) = decimal p.0 ∷ (decimal x ∷ (signed v ∷ []))
field_words (Deliver k) = decimal k ∷ []
field_words (Crash p) = decimal p.0 ∷ []
field_words (Lose k) = decimal k ∷ []

-- the fields and then the end
abbrev ended_by : List (List ℕ) → List ℕ → List ℕ
ended_by [] end = end
ended_by (w ∷ rest) end = field w ++ ended_by rest end

fields-then : (ws : List (List ℕ)) (end : List ℕ) → fields ws ++ end ≡ ended_by ws end
fields-then [] end = refl
fields-then (w ∷ rest) end = append_assoc (field w) (fields rest) end ∙ ap (λ (l : List ℕ). field w ++ l) (fields-then rest end)

plain-is : (w : List ℕ) (ws : List (List ℕ)) → plain_words (w ∷ ws) ≡ w ++ ended_by ws ended
plain-is w ws = append_assoc w (fields ws) ended ∙ ap (λ (l : List ℕ). w ++ l) (fields-then ws ended)

pub event-line : (e : Event) → event_line e ≡ plain_words (head_word e ∷ field_words e)
unfolding event_line
event-line (Read p x) = sym (plain-is word_read (field_words (Read p x)))
event-line (Write p x v) = sym (plain-is word_write (field_words (Write p x v)))
event-line (Deliver k) = sym (plain-is word_deliver (field_words (Deliver k)))
event-line (Crash p) = sym (plain-is word_crash (field_words (Crash p)))
event-line (Lose k) = sym (plain-is word_lose (field_words (Lose k)))

pub bench-line : (n m : ℕ) → bench_line n m ≡ plain_words (word_bench ∷ (decimal n ∷ (decimal m ∷ [])))
unfolding bench_line
bench-line n m = sym (plain-is word_bench (decimal n ∷ (decimal m ∷ [])))

byte_word : (n : ℕ) → n < 256 → IsWord (decimal n)
byte_word n l = decimal-word n (omega (arith, l))

pub head-word : (e : Event) → IsWord (head_word e)
head-word (Read p x) = refl
head-word (Write p x v) = refl
head-word (Deliver k) = refl
head-word (Crash p) = refl
head-word (Lose k) = refl

pub field-words : (e : Event) → Held e → AreWords (field_words e)
field-words (Read p x) h = (byte_word p.0 h.0, (byte_word x h.1, tt))
field-words (Write p x v) h = (byte_word p.0 h.0, (byte_word x h.1.0, (signed_word v h.1.1, tt)))
field-words (Deliver k) h = (decimal-word k (omega (arith, h)), tt)
field-words (Crash p) h = (byte_word p.0 h, tt)
field-words (Lose k) h = (decimal-word k (omega (arith, h)), tt)

-- ---- what they say

byte-back : (n : ℕ) → n < 256 → figure_of 255 (decimal n) ≡ Ok n
byte-back n l = figure-back 255 n (omega (arith, l)) (omega (arith, l))

word_back : (k : ℕ) → k < 4294967296 → figure_of 4294967295 (decimal k) ≡ Ok k
word_back k l = figure-back 4294967295 k (omega (arith, l)) (omega (arith, l))

two_back : (p x : ℕ) (rest : List (List ℕ)) (go : ℕ → ℕ → List (List ℕ) → Result Line Fault) → p < 256 → x < 256 → two_then (decimal p ∷ (decimal x ∷ rest)) go ≡ go p x rest
two_back p x rest go l r =
    ap (λ (f : Result ℕ Fault). and_then f (λ q. number_then 255 (decimal x ∷ rest) (λ y last. go q y last))) (byte-back p l) ∙ ap (λ (f : Result ℕ Fault). and_then f (λ y. go p y rest)) (byte-back x r)

meaning-event : (e : Event) → Held e → meaning (head_word e ∷ field_words e) ≡ Ok (Does e)
unfolding head_of fields_of
meaning-event (Read p x) h = two_back p.0 x [] (λ q y rest. end_then rest (Does (Read (record { 0 = q }) y))) h.0 h.1
meaning-event (Write p x v) h =
    two_back p.0 x (signed v ∷ []) (λ q y rest. value_then rest (λ z last. end_then last (Does (Write (record { 0 = q }) y z)))) h.0 h.1.0
    ∙ ap (λ (a : Result ℤ Fault). and_then a (λ z. Ok (Does (Write p x z)))) (amount-back v h.1.1)
meaning-event (Deliver k) h = ap (λ (f : Result ℕ Fault). and_then f (λ n. Ok (Does (Deliver n)))) (word_back k h)
meaning-event (Crash p) h = ap (λ (f : Result ℕ Fault). and_then f (λ n. Ok (Does (Crash (record { 0 = n }))))) (byte-back p.0 h)
meaning-event (Lose k) h = ap (λ (f : Result ℕ Fault). and_then f (λ n. Ok (Does (Lose n)))) (word_back k h)

pub event-back : (e : Event) → Held e → line_of (head_word e ++ fields (field_words e)) ≡ Ok (Does e)
unfolding line_of
event-back e h = ap meaning (words_back (head_word e) (field_words e) (head-word e) (field-words e h)) ∙ meaning-event e h

pub bench-words : (n m : ℕ) → n < 256 → m < 256 → AreWords (decimal n ∷ (decimal m ∷ []))
bench-words n m l r = (byte_word n l, (byte_word m r, tt))

pub bench-word : IsWord word_bench
bench-word = refl

pub bench-back : (n m : ℕ) → n < 256 → m < 256 → line_of (word_bench ++ fields (decimal n ∷ (decimal m ∷ []))) ≡ Ok (Bench n m)
unfolding line_of head_of fields_of
bench-back n m l r =
    ap meaning (words_back word_bench (decimal n ∷ (decimal m ∷ [])) refl (bench-words n m l r)) ∙ two_back n m [] (λ a b rest. end_then rest (Bench a b)) l r
