-- Words with one blank between them, and the end of the line: read, they are the line and its words again.
use Rattle.std.specs.Prelude.{ℕ, suc, ◌≤◌, ◌<◌, ◌≡◌, refl, Bool, true, false, cond, not, ◌&&◌, ◌||◌, List, [], ◌∷◌, ◌++◌, eqb, ℤ, pos, negsuc, length}
use Rattle.std.proofs.Common.{sym, ap, ◌∙◌, true≢false, append_assoc, append-nil, arith, eq-eqb, ne_eqb, SFits}
use Rattle.std.proofs.lemmas.Bool.{not-true}
use Rattle.std.specs.Int.{w64}
use Rattle.words.specs.RangeLaws.{and_left, and_right}
use Rattle.text.specs.Printed.{decimal, signed}
use Rattle.text.specs.DigitLaws.{tens}
use Rattle.showing.specs.Shown.{ended}
use Rattle.script.specs.Lines.{before, behind, newline, lines, hash, uncommented, is_blank, words, word, past_word, past_blanks}
use Rattle.script.proofs.LineLaws.{lines-first, words_from, words-front}
use Rattle.script.specs.Numbers.{is_digit, digits_only, is_number}
use Rattle.script.specs.NumberLaws.{digit-least, number_digits}
use Rattle.retold.specs.Plain.{fields, plain_words}
use Rattle.retold.specs.DecimalLaws.{decimal-number}

-- ---- a text before a byte that it has not

abbrev pub lacks : ℕ → List ℕ → Bool
lacks byte [] = true
lacks byte (b ∷ rest) = not (eqb b byte) && lacks byte rest

lacks_both : (byte : ℕ) (a b : List ℕ) → lacks byte a ≡ true → lacks byte b ≡ true → lacks byte (a ++ b) ≡ true
lacks_both byte [] b e f = f
lacks_both byte (c ∷ rest) b e f =
    ap (λ (t : Bool). t && lacks byte (rest ++ b)) (and_left (not (eqb c byte)) (lacks byte rest) e) ∙ lacks_both byte rest b (and_right (not (eqb c byte)) (lacks byte rest) e) f

other : (byte c : ℕ) (rest : List ℕ) → lacks byte (c ∷ rest) ≡ true → eqb c byte ≡ false
other byte c rest e = not-true (eqb c byte) (and_left (not (eqb c byte)) (lacks byte rest) e)

before-seam : (byte : ℕ) (a rest : List ℕ) → lacks byte a ≡ true → before byte (a ++ (byte ∷ rest)) ≡ a
before-seam byte [] rest e = ap (λ (t : Bool). cond t [] (byte ∷ before byte rest)) (eq-eqb byte byte refl)
before-seam byte (c ∷ a) rest e =
    ap (λ (t : Bool). cond t [] (c ∷ before byte (a ++ (byte ∷ rest)))) (other byte c a e) ∙ ap (λ (l : List ℕ). c ∷ l) (before-seam byte a rest (and_right (not (eqb c byte)) (lacks byte a) e))

behind-seam : (byte : ℕ) (a rest : List ℕ) → lacks byte a ≡ true → behind byte (a ++ (byte ∷ rest)) ≡ rest
behind-seam byte [] rest e = ap (λ (t : Bool). cond t rest (behind byte rest)) (eq-eqb byte byte refl)
behind-seam byte (c ∷ a) rest e =
    ap (λ (t : Bool). cond t (a ++ (byte ∷ rest)) (behind byte (a ++ (byte ∷ rest)))) (other byte c a e) ∙ behind-seam byte a rest (and_right (not (eqb c byte)) (lacks byte a) e)

before-all : (byte : ℕ) (a : List ℕ) → lacks byte a ≡ true → before byte a ≡ a
before-all byte [] e = refl
before-all byte (c ∷ a) e = ap (λ (t : Bool). cond t [] (c ∷ before byte a)) (other byte c a e) ∙ ap (λ (l : List ℕ). c ∷ l) (before-all byte a (and_right (not (eqb c byte)) (lacks byte a) e))

-- ---- words

abbrev pub plain_byte : ℕ → Bool
plain_byte b = not (is_blank b) && (not (eqb b newline) && not (eqb b hash))

abbrev pub wordy : List ℕ → Bool
wordy [] = true
wordy (b ∷ rest) = plain_byte b && wordy rest

abbrev pub IsWord : List ℕ → Type 0
IsWord [] = ⊥
IsWord (b ∷ rest) = wordy (b ∷ rest) ≡ true

abbrev pub AreWords : List (List ℕ) → Type 0
AreWords [] = Unit {0}
AreWords (w ∷ rest) = IsWord w × AreWords rest

word-plain : (w : List ℕ) → IsWord w → wordy w ≡ true
word-plain [] x = absurd x
word-plain (b ∷ rest) x = x

wordy-lacks : (w : List ℕ) → wordy w ≡ true → (lacks newline w ≡ true) × (lacks hash w ≡ true)
wordy-lacks [] e = (refl, refl)
wordy-lacks (b ∷ rest) e =
    let here = and_left (plain_byte b) (wordy rest) e in
    let ends = and_right (not (is_blank b)) (not (eqb b newline) && not (eqb b hash)) here in
    let later = wordy-lacks rest (and_right (plain_byte b) (wordy rest) e) in (
      ap (λ (t : Bool). t && lacks newline rest) (and_left (not (eqb b newline)) (not (eqb b hash)) ends) ∙ later.0,
      ap (λ (t : Bool). t && lacks hash rest) (and_right (not (eqb b newline)) (not (eqb b hash)) ends) ∙ later.1,
    )

fields-lack : (ws : List (List ℕ)) → AreWords ws → (lacks newline (fields ws) ≡ true) × (lacks hash (fields ws) ≡ true)
fields-lack [] x = (refl, refl)
fields-lack (w ∷ rest) x =
    let here = wordy-lacks w (word-plain w x.0) in
    let later = fields-lack rest x.1 in
    (lacks_both newline w (fields rest) here.0 later.0, lacks_both hash w (fields rest) here.1 later.1)

line-lacks : (w : List ℕ) (ws : List (List ℕ)) → IsWord w → AreWords ws → (lacks newline (w ++ fields ws) ≡ true) × (lacks hash (w ++ fields ws) ≡ true)
line-lacks w ws x y =
    let here = wordy-lacks w (word-plain w x) in
    let later = fields-lack ws y in
    (lacks_both newline w (fields ws) here.0 later.0, lacks_both hash w (fields ws) here.1 later.1)

-- ---- the line

some_more : (a : List ℕ) (b : ℕ) (rest : List ℕ) → 1 ≤ length (a ++ (b ∷ rest))
some_more [] b rest = omega arith
some_more (c ∷ a) b rest = omega arith

pub line-back : (w : List ℕ) (ws : List (List ℕ)) (rest : List ℕ) → IsWord w → AreWords ws → lines (plain_words (w ∷ ws) ++ rest) ≡ (w ++ fields ws) ∷ lines rest
line-back w ws rest x y =
    ap lines (append_assoc (w ++ fields ws) ended rest) ∙ lines-first ((w ++ fields ws) ++ (newline ∷ rest)) (some_more (w ++ fields ws) newline rest)
    ∙ ap (λ (l : List ℕ). l ∷ lines (behind newline ((w ++ fields ws) ++ (newline ∷ rest)))) (before-seam newline (w ++ fields ws) rest (line-lacks w ws x y).0)
    ∙ ap (λ (l : List ℕ). (w ++ fields ws) ∷ lines l) (behind-seam newline (w ++ fields ws) rest (line-lacks w ws x y).0)

-- ---- its words

no-blank : (b : ℕ) (rest : List ℕ) → wordy (b ∷ rest) ≡ true → is_blank b ≡ false
no-blank b rest e = not-true (is_blank b) (and_left (not (is_blank b)) (not (eqb b newline) && not (eqb b hash)) (and_left (plain_byte b) (wordy rest) e))

word-seam : (w rest : List ℕ) → wordy w ≡ true → word (w ++ (32 ∷ rest)) ≡ w
word-seam [] rest e = refl
word-seam (b ∷ w) rest e = ap (λ (t : Bool). cond t [] (b ∷ word (w ++ (32 ∷ rest)))) (no-blank b w e) ∙ ap (λ (l : List ℕ). b ∷ l) (word-seam w rest (and_right (plain_byte b) (wordy w) e))

past-seam : (w rest : List ℕ) → wordy w ≡ true → past_word (w ++ (32 ∷ rest)) ≡ 32 ∷ rest
past-seam [] rest e = refl
past-seam (b ∷ w) rest e =
    ap (λ (t : Bool). cond t (b ∷ (w ++ (32 ∷ rest))) (past_word (w ++ (32 ∷ rest)))) (no-blank b w e) ∙ past-seam w rest (and_right (plain_byte b) (wordy w) e)

word-all : (w : List ℕ) → wordy w ≡ true → word w ≡ w
word-all [] e = refl
word-all (b ∷ w) e = ap (λ (t : Bool). cond t [] (b ∷ word w)) (no-blank b w e) ∙ ap (λ (l : List ℕ). b ∷ l) (word-all w (and_right (plain_byte b) (wordy w) e))

past_all : (w : List ℕ) → wordy w ≡ true → past_word w ≡ []
past_all [] e = refl
past_all (b ∷ w) e = ap (λ (t : Bool). cond t (b ∷ w) (past_word w)) (no-blank b w e) ∙ past_all w (and_right (plain_byte b) (wordy w) e)

-- a line that begins with no blank
front-word : (b : ℕ) (rest : List ℕ) → is_blank b ≡ false → words (b ∷ rest) ≡ word (b ∷ rest) ∷ words (past_word (b ∷ rest))
front-word b rest e = words-front (b ∷ rest) ∙ ap (λ (t : Bool). words_from (cond t (past_blanks rest) (b ∷ rest))) e

one_word : (w : List ℕ) → IsWord w → words w ≡ w ∷ []
one_word [] x = absurd x
one_word (b ∷ w) x =
    front-word b w (no-blank b w x) ∙ ap (λ (l : List ℕ). l ∷ words (past_word (b ∷ w))) (word-all (b ∷ w) x) ∙ ap (λ (l : List ℕ). (b ∷ w) ∷ words l) (past_all (b ∷ w) x)

next_word : (w rest : List ℕ) → IsWord w → words (w ++ (32 ∷ rest)) ≡ w ∷ words rest
next_word [] rest x = absurd x
next_word (b ∷ w) rest x =
    front-word b (w ++ (32 ∷ rest)) (no-blank b w x) ∙ ap (λ (l : List ℕ). l ∷ words (past_word ((b ∷ w) ++ (32 ∷ rest)))) (word-seam (b ∷ w) rest x)
    ∙ ap (λ (l : List ℕ). (b ∷ w) ∷ words l) (past-seam (b ∷ w) rest x)

split-words : (w : List ℕ) (ws : List (List ℕ)) → IsWord w → AreWords ws → words (w ++ fields ws) ≡ w ∷ ws
split-words w [] x y = ap words (append-nil w) ∙ one_word w x
split-words w (v ∷ ws) x y = next_word w (v ++ fields ws) x ∙ ap (λ (l : List (List ℕ)). w ∷ l) (split-words v ws y.0 y.1)

pub words_back : (w : List ℕ) (ws : List (List ℕ)) → IsWord w → AreWords ws → words (uncommented (w ++ fields ws)) ≡ w ∷ ws
words_back w ws x y = ap words (before-all hash (w ++ fields ws) (line-lacks w ws x y).1) ∙ split-words w ws x y

-- ---- numbers are words

digit-plain : (b : ℕ) → is_digit b ≡ true → plain_byte b ≡ true
digit-plain b e =
    let least = digit-least b e in
    let apart : (k : ℕ) → k < 48 → eqb b k ≡ false = λ k l. ne_eqb b k (λ (z : b ≡ k). omega (arith, least, l, z)) in
    plain_by (eqb b 32) (eqb b 9) (eqb b newline) (eqb b hash) (apart 32 (omega arith)) (apart 9 (omega arith)) (apart newline (omega arith)) (apart hash (omega arith))
  where
    plain_by : (s t n h : Bool) → s ≡ false → t ≡ false → n ≡ false → h ≡ false → (not (s || t) && (not n && not h)) ≡ true
    plain_by false false false false e f g i = refl
    plain_by true t n h e f g i = absurd (true≢false e)
    plain_by false true n h e f g i = absurd (true≢false f)
    plain_by false false true h e f g i = absurd (true≢false g)
    plain_by false false false true e f g i = absurd (true≢false i)

digits-plain : (w : List ℕ) → digits_only w ≡ true → wordy w ≡ true
digits-plain [] e = refl
digits-plain (b ∷ rest) e =
    ap (λ (t : Bool). t && wordy rest) (digit-plain b (and_left (is_digit b) (digits_only rest) e)) ∙ digits-plain rest (and_right (is_digit b) (digits_only rest) e)

number_word : (w : List ℕ) → is_number w ≡ true → IsWord w
number_word [] e = absurd (true≢false (sym e))
number_word (b ∷ rest) e = digits-plain (b ∷ rest) (number_digits (b ∷ rest) e)

pub decimal-word : (n : ℕ) → n < tens 20 → IsWord (decimal n)
decimal-word n l = number_word (decimal n) (decimal-number n l)

minus-word : (w : List ℕ) → wordy w ≡ true → IsWord (45 ∷ w)
minus-word w e = e

pub signed_word : (v : ℤ) → SFits w64 v → IsWord (signed v)
unfolding signed
signed_word (pos n) f = decimal-word n (omega (arith, f.sfits))
signed_word (negsuc n) f = minus-word (decimal (suc n)) (word-plain (decimal (suc n)) (decimal-word (suc n) (omega (arith, f.sfits))))
