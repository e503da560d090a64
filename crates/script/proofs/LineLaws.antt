-- Lines and words from the front: the first, and then those of what is behind it.
use Rattle.std.specs.Prelude.{ℕ, suc, ◌+◌, ◌-◌, ◌≤◌, ◌<◌, ◌≡◌, refl, Bool, true, false, cond, not, List, [], ◌∷◌, eqb, ltb, length, take, drop, min, Some, None}
use Rattle.std.specs.List.{position, position_or_len}
use Rattle.std.specs.Option.{unwrap_or}
use Rattle.std.proofs.Common.{sym, ap, ◌∙◌, arith, length-drop}
use Rattle.std.proofs.Math.Decide.{dec_le}
use Rattle.std.proofs.lemmas.Bool.{ltb-false}
use Rattle.std.proofs.lemmas.Grind.{common_steps}
use Rattle.std.proofs.lemmas.List.Recursion.{is_position_or_len}
use Rattle.script.specs.Lines.{before, behind, longer, newline, lines, is_blank, goes_on, words, word, past_word, past_blanks}
pub use Rattle.script.specs.ScanLaws.{at-end}

-- ---- lines

abbrev pub lines_from : List ℕ → List (List ℕ)
lines_from [] = []
lines_from (b ∷ rest) = before newline (b ∷ rest) ∷ lines (behind newline (b ∷ rest))

line-behind : (b : ℕ) (rest : List ℕ) → lines rest ≡ lines_from rest → longer b (lines rest) ≡ (b ∷ before newline rest) ∷ lines (behind newline rest)
line-behind b [] e = refl
line-behind b (c ∷ rest) e = ap (longer b) e

pub lines-front : (text : List ℕ) → lines text ≡ lines_from text
lines-front [] = refl
lines-front (b ∷ rest) = go (eqb b newline) (line-behind b rest (lines-front rest))
  where
    go : (t : Bool) → longer b (lines rest) ≡ (b ∷ before newline rest) ∷ lines (behind newline rest)
        → cond t ([] ∷ lines rest) (longer b (lines rest)) ≡ cond t [] (b ∷ before newline rest) ∷ lines (cond t rest (behind newline rest))
    go true later = refl
    go false later = later

pub lines-first : (text : List ℕ) → 1 ≤ length text → lines text ≡ before newline text ∷ lines (behind newline text)
lines-first [] l = absurd (omega arith)
lines-first (b ∷ rest) l = lines-front (b ∷ rest)

-- ---- words

abbrev pub words_from : List ℕ → List (List ℕ)
words_from [] = []
words_from (b ∷ rest) = word (b ∷ rest) ∷ words (past_word (b ∷ rest))

-- a word that goes on, and one that ends
word_on : (b : ℕ) (rest : List ℕ) → is_blank b ≡ false → words rest ≡ words_from (past_blanks rest)
    → cond (goes_on rest) (longer b (words rest)) ((b ∷ []) ∷ words rest) ≡ (b ∷ word rest) ∷ words (past_word rest)
word_on b [] e later = refl
word_on b (c ∷ rest) e later = go (is_blank c) refl later
  where
    go : (t : Bool) → is_blank c ≡ t → words (c ∷ rest) ≡ words_from (cond t (past_blanks rest) (c ∷ rest))
        → cond (not t) (longer b (words (c ∷ rest))) ((b ∷ []) ∷ words (c ∷ rest)) ≡ (b ∷ cond t [] (c ∷ word rest)) ∷ words (cond t (c ∷ rest) (past_word rest))
    go true f l = refl
    go false f l =
        ap (longer b) l ∙ ap (λ (t : Bool). (b ∷ cond t [] (c ∷ word rest)) ∷ words (past_word (c ∷ rest))) f
        ∙ ap (λ (t : Bool). (b ∷ (c ∷ word rest)) ∷ words (cond t (c ∷ rest) (past_word rest))) f

pub words-front : (line : List ℕ) → words line ≡ words_from (past_blanks line)
words-front [] = refl
words-front (b ∷ rest) = go (is_blank b) refl (words-front rest)
  where
    go : (t : Bool) → is_blank b ≡ t → words rest ≡ words_from (past_blanks rest)
        → cond t (words rest) (cond (goes_on rest) (longer b (words rest)) ((b ∷ []) ∷ words rest)) ≡ words_from (cond t (past_blanks rest) (b ∷ rest))
    go true e later = later
    go false e later =
        word_on b rest e later ∙ sym (ap (λ (t : Bool). cond t [] (b ∷ word rest) ∷ words (cond t (b ∷ rest) (past_word rest))) e)

-- ---- what is taken from the front

pub take-before : (byte : ℕ) (text : List ℕ) → take (length (before byte text)) text ≡ before byte text
take-before byte [] = refl
take-before byte (b ∷ rest) = go (eqb b byte) (take-before byte rest)
  where
    go : (t : Bool) → take (length (before byte rest)) rest ≡ before byte rest → take (length (cond t [] (b ∷ before byte rest))) (b ∷ rest) ≡ cond t [] (b ∷ before byte rest)
    go true later = refl
    go false later = ap (λ (l : List ℕ). b ∷ l) later

pub before-within : (byte : ℕ) (text : List ℕ) → length (before byte text) ≤ length text
before-within byte [] = omega arith
before-within byte (b ∷ rest) = go (eqb b byte) (before-within byte rest)
  where
    go : (t : Bool) → length (before byte rest) ≤ length rest → length (cond t [] (b ∷ before byte rest)) ≤ length (b ∷ rest)
    go true later = omega arith
    go false later = omega (arith, later)

-- behind the byte, which is one place further on
pub drop-behind : (byte : ℕ) (text : List ℕ) → drop (suc (length (before byte text))) text ≡ behind byte text
drop-behind byte [] = refl
drop-behind byte (b ∷ rest) = go (eqb b byte) (drop-behind byte rest)
  where
    go : (t : Bool) → drop (suc (length (before byte rest))) rest ≡ behind byte rest → drop (suc (length (cond t [] (b ∷ before byte rest)))) (b ∷ rest) ≡ cond t rest (behind byte rest)
    go true later = refl
    go false later = later

pub take-word : (line : List ℕ) → take (length (word line)) line ≡ word line
take-word [] = refl
take-word (b ∷ rest) = go (is_blank b) (take-word rest)
  where
    go : (t : Bool) → take (length (word rest)) rest ≡ word rest → take (length (cond t [] (b ∷ word rest))) (b ∷ rest) ≡ cond t [] (b ∷ word rest)
    go true later = refl
    go false later = ap (λ (l : List ℕ). b ∷ l) later

pub drop-word : (line : List ℕ) → drop (length (word line)) line ≡ past_word line
drop-word [] = refl
drop-word (b ∷ rest) = go (is_blank b) (drop-word rest)
  where
    go : (t : Bool) → drop (length (word rest)) rest ≡ past_word rest → drop (length (cond t [] (b ∷ word rest))) (b ∷ rest) ≡ cond t (b ∷ rest) (past_word rest)
    go true later = refl
    go false later = later

some-from : (line : List ℕ) → 0 < length line → words_from line ≡ word line ∷ words (past_word line)
some-from [] some = absurd (omega (arith, some))
some-from (b ∷ rest) some = refl

-- ---- the places where the code cuts

pub before-length : (byte : ℕ) (text : List ℕ) → length (before byte text) ≡ position_or_len (λ b. eqb b byte) text
before-length byte = is_position_or_len (λ text. length (before byte text)) (λ b. eqb b byte) refl (λ b rest. go b rest (eqb b byte))
  where
    go : (b : ℕ) (rest : List ℕ) (t : Bool) → length (cond t [] (b ∷ before byte rest)) ≡ cond t 0 (1 + length (before byte rest))
    go b rest true = refl
    go b rest false = omega arith

pub word-length : (line : List ℕ) → length (word line) ≡ position_or_len is_blank line
word-length = is_position_or_len (λ line. length (word line)) is_blank refl (λ b rest. go b rest (is_blank b))
  where
    go : (b : ℕ) (rest : List ℕ) (t : Bool) → length (cond t [] (b ∷ word rest)) ≡ cond t 0 (1 + length (word rest))
    go b rest true = refl
    go b rest false = omega arith

pub drop-blanks : (line : List ℕ) → drop (position_or_len (λ b. not (is_blank b)) line) line ≡ past_blanks line
drop-blanks [] = refl
drop-blanks (b ∷ rest) = go (is_blank b) (drop-blanks rest)
  where
    go : (t : Bool) → drop (position_or_len (λ b. not (is_blank b)) rest) rest ≡ past_blanks rest
        → drop (cond (not (not t)) (1 + position_or_len (λ b. not (is_blank b)) rest) 0) (b ∷ rest) ≡ cond t (past_blanks rest) (b ∷ rest)
    go true later = ap (λ n. drop n (b ∷ rest)) (let e : 1 + position_or_len (λ b. not (is_blank b)) rest ≡ suc (position_or_len (λ b. not (is_blank b)) rest) = omega arith in e) ∙ later
    go false later = refl

take-all : (text : List ℕ) (n : ℕ) → length text ≤ n → take n text ≡ text
take-all text n l = search (arith, common_steps)

found-is : (n most i : ℕ) → cond (ltb n most) (Some n) None ≡ Some i → n ≡ i
found-is n most i = go (ltb n most)
  where
    go : (t : Bool) → cond t (Some n) None ≡ Some i → n ≡ i
    go true e = cc
    go false e = cc

none-is : (n most : ℕ) → cond (ltb n most) (Some n) None ≡ None → most ≤ n
none-is n most e = go (ltb n most) refl e
  where
    go : (t : Bool) → ltb n most ≡ t → cond t (Some n) None ≡ None → most ≤ n
    go true f q = cc
    go false f q = ltb-false n most f

word-within : (line : List ℕ) → length (word line) ≤ length line
word-within [] = omega arith
word-within (b ∷ rest) = go (is_blank b) (word-within rest)
  where
    go : (t : Bool) → length (word rest) ≤ length rest → length (cond t [] (b ∷ word rest)) ≤ length (b ∷ rest)
    go true later = omega arith
    go false later = omega (arith, later)

or-all : (n most : ℕ) → n ≤ most → unwrap_or (cond (ltb n most) (Some n) None) most ≡ n
or-all n most l = go (ltb n most) refl
  where
    go : (t : Bool) → ltb n most ≡ t → unwrap_or (cond t (Some n) None) most ≡ n
    go true e = refl
    go false e = omega (arith, l, ltb-false n most e)

-- a text cut where the byte stands first, or at its end
module _ (byte : ℕ) (text : List ℕ) (end : ℕ) (found : end ≡ unwrap_or (position (λ b. eqb b byte) text) (length text)) where
  ends : length (before byte text) ≡ end
  ends = before-length byte text ∙ sym (or-all (position_or_len (λ b. eqb b byte) text) (length text) (omega (arith, before-length byte text, before-within byte text))) ∙ sym found

  pub end-front : take end text ≡ before byte text
  end-front = ap (λ n. take n text) (sym ends) ∙ take-before byte text

  pub end-back : (n : ℕ) → n ≡ min (end + 1) (length text) → take (length text - n) (drop n text) ≡ behind byte text
  end-back n is =
      take-all (drop n text) (length text - n) (omega (arith, length-drop n text))
      ∙ elim (dec_le (end + 1) (length text)) [
        | yes inside ↦ ap (λ n. drop n text) (let e : n ≡ suc (length (before byte text)) = omega (arith, is, ends, inside) in e)
        | no past ↦ at-end text n (omega (arith, is, past)) ∙ sym (at-end text (suc (length (before byte text))) (omega (arith, ends, past)))
      ]
      ∙ drop-behind byte text

-- a text cut where the byte was found, and where it was not
module _ (byte : ℕ) (text : List ℕ) where
  module _ (i : ℕ) (found : position (λ b. eqb b byte) text ≡ Some i) where
    place : length (before byte text) ≡ i
    place = before-length byte text ∙ found-is (position_or_len (λ b. eqb b byte) text) (length text) i found

    pub cut-front : take i text ≡ before byte text
    cut-front = ap (λ n. take n text) (sym place) ∙ take-before byte text

    pub cut-back : take (length text - (i + 1)) (drop (i + 1) text) ≡ behind byte text
    cut-back = take-all (drop (i + 1) text) (length text - (i + 1)) (omega (arith, length-drop (i + 1) text)) ∙ ap (λ n. drop n text) (let e : i + 1 ≡ suc (length (before byte text)) = omega (arith, place) in e) ∙ drop-behind byte text

  module _ (none : position (λ b. eqb b byte) text ≡ None) where
    all-of-it : length text ≤ length (before byte text)
    all-of-it = omega (arith, before-length byte text, none-is (position_or_len (λ b. eqb b byte) text) (length text) none)

    pub whole-front : text ≡ before byte text
    whole-front = sym (take-all text (length (before byte text)) all-of-it) ∙ take-before byte text

    pub whole-back : [] ≡ behind byte text
    whole-back = sym (at-end text (suc (length (before byte text))) (omega (arith, all-of-it))) ∙ drop-behind byte text

-- ---- the next word of a line

module _ (line : List ℕ) where
  pub no_words : position (λ b. not (is_blank b)) line ≡ None → words line ≡ []
  no_words none =
      words-front line
      ∙ ap words_from (sym (drop-blanks line) ∙ at-end line (position_or_len (λ b. not (is_blank b)) line) (none-is (position_or_len (λ b. not (is_blank b)) line) (length line) none))

  -- a word starts behind the blanks
  module _ (start end : ℕ) (found : position (λ b. not (is_blank b)) line ≡ Some start) (e : end ≡ unwrap_or (position is_blank (drop start line)) (length (drop start line))) where
    rest-is : drop start line ≡ past_blanks line
    rest-is = ap (λ n. drop n line) (sym (found-is (position_or_len (λ b. not (is_blank b)) line) (length line) start found)) ∙ drop-blanks line

    long : end ≡ length (word (drop start line))
    long =
        e ∙ or-all (position_or_len is_blank (drop start line)) (length (drop start line)) (omega (arith, word-length (drop start line), word-within (drop start line)))
        ∙ sym (word-length (drop start line))

    behind-word : drop end (drop start line) ≡ past_word (drop start line)
    behind-word = ap (λ n. drop n (drop start line)) long ∙ drop-word (drop start line)

    pub next-behind : drop end (drop start line) ≡ past_word (past_blanks line)
    next-behind = behind-word ∙ ap past_word rest-is

  pub next-word : (start end : ℕ) → position (λ b. not (is_blank b)) line ≡ Some start → start < length line → end ≡ unwrap_or (position is_blank (drop start line)) (length (drop start line))
      → words line ≡ take end (drop start line) ∷ words (drop end (drop start line))
  next-word start end found l e =
      words-front line ∙ ap words_from (sym (rest-is start end found e)) ∙ some-from (drop start line) (omega (arith, length-drop start line, l))
      ∙ ap (λ w. w ∷ words (past_word (drop start line))) (sym (ap (λ n. take n (drop start line)) (long start end found e) ∙ take-word (drop start line)))
      ∙ ap (λ r. take end (drop start line) ∷ words r) (sym (behind-word start end found e))

  pub word_inside : (start end : ℕ) → end ≡ unwrap_or (position is_blank (drop start line)) (length (drop start line)) → end ≤ length (drop start line)
  word_inside start end e = omega (arith, e ∙ or-all (position_or_len is_blank (drop start line)) (length (drop start line)) within, within)
    where
      within : position_or_len is_blank (drop start line) ≤ length (drop start line)
      within = omega (arith, word-length (drop start line), word-within (drop start line))
