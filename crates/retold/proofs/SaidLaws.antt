-- What a line says, written again, is the line's words: each number that is read was written in the one way that there is.
use Rattle.std.specs.Prelude.{ℕ, suc, ◌-◌, ◌≤◌, ◌<◌, ◌≡◌, Bool, cond, ◌&&◌, ℤ, pos, negsuc, Result, Ok, Err}
use Rattle.std.proofs.Math.Path.{refl, ap}
use Rattle.std.proofs.Common.{sym, ◌∙◌, true≢false, arith, SFits}
use Rattle.std.proofs.Math.Bool.{true, false, not}
use mathlib.Core.List.{List, [], ◌∷◌}
use Rattle.std.proofs.Math.Dec.{eqb, leb}
use Rattle.std.specs.Int.{w64}
use borrow.Author.Tests.{leb-true, eqb-true, eqb-false, not-true}
use Rattle.words.specs.RangeLaws.{and_left, and_right}
use Rattle.text.specs.Printed.{decimal, signed}
use Rattle.text.specs.DigitLaws.{tens}
use Rattle.state.specs.declared.Event.TheVariants.{Read, Write, Deliver, Crash, Lose}
use Rattle.writing.specs.Held.{Held}
use Rattle.showing.specs.Shown.{word_bench, word_read, word_write, word_deliver, word_crash, word_lose, bench_line, event_line}
use Rattle.script.specs.declared.Fault.{Fault}
use Rattle.script.specs.declared.Fault.TheVariants.{Unknown, NotANumber, TooLarge}
use Rattle.script.specs.declared.Head.{Head}
use Rattle.script.specs.declared.Head.TheVariants as H
use Rattle.script.specs.declared.Line.{Line}
use Rattle.script.specs.declared.Line.TheVariants.{Blank, Bench, Does}
use Rattle.script.specs.Lines.{words, uncommented}
use Rattle.script.specs.Numbers.{is_number, value, figure_of, positive_of, negative_of, amount_of}
use Rattle.script.specs.Meaning.{same, head_of, and_then, number_then, value_then, end_then, fields_of, meaning, line_of}
use Rattle.retold.specs.Plain.{plain_words}
use Rattle.retold.specs.DecimalLaws.{decimal-back}
use Rattle.retold.proofs.FieldLaws.{event-line, bench-line}

-- the words that are written of what a line says are these; what is wrong is not written
abbrev pub SaidBy : List (List ℕ) → Result Line Fault → Type 0
SaidBy ws (Ok Blank) = plain_words ws ≡ []
SaidBy ws (Ok (Bench n m)) = bench_line n m ≡ plain_words ws
SaidBy ws (Ok (Does e)) = Held e × (event_line e ≡ plain_words ws)
SaidBy ws (Err fault) = Unit {0}

-- ---- a word that is taken off the front

module _ (P : Result Line Fault → Type 0) (wrong : (fault : Fault) → P (Err fault)) where
  figure-said : (most : ℕ) → most < tens 20 → (w : List ℕ) (go : ℕ → Result Line Fault) → ((n : ℕ) → n ≤ most → decimal n ≡ w → P (go n)) → P (and_then (figure_of most w) go)
  unfolding figure_of
  figure-said most small w go later = by (is_number w) refl (leb (value 0 w) most) refl
    where
      by : (t : Bool) → is_number w ≡ t → (u : Bool) → leb (value 0 w) most ≡ u → P (and_then (cond t (cond u (Ok (value 0 w)) (Err TooLarge)) (Err NotANumber)) go)
      by false e u f = wrong _
      by true e false f = wrong _
      by true e true f = let l : value 0 w ≤ most = leb-true (value 0 w) most f in later (value 0 w) l (decimal-back w e (omega (arith, l, small)))

  number-said : (most : ℕ) → most < tens 20 → (ws : List (List ℕ)) (go : ℕ → List (List ℕ) → Result Line Fault)
      → ((n : ℕ) (rest : List (List ℕ)) → n ≤ most → decimal n ∷ rest ≡ ws → P (go n rest)) → P (number_then most ws go)
  number-said most small [] go later = wrong _
  number-said most small (w ∷ rest) go later = figure-said most small w (λ n. go n rest) (λ n l e. later n rest l (ap (λ (v : List ℕ). v ∷ rest) e))

  positive-said : (w : List ℕ) (go : ℤ → Result Line Fault) → ((v : ℤ) → SFits w64 v → signed v ≡ w → P (go v)) → P (and_then (positive_of w) go)
  unfolding signed
  positive-said w go later = by (is_number w) refl (leb (value 0 w) 9223372036854775807) refl
    where
      by : (t : Bool) → is_number w ≡ t → (u : Bool) → leb (value 0 w) 9223372036854775807 ≡ u → P (and_then (cond t (cond u (Ok (pos (value 0 w))) (Err TooLarge)) (Err NotANumber)) go)
      by false e u f = wrong _
      by true e false f = wrong _
      by true e true f =
          let l : value 0 w ≤ 9223372036854775807 = leb-true (value 0 w) 9223372036854775807 f in
          later (pos (value 0 w)) (record { sfits = omega (arith, l) }) (decimal-back w e (omega (arith, l)))

  -- what stands behind a minus sign
  negative-said : (w : List ℕ) (go : ℤ → Result Line Fault) → ((v : ℤ) → SFits w64 v → signed v ≡ 45 ∷ w → P (go v)) → P (and_then (negative_of w) go)
  unfolding signed
  negative-said w go later = by (is_number w && not (eqb (value 0 w) 0)) refl (leb (value 0 w) 9223372036854775808) refl
    where
      by : (t : Bool) → (is_number w && not (eqb (value 0 w) 0)) ≡ t → (u : Bool) → leb (value 0 w) 9223372036854775808 ≡ u
          → P (and_then (cond t (cond u (Ok (negsuc (value 0 w - 1))) (Err TooLarge)) (Err NotANumber)) go)
      by false e u f = wrong _
      by true e false f = wrong _
      by true e true f = later (negsuc (value 0 w - 1)) (record { sfits = omega (arith, l, some) }) (ap (λ (n : ℕ). 45 ∷ decimal n) one ∙ ap (λ (v : List ℕ). 45 ∷ v) (decimal-back w number (omega (arith, l))))
        where
          number : is_number w ≡ true
          number = and_left (is_number w) (not (eqb (value 0 w) 0)) e

          some : value 0 w ≡ 0 → ⊥
          some = eqb-false (value 0 w) 0 (not-true (eqb (value 0 w) 0) (and_right (is_number w) (not (eqb (value 0 w) 0)) e))

          l : value 0 w ≤ 9223372036854775808
          l = leb-true (value 0 w) 9223372036854775808 f

          one : suc (value 0 w - 1) ≡ value 0 w
          one = omega (arith, some)

  amount-said : (w : List ℕ) (go : ℤ → Result Line Fault) → ((v : ℤ) → SFits w64 v → signed v ≡ w → P (go v)) → P (and_then (amount_of w) go)
  unfolding amount_of
  amount-said [] go later = wrong _
  amount-said (b ∷ rest) go later = by (eqb b 45) refl
    where
      by : (t : Bool) → eqb b 45 ≡ t → P (and_then (cond t (negative_of rest) (positive_of (b ∷ rest))) go)
      by true e = negative-said rest go (λ v fits same. later v fits (same ∙ ap (λ (c : ℕ). c ∷ rest) (sym (eqb-true b 45 e))))
      by false e = positive-said (b ∷ rest) go later

  value-said : (ws : List (List ℕ)) (go : ℤ → List (List ℕ) → Result Line Fault)
      → ((v : ℤ) (rest : List (List ℕ)) → SFits w64 v → signed v ∷ rest ≡ ws → P (go v rest)) → P (value_then ws go)
  value-said [] go later = wrong _
  value-said (w ∷ rest) go later = amount-said w (λ v. go v rest) (λ v fits e. later v rest fits (ap (λ (u : List ℕ). u ∷ rest) e))

  end-said : (ws : List (List ℕ)) (line : Line) → ([] ≡ ws → P (Ok line)) → P (end_then ws line)
  end-said [] line later = later refl
  end-said (w ∷ rest) line later = wrong _

-- ---- the first word

same-is : (a b : List ℕ) → same a b ≡ true → b ≡ a
same-is [] [] e = refl
same-is [] (b ∷ bs) e = absurd (true≢false (sym e))
same-is (a ∷ rest) [] e = absurd (true≢false (sym e))
same-is (a ∷ rest) (b ∷ bs) e =
    ap (λ (c : ℕ). c ∷ bs) (sym (eqb-true a b (and_left (eqb a b) (same rest bs) e))) ∙ ap (λ (l : List ℕ). a ∷ l) (same-is rest bs (and_right (eqb a b) (same rest bs) e))

abbrev HeadIs : List ℕ → Result Head Fault → Type 0
HeadIs w (Ok H.Bench) = word_bench ≡ w
HeadIs w (Ok H.Read) = word_read ≡ w
HeadIs w (Ok H.Write) = word_write ≡ w
HeadIs w (Ok H.Deliver) = word_deliver ≡ w
HeadIs w (Ok H.Crash) = word_crash ≡ w
HeadIs w (Ok H.Lose) = word_lose ≡ w
HeadIs w (Err fault) = Unit {0}

head-is : (w : List ℕ) → HeadIs w (head_of w)
unfolding head_of
head-is w =
    either word_bench (Ok H.Bench) _ (λ (e : word_bench ≡ w). e)
    (either word_read (Ok H.Read) _ (λ (e : word_read ≡ w). e)
    (either word_write (Ok H.Write) _ (λ (e : word_write ≡ w). e)
    (either word_deliver (Ok H.Deliver) _ (λ (e : word_deliver ≡ w). e)
    (either word_crash (Ok H.Crash) _ (λ (e : word_crash ≡ w). e)
    (either word_lose (Ok H.Lose) (Err Unknown) (λ (e : word_lose ≡ w). e) tt)))))
  where
    either : (known : List ℕ) (h other : Result Head Fault) → (known ≡ w → HeadIs w h) → HeadIs w other → HeadIs w (cond (same w known) h other)
    either known h other here later = by (same w known) refl
      where
        by : (t : Bool) → same w known ≡ t → HeadIs w (cond t h other)
        by true e = here (same-is w known e)
        by false e = later

-- ---- all words

module _ (w : List ℕ) (ws : List (List ℕ)) where
  abbrev Said : Result Line Fault → Type 0
  Said line = SaidBy (w ∷ ws) line

  none : (fault : Fault) → Said (Err fault)
  none fault = tt

  -- the first word, and behind it one word, two or three
  one : (head a : List ℕ) (rest : List (List ℕ)) → head ≡ w → a ∷ rest ≡ ws → [] ≡ rest → head ∷ (a ∷ []) ≡ w ∷ ws
  one head a rest h e f = ap (λ (r : List (List ℕ)). head ∷ (a ∷ r)) f ∙ ap (λ (r : List (List ℕ)). head ∷ r) e ∙ ap (λ (v : List ℕ). v ∷ ws) h

  two : (head a b : List ℕ) (rest last : List (List ℕ)) → head ≡ w → a ∷ rest ≡ ws → b ∷ last ≡ rest → [] ≡ last → head ∷ (a ∷ (b ∷ [])) ≡ w ∷ ws
  two head a b rest last h e f g =
      ap (λ (r : List (List ℕ)). head ∷ (a ∷ (b ∷ r))) g ∙ ap (λ (r : List (List ℕ)). head ∷ (a ∷ r)) f ∙ ap (λ (r : List (List ℕ)). head ∷ r) e ∙ ap (λ (v : List ℕ). v ∷ ws) h

  three : (head a b c : List ℕ) (rest more last : List (List ℕ)) → head ≡ w → a ∷ rest ≡ ws → b ∷ more ≡ rest → c ∷ last ≡ more → [] ≡ last → head ∷ (a ∷ (b ∷ (c ∷ []))) ≡ w ∷ ws
  three head a b c rest more last h e f g i =
      ap (λ (r : List (List ℕ)). head ∷ (a ∷ (b ∷ (c ∷ r)))) i ∙ ap (λ (r : List (List ℕ)). head ∷ (a ∷ (b ∷ r))) g ∙ ap (λ (r : List (List ℕ)). head ∷ (a ∷ r)) f
      ∙ ap (λ (r : List (List ℕ)). head ∷ r) e ∙ ap (λ (v : List ℕ). v ∷ ws) h

  -- two numbers of a byte each
  two_said : (go : ℕ → ℕ → List (List ℕ) → Result Line Fault)
      → ((p x : ℕ) (rest last : List (List ℕ)) → p < 256 → x < 256 → decimal p ∷ rest ≡ ws → decimal x ∷ last ≡ rest → Said (go p x last))
      → Said (number_then 255 ws (λ p rest. number_then 255 rest (λ x last. go p x last)))
  two_said go later =
      number-said Said none 255 (omega arith) ws (λ p rest. number_then 255 rest (λ x last. go p x last))
      (λ p rest lp e. number-said Said none 255 (omega arith) rest (λ x last. go p x last) (λ x last lx f. later p x rest last (omega (arith, lp)) (omega (arith, lx)) e f))

  bench-said : word_bench ≡ w → Said (fields_of H.Bench ws)
  unfolding fields_of
  bench-said h =
      two_said (λ n m rest. end_then rest (Bench n m))
      (λ n m rest last ln lm e f. end-said Said none last (Bench n m) (λ g. bench-line n m ∙ ap plain_words (two word_bench (decimal n) (decimal m) rest last h e f g)))

  read-said : word_read ≡ w → Said (fields_of H.Read ws)
  unfolding fields_of
  read-said h =
      two_said (λ p x rest. end_then rest (Does (Read (record { 0 = p }) x)))
      (λ p x rest last lp lx e f. end-said Said none last (Does (Read (record { 0 = p }) x))
      (λ g. ((lp, lx), event-line (Read (record { 0 = p }) x) ∙ ap plain_words (two word_read (decimal p) (decimal x) rest last h e f g))))

  write-said : word_write ≡ w → Said (fields_of H.Write ws)
  unfolding fields_of
  write-said h =
      two_said (λ p x rest. value_then rest (λ v last. end_then last (Does (Write (record { 0 = p }) x v))))
      (λ p x rest more lp lx e f. value-said Said none more (λ v last. end_then last (Does (Write (record { 0 = p }) x v)))
      (λ v last fits g. end-said Said none last (Does (Write (record { 0 = p }) x v))
      (λ i. ((lp, (lx, fits)), event-line (Write (record { 0 = p }) x v) ∙ ap plain_words (three word_write (decimal p) (decimal x) (signed v) rest more last h e f g i)))))

  deliver-said : word_deliver ≡ w → Said (fields_of H.Deliver ws)
  unfolding fields_of
  deliver-said h =
      number-said Said none 4294967295 (omega arith) ws (λ k rest. end_then rest (Does (Deliver k)))
      (λ k rest l e. end-said Said none rest (Does (Deliver k)) (λ f. (omega (arith, l), event-line (Deliver k) ∙ ap plain_words (one word_deliver (decimal k) rest h e f))))

  crash-said : word_crash ≡ w → Said (fields_of H.Crash ws)
  unfolding fields_of
  crash-said h =
      number-said Said none 255 (omega arith) ws (λ p rest. end_then rest (Does (Crash (record { 0 = p }))))
      (λ p rest l e. end-said Said none rest (Does (Crash (record { 0 = p })))
      (λ f. (omega (arith, l), event-line (Crash (record { 0 = p })) ∙ ap plain_words (one word_crash (decimal p) rest h e f))))

  lose-said : word_lose ≡ w → Said (fields_of H.Lose ws)
  unfolding fields_of
  lose-said h =
      number-said Said none 4294967295 (omega arith) ws (λ k rest. end_then rest (Does (Lose k)))
      (λ k rest l e. end-said Said none rest (Does (Lose k)) (λ f. (omega (arith, l), event-line (Lose k) ∙ ap plain_words (one word_lose (decimal k) rest h e f))))

  fields-said : (h : Result Head Fault) → HeadIs w h → Said (and_then h (λ head. fields_of head ws))
  unfolding fields_of
  fields-said (Ok H.Bench) e = bench-said e
  fields-said (Ok H.Read) e = read-said e
  fields-said (Ok H.Write) e = write-said e
  fields-said (Ok H.Deliver) e = deliver-said e
  fields-said (Ok H.Crash) e = crash-said e
  fields-said (Ok H.Lose) e = lose-said e
  fields-said (Err fault) e = tt

words-said : (ws : List (List ℕ)) → SaidBy ws (meaning ws)
words-said [] = refl
words-said (w ∷ ws) = fields-said w ws (head_of w) (head-is w)

pub line-said : (line : List ℕ) → SaidBy (words (uncommented line)) (line_of line)
unfolding line_of
line-said line = words-said (words (uncommented line))
