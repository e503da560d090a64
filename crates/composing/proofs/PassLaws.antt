-- The passes over a text, line by line: what is left to do, from the first of the lines that are left and those behind it.
use Rattle.std.specs.Prelude.{ℕ, suc, ◌+◌, ◌≤◌, ◌≡◌, refl, Bool, true, false, cond, not, List, [], ◌∷◌, ◌++◌, eqb, ltb, length, Result, Ok, Err}
use Rattle.std.proofs.Common.{sym, ap, ◌∙◌, append_assoc, append-nil, arith, add-one, length-append}
use Rattle.words.specs.Ranges.{within}
use Rattle.text.specs.declared.page.Page.{Page}
use Rattle.text.specs.Paged.{Room, Adds}
use Rattle.text.specs.PagedLaws.{adds_next, adds_nothing, adds_text}
use Rattle.state.specs.declared.Event.{Event}
use Rattle.writing.specs.Bytes.{event_bytes, events_bytes}
use Rattle.script.specs.declared.Fault.{Fault}
use Rattle.script.specs.declared.Fault.TheVariants.{Processes, Registers, TooLong}
use Rattle.script.specs.declared.Line.{Line}
use Rattle.script.specs.declared.Line.TheVariants.{Blank, Bench, Does}
use Rattle.script.specs.Lines.{newline, lines, longer}
use Rattle.script.specs.Meaning.{line_of}
use Rattle.composing.specs.declared.NotComposed.{NotComposed}
use Rattle.composing.specs.declared.NotComposed.TheVariants as C
use Rattle.composing.specs.declared.Opening.{Opening}
use Rattle.composing.specs.Script.{Listed, listed, faulty, preceded, followed, following, wrong, as_script, begun, opened, opening, script_of}
use Rattle.composing.specs.Passes.{Opens, surveyed, grown, line_bytes, joined_to, events_in}

-- a text has no more lines than bytes
pub lines_few : (text : List ℕ) → length (lines text) ≤ length text
lines_few [] = omega arith
lines_few (b ∷ rest) = go (eqb b newline) (longer-few (lines rest)) (lines_few rest)
  where
    longer-few : (ls : List (List ℕ)) → length (longer b ls) ≤ length ls + 1
    longer-few [] = omega arith
    longer-few (first ∷ others) = omega arith

    go : (t : Bool) → length (longer b (lines rest)) ≤ length (lines rest) + 1 → length (lines rest) ≤ length rest → length (cond t ([] ∷ lines rest) (longer b (lines rest))) ≤ length (b ∷ rest)
    go true l m = omega (arith, m)
    go false l m = omega (arith, l, m)

module _ (ls : List (List ℕ)) (w : List ℕ) (rest : List (List ℕ)) (first : ls ≡ w ∷ rest) where
  -- ---- the line of the bench

  pub open_by : (i : ℕ) (x : Result Line Fault) → x ≡ line_of w → opening i ls ≡ opened i x (opening (i + 1) rest) rest
  open_by i x e =
      ap (opening i) first ∙ ap (λ (l : Result Line Fault). opened i l (opening (suc i) rest) rest) (sym e) ∙ ap (λ (n : ℕ). opened i x (opening n rest) rest) (sym (add-one i))

  pub open_bench : (i n m : ℕ) → Ok (Bench n m) ≡ line_of w → opening i ls ≡ begun i n m (following (i + 1) 7 rest)
  open_bench i n m e = open_by i (Ok (Bench n m)) e ∙ ap (λ (k : ℕ). begun i n m (following k 7 rest)) (sym (add-one i))

  -- ---- the lines behind it

  module _ (i size : ℕ) where
    -- what the survey of the lines says after one more line
    abbrev onward : Result ℕ Fault → Result ℕ NotComposed
    onward (Ok more) = surveyed more (following (i + 1) more rest)
    onward (Err fault) = Err (C.Wrong i fault)

    joins : (event : Event) (more : ℕ) → more ≡ size + length (event_bytes event) → (f : Listed) → surveyed more f ≡ surveyed size (preceded event f)
    joins event more e (listed events) =
        let sum : more + length (events_bytes events) ≡ size + length (event_bytes event ++ events_bytes events) = omega (arith, e, length-append (event_bytes event) (events_bytes events)) in
        ap Ok sum
    joins event more e (faulty line fault) = refl

    goes : (x : Result Line Fault) → onward (grown size x) ≡ surveyed size (followed i size x (λ more. following (i + 1) more rest))
    goes (Ok Blank) = refl
    goes (Ok (Bench n m)) = refl
    goes (Err fault) = refl
    goes (Ok (Does event)) = by (ltb 65536 (size + length (event_bytes event)))
      where
        more : ℕ
        more = size + length (event_bytes event)

        by : (t : Bool) → onward (cond t (Err TooLong) (Ok more)) ≡ surveyed size (cond t (faulty i TooLong) (preceded event (following (i + 1) more rest)))
        by true = refl
        by false = joins event more refl (following (i + 1) more rest)

    pub survey_by : (r : Result ℕ Fault) → r ≡ grown size (line_of w) → onward r ≡ surveyed size (following i size ls)
    survey_by r e =
        ap onward e ∙ goes (line_of w) ∙ ap (λ (k : ℕ). surveyed size (followed i size (line_of w) (λ more. following k more rest))) (add-one i)
        ∙ sym (ap (λ (l : List (List ℕ)). surveyed size (following i size l)) first)

  -- ---- the events among them

  pub events_next : events_in ls ≡ joined_to (line_of w) (events_in rest)
  events_next = ap events_in first

  bytes-by : (x : Result Line Fault) → line_bytes x ++ events_bytes (events_in rest) ≡ events_bytes (joined_to x (events_in rest))
  bytes-by (Ok Blank) = refl
  bytes-by (Ok (Bench n m)) = refl
  bytes-by (Ok (Does event)) = refl
  bytes-by (Err fault) = refl

  pub bytes_next : line_bytes (line_of w) ++ events_bytes (events_in rest) ≡ events_bytes (events_in ls)
  bytes_next = bytes-by (line_of w) ∙ sym (ap events_bytes events_next)

-- ---- at the end

pub survey_end : (ls : List (List ℕ)) → ls ≡ [] → (i size : ℕ) → Ok size ≡ surveyed size (following i size ls)
survey_end ls e i size =
    let same : size ≡ size + length (events_bytes []) = omega arith in
    ap Ok same ∙ sym (ap (λ (l : List (List ℕ)). surveyed size (following i size l)) e)

-- ---- N and M in range

module _ (text : List ℕ) (o : Opening) (few : o.number + length (lines o.rest.now) ≤ length (lines text)) (is : script_of text ≡ begun o.number o.n o.m (following (o.number + 1) 7 (lines o.rest.now))) where
  begun-by : (t u : Bool) → within o.n 7 ≡ t → within o.m 16 ≡ u
      → script_of text ≡ cond (not t) (wrong o.number Processes) (cond (not u) (wrong o.number Registers) (as_script o.n o.m (following (o.number + 1) 7 (lines o.rest.now))))
  begun-by t u e f =
      is ∙ ap (λ (b : Bool). cond (not b) (wrong o.number Processes) (cond (not (within o.m 16)) (wrong o.number Registers) (as_script o.n o.m (following (o.number + 1) 7 (lines o.rest.now))))) e
      ∙ ap (λ (b : Bool). cond (not t) (wrong o.number Processes) (cond (not b) (wrong o.number Registers) (as_script o.n o.m (following (o.number + 1) 7 (lines o.rest.now))))) f

  pub no-processes : within o.n 7 ≡ false → Opens text (Err (C.Wrong o.number Processes))
  no-processes e = begun-by false (within o.m 16) e refl

  pub no-registers : within o.n 7 ≡ true → within o.m 16 ≡ false → Opens text (Err (C.Wrong o.number Registers))
  no-registers e f = begun-by true false e f

  pub in-range : within o.n 7 ≡ true → within o.m 16 ≡ true → Opens text (Ok o)
  in-range e f = (few, ((e, f), begun-by true true e f))

-- ---- writing the events

-- so much is written, and these lines are left
pub record Puts (all : List (List ℕ)) (old new : Page) (left : List (List ℕ)) : Type 0 where
  pub done : List ℕ
  pub adds : Adds done (length done) old new
  pub rest : done ++ events_bytes (events_in left) ≡ events_bytes (events_in all)

pub puts_start : (all : List (List ℕ)) (page : Page) → page.used ≤ length page.bytes.now → Puts all page page all
puts_start all page fits = record { done = []; adds = adds_nothing page fits; rest = refl }

module _ (all : List (List ℕ)) (old new : Page) (left : List (List ℕ)) (s : Puts all old new left) where
  module _ (w : List ℕ) (rest : List (List ℕ)) (first : left ≡ w ∷ rest) where
    abbrev more : List ℕ
    more = line_bytes (line_of w)

    joined : (s.done ++ more) ++ events_bytes (events_in rest) ≡ events_bytes (events_in all)
    joined = append_assoc s.done more (events_bytes (events_in rest)) ∙ ap (λ (l : List ℕ). s.done ++ l) (bytes_next left w rest first) ∙ s.rest

    pub puts_room : Room (length (events_bytes (events_in all))) old → Room (length more) new
    puts_room l = omega (arith, l, s.adds.wrote.ends, s.adds.long, ap length joined, length-append (s.done ++ more) (events_bytes (events_in rest)), length-append s.done more)

    pub puts_next : (next : Page) → Adds more (length more) new next → Puts all old next rest
    puts_next next v = record { done = s.done ++ more; adds = adds_text refl (omega (arith, length-append s.done more)) (adds_next s.adds v); rest = joined }

  pub puts_end : left ≡ [] → Adds (events_bytes (events_in all)) (length (events_bytes (events_in all))) old new
  puts_end e = adds_text text-is (omega (arith, ap length text-is)) s.adds
    where
      text-is : s.done ≡ events_bytes (events_in all)
      text-is = sym (append-nil s.done) ∙ sym (ap (λ (ls : List (List ℕ)). s.done ++ events_bytes (events_in ls)) e) ∙ s.rest
