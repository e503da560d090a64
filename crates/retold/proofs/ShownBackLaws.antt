-- Showing what `compose` made gives the text without comments and spare blanks.
use Rattle.std.specs.Prelude.{ℕ, suc, ◌+◌, ◌≤◌, ◌≡◌, Bool, true, false, cond, not, List, [], ◌∷◌, ◌++◌, eqb, ltb, leb, drop, Result, Ok, Err}
use Rattle.std.proofs.Math.Path.{refl, ap}
use Rattle.std.proofs.Common.{sym, subst, ◌∙◌, true≢false, append-nil, arith, length-append}
use Rattle.std.proofs.Math.ListN.{length, take}
use Rattle.std.proofs.Math.Seq.{take-append_seam}
use borrow.Author.Tests.{ltb-false, le-ltb, le-leb}
use Rattle.words.specs.Ranges.{within}
use Rattle.tables.specs.Tables.{laid_at}
use Rattle.state.specs.declared.Event.{Event}
use Rattle.format.specs.Format.{byte_at}
use Rattle.writing.specs.Bytes.{event_bytes, events_bytes, file_bytes}
use Rattle.writing.specs.Held.{HeldAll}
use Rattle.writing.specs.Reading.{Reading, read_out}
use Rattle.writing.specs.RoundTrip.{Reads}
use Rattle.writing.proofs.RoundTripLaws.{read_back}
use Rattle.writing.proofs.SizeLaws.{file-size}
use Rattle.writing.specs.Writing.{write_refusal, write_left}
use Rattle.buffer.specs.Printing.{print_reply, print_left}
use Rattle.showing.specs.Shown.{bench_line, event_lines, reading_text, shown}
use Rattle.showing.proofs.ShowLaws.{shown_read}
use Rattle.script.specs.declared.Fault.{Fault}
use Rattle.script.specs.declared.Fault.TheVariants.{Processes, Registers, TooLong}
use Rattle.script.specs.declared.Line.{Line}
use Rattle.script.specs.declared.Line.TheVariants.{Blank, Bench, Does}
use Rattle.script.specs.Lines.{lines, words, uncommented}
use Rattle.script.specs.Meaning.{line_of}
use Rattle.composing.specs.declared.NotComposed.{NotComposed}
use Rattle.composing.specs.declared.NotComposed.TheVariants.{Short}
use Rattle.composing.specs.Composed.{replied, left, compose_reply, compose_left}
use Rattle.composing.specs.Script.{Listed, listed, faulty, preceded, followed, following, Script, script, wrong, as_script, begun, opened, opening, script_of}
use Rattle.retold.specs.Plain.{plain_words, plain_lines, plain, ShownBack, ShownAgain}
use Rattle.retold.proofs.SaidLaws.{SaidBy, line-said}

-- ---- the lines of the events

-- the events, written line by line, are these lines, and a file of so many bytes is not too long with them
record Retells (size : ℕ) (ls : List (List ℕ)) (events : List Event) : Type 0 where
  held : HeldAll events
  short : size + length (events_bytes events) ≤ 65536
  text : event_lines events ≡ plain_lines ls

abbrev Lists : ℕ → List (List ℕ) → Listed → Type 0
Lists size ls (listed events) = Retells size ls events
Lists size ls (faulty i fault) = Unit {0}

module _ (size : ℕ) (line : List ℕ) (rest : List (List ℕ)) where
  blank-line : SaidBy (words (uncommented line)) (Ok Blank) → (f : Listed) → Lists size rest f → Lists size (line ∷ rest) f
  blank-line none (listed events) r = record { held = r.held; short = r.short; text = r.text ∙ sym (ap (λ (l : List ℕ). l ++ plain_lines rest) none) }
  blank-line none (faulty i fault) r = tt

  event-line : (e : Event) → SaidBy (words (uncommented line)) (Ok (Does e)) → (f : Listed) → Lists (size + length (event_bytes e)) rest f → Lists size (line ∷ rest) (preceded e f)
  event-line e said (listed events) r =
      record {
        held = (said.0, r.held);
        short = omega (arith, r.short, length-append (event_bytes e) (events_bytes events));
        text = ap (λ (l : List ℕ). l ++ event_lines events) said.1 ∙ ap (λ (l : List ℕ). plain_words (words (uncommented line)) ++ l) r.text;
      }
  event-line e said (faulty i fault) r = tt

lists : (i size : ℕ) (ls : List (List ℕ)) → size ≤ 65536 → Lists size ls (following i size ls)
lists i size [] l = record { held = tt; short = omega (arith, l); text = refl }
lists i size (line ∷ rest) l = go (line_of line) (line-said line) (λ (more : ℕ) (h : more ≤ 65536). lists (suc i) more rest h)
  where
    go : (x : Result Line Fault) → SaidBy (words (uncommented line)) x → ((more : ℕ) → more ≤ 65536 → Lists more rest (following (suc i) more rest))
        → Lists size (line ∷ rest) (followed i size x (λ more. following (suc i) more rest))
    go (Ok Blank) said later = blank-line size line rest said (following (suc i) size rest) (later size l)
    go (Ok (Bench n m)) said later = tt
    go (Err fault) said later = tt
    go (Ok (Does e)) said later = by (ltb 65536 more) refl
      where
        more : ℕ
        more = size + length (event_bytes e)

        by : (t : Bool) → ltb 65536 more ≡ t → Lists size (line ∷ rest) (cond t (faulty i TooLong) (preceded e (following (suc i) more rest)))
        by true f = tt
        by false f = event-line size line rest e said (following (suc i) more rest) (later more (ltb-false 65536 more f))

-- ---- the whole text

record Retold (ls : List (List ℕ)) (n m : ℕ) (events : List Event) : Type 0 where
  processes : within n 7 ≡ true
  registers : within m 16 ≡ true
  held : HeldAll events
  short : 7 + length (events_bytes events) ≤ 65536
  text : bench_line n m ++ event_lines events ≡ plain_lines ls

abbrev Scripts : List (List ℕ) → Script → Type 0
Scripts ls (script n m events) = Retold ls n m events
Scripts ls (wrong i fault) = Unit {0}

module _ (line : List ℕ) (rest : List (List ℕ)) where
  blank-first : SaidBy (words (uncommented line)) (Ok Blank) → (x : Script) → Scripts rest x → Scripts (line ∷ rest) x
  blank-first none (script n m events) r =
      record { processes = r.processes; registers = r.registers; held = r.held; short = r.short; text = r.text ∙ sym (ap (λ (l : List ℕ). l ++ plain_lines rest) none) }
  blank-first none (wrong i fault) r = tt

  bench-first : (i n m : ℕ) → SaidBy (words (uncommented line)) (Ok (Bench n m)) → (f : Listed) → Lists 7 rest f → Scripts (line ∷ rest) (begun i n m f)
  bench-first i n m said f r = by (within n 7) refl (within m 16) refl f r
    where
      by : (t : Bool) → within n 7 ≡ t → (u : Bool) → within m 16 ≡ u → (g : Listed) → Lists 7 rest g
          → Scripts (line ∷ rest) (cond (not t) (wrong i Processes) (cond (not u) (wrong i Registers) (as_script n m g)))
      by false e u d g h = tt
      by true e false d g h = tt
      by true e true d (faulty j fault) h = tt
      by true e true d (listed events) h =
          record {
            processes = e;
            registers = d;
            held = h.held;
            short = h.short;
            text = ap (λ (l : List ℕ). l ++ event_lines events) said ∙ ap (λ (l : List ℕ). plain_words (words (uncommented line)) ++ l) h.text;
          }

scripts : (i : ℕ) (ls : List (List ℕ)) → Scripts ls (opening i ls)
scripts i [] = tt
scripts i (line ∷ rest) = go (line_of line) (line-said line) (scripts (suc i) rest)
  where
    go : (x : Result Line Fault) → SaidBy (words (uncommented line)) x → Scripts rest (opening (suc i) rest) → Scripts (line ∷ rest) (opened i x (opening (suc i) rest) rest)
    go (Ok Blank) said later = blank-first line rest said (opening (suc i) rest) later
    go (Ok (Bench n m)) said later = bench-first line rest i n m said (following (suc i) 7 rest) (lists (suc i) 7 rest (omega arith))
    go (Ok (Does e)) said later = tt
    go (Err fault) said later = tt

-- ---- of its file

module _ (ls : List (List ℕ)) (n m : ℕ) (events : List Event) (r : Retold ls n m events) where
  abbrev file : List ℕ
  file = file_bytes n m events

  accepted : (room : ℕ) → length file ≤ room → write_refusal n m (length file) room ≡ 0
  unfolding write_refusal
  accepted room fits = rw (r.processes, r.registers, le-ltb 65536 (length file) (omega (arith, r.short, file-size n m events)), le-ltb room (length file) fits) refl

  reads : Reads file n m events
  reads = read_back n m events (length file) r.held (accepted (length file) (omega arith))

  shown-lines : shown file ≡ plain_lines ls
  shown-lines =
      sym (shown_read file reads.opens) ∙ ap (λ (k : ℕ). bench_line k (byte_at file 6) ++ reading_text (read_out file)) reads.processes
      ∙ ap (λ (k : ℕ). bench_line n k ++ reading_text (read_out file)) reads.registers ∙ ap (λ (x : Reading). bench_line n m ++ reading_text x) reads.all
      ∙ ap (λ (l : List ℕ). bench_line n m ++ l) (append-nil (event_lines events)) ∙ r.text

pub shown-back : ShownBack
unfolding script_of plain
shown-back text n m events is = shown-lines (lines text) n m events (subst (Scripts (lines text)) is (scripts 1 (lines text)))

-- ---- what the functions reply and leave

abbrev is_file : Result ℕ NotComposed → Bool
is_file (Ok size) = true
is_file (Err why) = false

abbrev size_of : Result ℕ NotComposed → ℕ
size_of (Ok size) = size
size_of (Err why) = 0

module _ (text out : List ℕ) (size : ℕ) where
  -- the file stands at the front
  front : (n m : ℕ) (events : List Event) → Retold (lines text) n m events → length (file_bytes n m events) ≤ length out → length (file_bytes n m events) ≡ size
      → take size (write_left n m events out) ≡ file_bytes n m events
  unfolding write_left
  front n m events r room sized =
      ap (λ (number : ℕ). take size (cond (eqb number 0) (laid_at 0 (file_bytes n m events) out) out)) (accepted (lines text) n m events r (length out) room)
      ∙ ap (λ (k : ℕ). take k (laid_at 0 (file_bytes n m events) out)) (sym sized) ∙ take-append_seam (file_bytes n m events) (drop (0 + length (file_bytes n m events)) out)

  by-script : (x : Script) → Scripts (lines text) x → replied x (length out) ≡ Ok size → shown (take size (left x out)) ≡ plain_lines (lines text)
  by-script (wrong line fault) r e = absurd (true≢false (sym (ap is_file e)))
  by-script (script n m events) r e = go (ltb (length out) (length (file_bytes n m events))) refl e
    where
      go : (t : Bool) → ltb (length out) (length (file_bytes n m events)) ≡ t → cond t (Err Short) (Ok (length (file_bytes n m events))) ≡ Ok size
          → shown (take size (write_left n m events out)) ≡ plain_lines (lines text)
      go true f g = absurd (true≢false (sym (ap is_file g)))
      go false f g =
          ap shown (front n m events r (ltb-false (length out) (length (file_bytes n m events)) f) (ap size_of g)) ∙ shown-lines (lines text) n m events r

  pub composed-shown : compose_reply text (length out) ≡ Ok size → shown (take size (compose_left text out)) ≡ plain text
  unfolding compose_reply compose_left script_of plain
  composed-shown e = by-script (script_of text) (scripts 1 (lines text)) e

pub shown-again : ShownAgain
unfolding print_reply print_left
shown-again text out page size e long = (
  ap (λ (l : List ℕ). cond (leb 393216 (length page)) (record { refusal = 0; size = length l }) (record { refusal = 19; size = 0 })) is
      ∙ ap (λ (t : Bool). cond t (record { refusal = 0; size = length (plain text) }) (record { refusal = 19; size = 0 })) enough,
  ap (λ (l : List ℕ). cond (leb 393216 (length page)) (laid_at 0 l page) page) is ∙ ap (λ (t : Bool). cond t (laid_at 0 (plain text) page) page) enough,
)
  where
    is : shown (take size (compose_left text out)) ≡ plain text
    is = composed-shown text out size e

    enough : leb 393216 (length page) ≡ true
    enough = le-leb 393216 (length page) long
