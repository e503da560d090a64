-- Composing what `show` prints gives the file.
use Rattle.std.specs.Prelude.{ℕ, suc, ◌+◌, ◌≤◌, ◌<◌, ◌≡◌, refl, Bool, true, cond, not, List, [], ◌∷◌, ◌++◌, eqb, ltb, leb, length, Result, Ok, Err}
use Rattle.std.proofs.Common.{sym, ap, ◌∙◌, append-nil, arith, length-append, le-ltb, leb-true}
use Rattle.words.specs.Ranges.{within}
use Rattle.words.specs.RangeLaws.{and_right}
use Rattle.text.specs.Printed.{decimal, printed_refusal}
use Rattle.state.specs.declared.Event.{Event}
use Rattle.format.specs.Format.{byte_at, file_refusal}
use Rattle.writing.specs.Bytes.{event_bytes, events_bytes}
use Rattle.writing.specs.Held.{Bytes, HeldAll}
use Rattle.writing.specs.Reading.{read_out}
use Rattle.writing.proofs.SizeLaws.{file-size}
use Rattle.writing.proofs.RoundTripLaws.{opened as opened-file, written_back, laid-back}
use Rattle.showing.specs.Shown.{word_bench, bench_line, event_line, event_lines, shown}
use Rattle.showing.proofs.ShowLaws.{shown_read}
use Rattle.script.specs.declared.Fault.{Fault}
use Rattle.script.specs.declared.Fault.TheVariants.{Processes, Registers, TooLong}
use Rattle.script.specs.declared.Line.{Line}
use Rattle.script.specs.Lines.{lines}
use Rattle.composing.specs.declared.NotComposed.TheVariants.{Short}
use Rattle.composing.specs.Script.{listed, faulty, preceded, followed, following, Script, script, wrong, as_script, opened, opening, script_of}
use Rattle.composing.specs.Composed.{replied, left, compose_reply, compose_left}
use Rattle.retold.specs.Plain.{fields, ComposedBack}
use Rattle.retold.proofs.WordLaws.{line-back}
use Rattle.retold.proofs.FieldLaws.{head_word, field_words, event-line, bench-line, head-word, field-words, event-back, bench-words, bench-word, bench-back}
use Rattle.retold.specs.HeldLaws.{held_out}

-- ---- the lines of the events

pub events-back : (i size : ℕ) (events : List Event) → HeldAll events → size + length (events_bytes events) ≤ 65536 → following i size (lines (event_lines events)) ≡ listed events
events-back i size [] h l = refl
events-back i size (e ∷ rest) h l =
    ap (following i size) parted ∙ ap (λ (x : Result Line Fault). followed i size x (λ more. following (suc i) more (lines (event_lines rest)))) (event-back e h.0)
    ∙ ap (λ (t : Bool). cond t (faulty i TooLong) (preceded e (following (suc i) (size + length (event_bytes e)) (lines (event_lines rest))))) (le-ltb 65536 (size + length (event_bytes e)) (omega (arith, l, length-append (event_bytes e) (events_bytes rest))))
    ∙ ap (preceded e) (events-back (suc i) (size + length (event_bytes e)) rest h.1 (omega (arith, l, length-append (event_bytes e) (events_bytes rest))))
  where
    parted : lines (event_line e ++ event_lines rest) ≡ (head_word e ++ fields (field_words e)) ∷ lines (event_lines rest)
    parted = ap (λ (line : List ℕ). lines (line ++ event_lines rest)) (event-line e) ∙ line-back (head_word e) (field_words e) (event_lines rest) (head-word e) (field-words e h.0)

-- ---- the whole text

below : (n most : ℕ) → most < 256 → within n most ≡ true → n < 256
below n most l e = omega (arith, l, leb-true n most (and_right (not (eqb n 0)) (leb n most) e))

pub script-back : (n m : ℕ) (events : List Event) → within n 7 ≡ true → within m 16 ≡ true → HeldAll events → 7 + length (events_bytes events) ≤ 65536
    → script_of (bench_line n m ++ event_lines events) ≡ script n m events
unfolding script_of
script-back n m events en em h l =
    ap (opening 1) parted ∙ ap (λ (x : Result Line Fault). opened 1 x (opening 2 (lines (event_lines events))) (lines (event_lines events))) (bench-back n m (below n 7 (omega arith) en) (below m 16 (omega arith) em))
    ∙ ap (λ (t : Bool). cond (not t) (wrong 1 Processes) (cond (not (within m 16)) (wrong 1 Registers) (as_script n m (following 2 7 (lines (event_lines events)))))) en
    ∙ ap (λ (t : Bool). cond (not t) (wrong 1 Registers) (as_script n m (following 2 7 (lines (event_lines events))))) em
    ∙ ap (as_script n m) (events-back 2 7 events h l)
  where
    fields-of : List (List ℕ)
    fields-of = decimal n ∷ (decimal m ∷ [])

    parted : lines (bench_line n m ++ event_lines events) ≡ (word_bench ++ fields fields-of) ∷ lines (event_lines events)
    parted =
        ap (λ (line : List ℕ). lines (line ++ event_lines events)) (bench-line n m)
        ∙ line-back word_bench fields-of (event_lines events) bench-word (bench-words n m (below n 7 (omega arith) en) (below m 16 (omega arith) em))

-- ---- of a file

module _ (bytes : List ℕ) (held : Bytes bytes) (z : file_refusal bytes ≡ 0) (meets : (read_out bytes).refusal ≡ 0) where
  abbrev n : ℕ
  n = byte_at bytes 5

  abbrev m : ℕ
  m = byte_at bytes 6

  abbrev events : List Event
  events = (read_out bytes).events

  text-is : shown bytes ≡ bench_line n m ++ event_lines events
  text-is =
      sym (shown_read bytes z) ∙ ap (λ (k : ℕ). bench_line n m ++ (event_lines events ++ cond (eqb k 0) [] (printed_refusal k))) meets
      ∙ ap (λ (l : List ℕ). bench_line n m ++ l) (append-nil (event_lines events))

  pub shown-script : script_of (shown bytes) ≡ script n m events
  shown-script =
      let o = opened-file bytes z in
      ap script_of text-is
      ∙ script-back n m events o.processes o.registers (held_out bytes held) (omega (arith, o.short, file-size n m events, ap length (written_back bytes held z meets)))

pub composed-back : ComposedBack
unfolding compose_reply compose_left
composed-back bytes held z meets out room = (
  ap (λ (x : Script). replied x (length out)) is ∙ ap (λ (file : List ℕ). cond (ltb (length out) (length file)) (Err Short) (Ok (length file))) (written_back bytes held z meets)
      ∙ ap (λ (t : Bool). cond t (Err Short) (Ok (length bytes))) (le-ltb (length out) (length bytes) room),
  ap (λ (x : Script). left x out) is ∙ laid-back bytes held z meets out room,
)
  where
    is : script_of (shown bytes) ≡ script (byte_at bytes 5) (byte_at bytes 6) (read_out bytes).events
    is = shown-script bytes held z meets
