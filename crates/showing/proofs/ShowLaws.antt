-- Writing the text of a file's events, turn by turn: what stands in the buffer, and what is still to be read, are the text of all.
use Rattle.std.specs.Prelude.{ℕ, zero, suc, ◌+◌, ◌-◌, ◌*◌, ◌≤◌, ◌<◌, ◌≡◌, refl, Bool, true, false, List, [], ◌++◌, eqb, length}
use Rattle.std.proofs.Common.{sym, ◌∙◌, append_assoc, append-nil, arith, ne_eqb, eq-eqb}
use Rattle.std.proofs.Math.Path.{ap}
use Rattle.std.proofs.Math.Bool.{cond}
use Rattle.text.specs.Printed.{printed_refusal}
use Rattle.text.specs.declared.page.Page.{Page}
use Rattle.text.specs.Paged.{Room, Adds}
use Rattle.text.specs.PagedLaws.{adds_next, adds_nothing, adds_text}
use Rattle.state.specs.declared.Event.{Event}
use Rattle.format.specs.Parse.{Parse}
use Rattle.format.specs.Parse.{Next, Refused, End}
use Rattle.format.specs.Format.{byte_at, file_refusal, event_at}
use Rattle.writing.specs.Bytes.{event_bytes}
use Rattle.writing.specs.Reading.{Reading, behind, turned, read_from, read_out}
use Rattle.writing.proofs.StrideLaws.{strides, numbered}
use Rattle.writing.proofs.EventsLaws.{event-least}
use Rattle.showing.specs.Shown.{bench_line, event_line, event_lines, reading_text, shown}

-- front is written, and reading goes on from `place`, in so many turns at most
pub record Shows (bytes : List ℕ) (old new : Page) (place : ℕ) : Type 0 where
  pub front : List ℕ
  pub fuel : ℕ
  pub adds : Adds front (length front) old new
  pub rest : front ++ reading_text (read_from fuel bytes place) ≡ reading_text (read_out bytes)
  pub enough : length bytes < fuel + place
  pub inside : place ≤ length bytes
  pub short : new.used + 14 ≤ 6 * place

-- no longer than it is
pub exactly : {most : ℕ} {text : List ℕ} {p q : Page} → Adds text most p q → Adds text (length text) p q
exactly w = record { wrote = record { ends = w.wrote.ends; lays = w.wrote.lays; short = omega arith; room = w.wrote.room }; long = w.long; same = w.same }

pub starts : (bytes : List ℕ) (page : Page) → 7 ≤ length bytes → page.used + 14 ≤ 42 → page.used ≤ length page.bytes.now → Shows bytes page page 7
unfolding read_out
starts bytes page long low fits =
    record { front = []; fuel = length bytes; adds = adds_nothing page fits; rest = refl; enough = omega arith; inside = long; short = omega arith }

module _ (bytes : List ℕ) (old new : Page) (place : ℕ) (s : Shows bytes old new place) where
  -- there is a turn left
  one_more : (fuel : ℕ) → length bytes < fuel + place → (f : ℕ) × (fuel ≡ suc f)
  one_more zero l = absurd (omega (arith, s.inside))
  one_more (suc f) l = (f, refl)

  abbrev left : ℕ
  left = (one_more s.fuel s.enough).0

  turn : (found : Parse) → event_at bytes place ≡ found → read_from s.fuel bytes place ≡ turned (λ n. read_from left bytes n) found
  unfolding read_from
  turn found e = ap (λ (f : ℕ). read_from f bytes place) (one_more s.fuel s.enough).1 ∙ ap (turned (λ n. read_from left bytes n)) e

  rest-by : (found : Parse) → event_at bytes place ≡ found → s.front ++ reading_text (turned (λ n. read_from left bytes n) found) ≡ reading_text (read_out bytes)
  rest-by found e = sym (ap (λ (r : Reading). s.front ++ reading_text r) (turn found e)) ∙ s.rest

  module _ (event : Event) (behind-it : ℕ) (e : event_at bytes place ≡ Next event behind-it) where
    size : behind-it ≡ place + length (event_bytes event)
    size = (strides bytes place event behind-it e).0

    pub room_for : 6 * length bytes ≤ length new.bytes.now → Room (6 * length (event_bytes event)) new
    room_for l = omega (arith, size, (strides bytes place event behind-it e).1, s.short, l)

    pub nearer : length bytes - behind-it < length bytes - place
    nearer = omega (arith, size, (strides bytes place event behind-it e).1, event-least event)

    pub goes_on : (next : Page) → Adds (event_line event) (6 * length (event_bytes event)) new next → Shows bytes old next behind-it
    goes_on next w =
        record {
          front = s.front ++ event_line event;
          fuel = left;
          adds = exactly (adds_next s.adds w);
          rest = append_assoc s.front (event_line event) (reading_text (read_from left bytes behind-it)) ∙ ap (λ (t : List ℕ). s.front ++ t) (sym one) ∙ rest-by (Next event behind-it) e;
          enough = omega (arith, (one_more s.fuel s.enough).1, s.enough, size, event-least event);
          inside = (strides bytes place event behind-it e).1;
          short = omega (arith, w.wrote.ends, w.wrote.short, size, s.short);
        }
      where
        tail : Reading
        tail = read_from left bytes behind-it

        one : reading_text (behind event tail) ≡ event_line event ++ reading_text tail
        one = append_assoc (event_line event) (event_lines tail.events) (cond (eqb tail.refusal 0) [] (printed_refusal tail.refusal))

  pub stops : (number : ℕ) → event_at bytes place ≡ Refused number → (next : Page) → Adds (printed_refusal number) 14 new next → Adds (reading_text (read_out bytes)) (6 * length bytes - old.used) old next
  stops number e next w = adds_text text (omega (arith, s.adds.wrote.ends, s.short, s.inside)) (adds_next s.adds w)
    where
      text : s.front ++ printed_refusal number ≡ reading_text (read_out bytes)
      text = sym (ap (λ (t : Bool). s.front ++ cond t [] (printed_refusal number)) (ne_eqb number 0 (numbered bytes place number e))) ∙ rest-by (Refused number) e

  pub ends : event_at bytes place ≡ End → Adds (reading_text (read_out bytes)) (6 * length bytes - old.used) old new
  ends e = adds_text (sym (append-nil s.front) ∙ rest-by End e) (omega (arith, s.adds.wrote.ends, s.short, s.inside)) s.adds

-- ---- the whole text

module _ (bytes : List ℕ) where
  by-test : (t : Bool) → eqb (file_refusal bytes) 0 ≡ t
      → shown bytes ≡ cond t (bench_line (byte_at bytes 5) (byte_at bytes 6) ++ reading_text (read_out bytes)) (printed_refusal (file_refusal bytes))
  unfolding shown
  by-test t e = ap (λ (u : Bool). cond u (bench_line (byte_at bytes 5) (byte_at bytes 6) ++ reading_text (read_out bytes)) (printed_refusal (file_refusal bytes))) e

  pub shown-refused : (k : ℕ) → k ≡ file_refusal bytes → (k ≡ 0 → ⊥) → printed_refusal k ≡ shown bytes
  shown-refused k e some = ap printed_refusal e ∙ sym (by-test false (sym (ap (λ (n : ℕ). eqb n 0) e) ∙ ne_eqb k 0 some))

  pub shown_read : file_refusal bytes ≡ 0 → bench_line (byte_at bytes 5) (byte_at bytes 6) ++ reading_text (read_out bytes) ≡ shown bytes
  shown_read z = sym (by-test true (eq-eqb (file_refusal bytes) 0 z))
