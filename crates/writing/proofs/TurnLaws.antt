-- Reading on from a place, turn by turn, from the bytes that stand there; and the two halves of the round trip over them.
use Rattle.std.specs.Prelude.{ℕ, zero, suc, ◌+◌, ◌<◌, ◌≡◌, refl, List, [], ◌∷◌, ◌++◌, length, get_or}
use Rattle.std.proofs.Common.{sym, subst, ◌∙◌, append_assoc, arith, length-append, get_or-append-add}
use Rattle.std.proofs.Math.Path.{ap}
use Rattle.state.specs.declared.Event.{Event}
use Rattle.format.specs.Parse.{Parse}
use Rattle.format.specs.Parse.{Next, Refused, End}
use Rattle.format.specs.Format.{event_at}
use Rattle.writing.specs.Bytes.{event_bytes, events_bytes}
use Rattle.writing.specs.Held.{Bytes, Held, HeldAll}
use Rattle.writing.specs.Reading.{Reading, stopped_by, behind, turned, read_from}
use Rattle.writing.specs.SeamLaws.{further, event-on}
use Rattle.writing.proofs.FrontLaws.{Seen, nothing, event, none, event-front, seen}
use Rattle.writing.proofs.EventsLaws.{event-least}

module _ (fuel : ℕ) (front : List ℕ) where
  -- one turn, by what stands at the front of what is left
  turn_by : (rest : List ℕ) (found : Parse) → event_at rest 0 ≡ found
      → read_from (suc fuel) (front ++ rest) (length front) ≡ turned (λ next. read_from fuel (front ++ rest) next) (further (length front) found)
  unfolding read_from
  turn_by rest found e = ap (turned (λ next. read_from fuel (front ++ rest) next)) (event-on front rest ∙ ap (further (length front)) e)

  end_on : read_from (suc fuel) (front ++ []) (length front) ≡ stopped_by 0
  end_on = turn_by [] End (unfold event_at in refl)

  stop-on : (rest : List ℕ) (number : ℕ) → event_at rest 0 ≡ Refused number → read_from (suc fuel) (front ++ rest) (length front) ≡ stopped_by number
  stop-on rest number e = turn_by rest (Refused number) e

  turn_on : (e : Event) (rest : List ℕ) → Held e
      → read_from (suc fuel) (front ++ (event_bytes e ++ rest)) (length front) ≡ behind e (read_from fuel ((front ++ event_bytes e) ++ rest) (length (front ++ event_bytes e)))
  turn_on e rest held =
      turn_by (event_bytes e ++ rest) (Next e (length (event_bytes e))) (event-front e rest held)
      ∙ ap (λ (l : List ℕ). behind e (read_from fuel l (length front + length (event_bytes e)))) (sym (append_assoc front (event_bytes e) rest))
      ∙ ap (λ (k : ℕ). behind e (read_from fuel ((front ++ event_bytes e) ++ rest) k)) (sym (length-append front (event_bytes e)))

-- what was written is read
pub reads_on : (fuel : ℕ) (front : List ℕ) (events : List Event) → HeldAll events → length events < fuel
    → read_from fuel (front ++ events_bytes events) (length front) ≡ record { events = events; refusal = 0 }
reads_on zero front events held l = absurd (omega arith)
reads_on (suc fuel) front [] held l = end_on fuel front
reads_on (suc fuel) front (e ∷ rest) held l =
    turn_on fuel front e (events_bytes rest) held.0 ∙ ap (behind e) (reads_on fuel (front ++ event_bytes e) rest held.1 (omega arith))

-- what was read is written, where so many turns are enough
abbrev Back : ℕ → Type 0
Back fuel = (front rest : List ℕ) → Bytes rest → length rest < fuel → (read_from fuel (front ++ rest) (length front)).refusal ≡ 0
    → events_bytes (read_from fuel (front ++ rest) (length front)).events ≡ rest

module _ (fuel : ℕ) (later : Back fuel) (front rest : List ℕ) (held : Bytes rest) (l : length rest < suc fuel) (z : (read_from (suc fuel) (front ++ rest) (length front)).refusal ≡ 0) where
  abbrev reading : Reading
  reading = read_from (suc fuel) (front ++ rest) (length front)

  -- an event is at the front, and the rest behind it
  back-event : (e : Event) (tail : List ℕ) → Held e → rest ≡ event_bytes e ++ tail → events_bytes reading.events ≡ rest
  back-event e tail fits is =
      ap (λ (r : Reading). events_bytes r.events) turn ∙ ap (λ (bytes : List ℕ). event_bytes e ++ bytes) (later (front ++ event_bytes e) tail all less (sym (ap (λ (r : Reading). r.refusal) turn) ∙ z)) ∙ sym is
    where
      turn : reading ≡ behind e (read_from fuel ((front ++ event_bytes e) ++ tail) (length (front ++ event_bytes e)))
      turn = ap (λ (r : List ℕ). read_from (suc fuel) (front ++ r) (length front)) is ∙ turn_on fuel front e tail fits

      all : Bytes tail
      all i = subst (λ (k : ℕ). k < 256) (ap (λ (r : List ℕ). get_or r (length (event_bytes e) + i) 0) is ∙ get_or-append-add (event_bytes e) tail i 0) (held (length (event_bytes e) + i))

      less : length tail < fuel
      less = omega (arith, ap length is, length-append (event_bytes e) tail, event-least e)

  back : Seen rest → events_bytes reading.events ≡ rest
  back (nothing is) =
      ap (λ (r : List ℕ). events_bytes (read_from (suc fuel) (front ++ r) (length front)).events) is ∙ ap (λ (r : Reading). events_bytes r.events) (end_on fuel front) ∙ sym is
  back (event e tail fits is) = back-event e tail fits is
  back (none number e) = absurd (never (sym (ap (λ (r : Reading). r.refusal) (stop-on fuel front rest (suc number) e)) ∙ z))
    where
      never : suc number ≡ 0 → ⊥
      never q = omega (arith, q)

pub writes-on : (fuel : ℕ) → Back fuel
writes-on zero front rest held l z = absurd (omega arith)
writes-on (suc fuel) front rest held l z = back fuel (writes-on fuel) front rest held l z (seen rest held)
