-- What is read from bytes is held: its numbers are those of the code's types.
use Rattle.std.specs.Prelude.{ℕ, zero, suc, ◌+◌, ◌<◌, Bool, true, false, cond, List, eqb, leb, length}
use Rattle.state.specs.declared.Event.{Event}
use Rattle.state.specs.declared.Event.TheVariants.{Read, Write, Deliver, Crash, Lose}
use Rattle.format.specs.Parse.{Parse}
use Rattle.format.specs.Parse.{Next, Refused, End}
use Rattle.format.specs.Format.{byte_at, word_at, value_of, whole, event_at}
use Rattle.writing.specs.Held.{Bytes, Held, HeldAll}
use Rattle.writing.proofs.NumberLaws.{word_below, value-fits}
use Rattle.writing.specs.Reading.{Reading, turned, read_from, read_out}

abbrev HeldIn : Parse → Type 0
HeldIn (Next event next) = Held event
HeldIn (Refused number) = Unit {0}
HeldIn End = Unit {0}

whole-held : (bytes : List ℕ) (at size : ℕ) (event : Event) → Held event → HeldIn (whole bytes at size event)
whole-held bytes at size event h = go (leb (at + size) (length bytes))
  where
    go : (t : Bool) → HeldIn (cond t (Next event (at + size)) (Refused 7))
    go true = h
    go false = tt

either : (t : Bool) (x y : Parse) → HeldIn x → HeldIn y → HeldIn (cond t x y)
either true x y f g = f
either false x y f g = g

held_at : (bytes : List ℕ) → Bytes bytes → (at : ℕ) → HeldIn (event_at bytes at)
unfolding event_at
held_at bytes held at =
    let kind = byte_at bytes at in
    let p = byte_at bytes (at + 1) in
    let x = byte_at bytes (at + 2) in
    let word : (i : ℕ) → word_at bytes i < 4294967296 = λ i. word_below (byte_at bytes i) (byte_at bytes (i + 1)) (byte_at bytes (i + 2)) (byte_at bytes (i + 3)) (held i) (held (i + 1)) (held (i + 2)) (held (i + 3)) in
    let value = value-fits (word_at bytes (at + 3)) (word_at bytes (at + 3 + 4)) (word (at + 3)) (word (at + 3 + 4)) in
    either (leb (length bytes) at) End _ tt
    (either (eqb kind 1) (whole bytes at 3 (Read (record { 0 = p }) x)) _ (whole-held bytes at 3 (Read (record { 0 = p }) x) (held (at + 1), held (at + 2)))
    (either (eqb kind 2) (whole bytes at 11 (Write (record { 0 = p }) x (value_of bytes (at + 3)))) _
    (whole-held bytes at 11 (Write (record { 0 = p }) x (value_of bytes (at + 3))) (held (at + 1), (held (at + 2), value)))
    (either (eqb kind 3) (whole bytes at 5 (Deliver (word_at bytes (at + 1)))) _ (whole-held bytes at 5 (Deliver (word_at bytes (at + 1))) (word (at + 1)))
    (either (eqb kind 4) (whole bytes at 2 (Crash (record { 0 = p }))) _ (whole-held bytes at 2 (Crash (record { 0 = p })) (held (at + 1)))
    (either (eqb kind 5) (whole bytes at 5 (Lose (word_at bytes (at + 1)))) (Refused 6) (whole-held bytes at 5 (Lose (word_at bytes (at + 1))) (word (at + 1))) tt)))))

turned-held : (go : ℕ → Reading) (found : Parse) → HeldIn found → ((n : ℕ) → HeldAll (go n).events) → HeldAll (turned go found).events
turned-held go End h later = tt
turned-held go (Refused number) h later = tt
turned-held go (Next event next) h later = (h, later next)

held-from : (fuel : ℕ) (bytes : List ℕ) → Bytes bytes → (at : ℕ) → HeldAll (read_from fuel bytes at).events
unfolding read_from
held-from zero bytes held at = tt
held-from (suc fuel) bytes held at = turned-held (λ next. read_from fuel bytes next) (event_at bytes at) (held_at bytes held at) (λ n. held-from fuel bytes held n)

pub held_out : (bytes : List ℕ) → Bytes bytes → HeldAll (read_out bytes).events
unfolding read_out
held_out bytes held = held-from (length bytes) bytes held 7
