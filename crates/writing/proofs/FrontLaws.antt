-- What stands at the front of a list of bytes: nothing, an event whose bytes it begins with, or bytes that are no event; and that `format` finds it.
use Rattle.std.specs.Prelude.{ℕ, suc, ◌/◌, ◌%◌, ◌≤◌, ◌<◌, ◌≡◌, refl, Bool, true, false, List, [], ◌∷◌, ◌++◌, eqb, leb, ℤ, length, get_or}
use Rattle.std.proofs.Common.{sym, ap, subst, ◌∙◌, append_assoc, arith, to_z, of_z, le-leb, eqb-true, leb-true, leb-false}
use Rattle.std.specs.Int.{w64}
use Rattle.std.proofs.lemmas.Bool.{lt-leb}
use Rattle.state.specs.declared.Event.{Event}
use Rattle.state.specs.declared.Event.TheVariants.{Read, Write, Deliver, Crash, Lose}
use Rattle.format.specs.Parse.{Next, Refused}
use Rattle.format.specs.Format.{event_at}
use Rattle.writing.specs.Bytes.{word_bytes, value_bytes, event_bytes}
use Rattle.writing.specs.Held.{Bytes, Held}
use Rattle.writing.proofs.NumberLaws.{joined, twice, word_back, word_below, word-again, value-back, value-fits, value-again}

begun : (byte : ℕ) (rest : List ℕ) → leb (length (byte ∷ rest)) 0 ≡ false
begun byte rest = lt-leb (length (byte ∷ rest)) 0 (omega arith)

-- ---- an event is found

pub event-front : (event : Event) (rest : List ℕ) → Held event → event_at (event_bytes event ++ rest) 0 ≡ Next event (length (event_bytes event))
unfolding event_at event_bytes value_bytes word_bytes
event-front (Read p x) rest held = rw (begun 1 (p.0 ∷ (x ∷ rest)), le-leb 3 (length (1 ∷ (p.0 ∷ (x ∷ rest)))) (omega arith)) refl
event-front (Write p x v) rest held =
    let high = of_z w64 v / 4294967296 in
    let low = of_z w64 v % 4294967296 in
    let bytes = event_bytes (Write p x v) ++ rest in
    rw (lt-leb (length bytes) 0 (omega arith), le-leb 11 (length bytes) (omega arith))
    (ap (λ (k : ℕ). Next (Write p x (to_z w64 (twice k (joined (low / 16777216) (low / 65536 % 256) (low / 256 % 256) (low % 256))))) 11) (word_back high)
    ∙ ap (λ (k : ℕ). Next (Write p x (to_z w64 (twice high k))) 11) (word_back low)
    ∙ ap (λ (z : ℤ). Next (Write p x z) 11) (value-back v held.1.1))
event-front (Deliver k) rest held =
    let bytes = event_bytes (Deliver k) ++ rest in
    rw (lt-leb (length bytes) 0 (omega arith), le-leb 5 (length bytes) (omega arith)) (ap (λ (j : ℕ). Next (Deliver j) 5) (word_back k))
event-front (Crash p) rest held = rw (begun 4 (p.0 ∷ rest), le-leb 2 (length (4 ∷ (p.0 ∷ rest))) (omega arith)) refl
event-front (Lose k) rest held =
    let bytes = event_bytes (Lose k) ++ rest in
    rw (lt-leb (length bytes) 0 (omega arith), le-leb 5 (length bytes) (omega arith)) (ap (λ (j : ℕ). Next (Lose j) 5) (word_back k))

-- ---- what stands at the front

pub data Seen (bytes : List ℕ) : Type 0 where
  nothing : bytes ≡ [] → Seen bytes
  event : (e : Event) (rest : List ℕ) → Held e → bytes ≡ event_bytes e ++ rest → Seen bytes
  none : (number : ℕ) → event_at bytes 0 ≡ Refused (suc number) → Seen bytes

-- four bytes and the rest
record Four (bytes : List ℕ) : Type 0 where
  a : ℕ
  b : ℕ
  c : ℕ
  d : ℕ
  rest : List ℕ
  is : bytes ≡ a ∷ (b ∷ (c ∷ (d ∷ rest)))

four : (bytes : List ℕ) → 4 ≤ length bytes → Four bytes
four [] l = absurd (omega arith)
four (a ∷ []) l = absurd (omega arith)
four (a ∷ (b ∷ [])) l = absurd (omega arith)
four (a ∷ (b ∷ (c ∷ []))) l = absurd (omega arith)
four (a ∷ (b ∷ (c ∷ (d ∷ rest)))) l = record { a = a; b = b; c = c; d = d; rest = rest; is = refl }

of-read : (rest : List ℕ) → Bytes (1 ∷ rest) → Seen (1 ∷ rest)
unfolding event_at event_bytes
of-read [] held = none 6 refl
of-read (p ∷ []) held = none 6 refl
of-read (p ∷ (x ∷ rest)) held = event (Read (record { 0 = p }) x) rest (held 1, held 2) refl

of-crash : (rest : List ℕ) → Bytes (4 ∷ rest) → Seen (4 ∷ rest)
unfolding event_at event_bytes
of-crash [] held = none 6 refl
of-crash (p ∷ rest) held = event (Crash (record { 0 = p })) rest (held 1) refl

-- the number of a message
module _ (rest : List ℕ) (held : (i : ℕ) → get_or rest i 0 < 256) where
  numbered : (f : Four rest) → (joined f.a f.b f.c f.d < 4294967296) × (rest ≡ word_bytes (joined f.a f.b f.c f.d) ++ f.rest)
  numbered f =
      let of : (i : ℕ) → get_or (f.a ∷ (f.b ∷ (f.c ∷ (f.d ∷ f.rest)))) i 0 < 256 = λ i. subst (λ (l : List ℕ). get_or l i 0 < 256) f.is (held i) in (
        word_below f.a f.b f.c f.d (of 0) (of 1) (of 2) (of 3),
        f.is ∙ sym (ap (λ (l : List ℕ). l ++ f.rest) (word-again f.a f.b f.c f.d (of 0) (of 1) (of 2) (of 3))),
      )

of-deliver : (rest : List ℕ) → Bytes (3 ∷ rest) → Seen (3 ∷ rest)
unfolding event_at event_bytes
of-deliver rest held = go (leb 4 (length rest)) refl
  where
    go : (t : Bool) → leb 4 (length rest) ≡ t → Seen (3 ∷ rest)
    go true e =
        let f = four rest (leb-true 4 (length rest) e) in
        let n = numbered rest (λ i. held (suc i)) f in
        event (Deliver (joined f.a f.b f.c f.d)) f.rest n.0 (ap (λ (l : List ℕ). 3 ∷ l) n.1)
    go false e =
        let short : length rest < 4 = leb-false 4 (length rest) e in
        none 6 (rw (begun 3 rest, lt-leb 5 (length (3 ∷ rest)) (omega arith)) refl)

of-lose : (rest : List ℕ) → Bytes (5 ∷ rest) → Seen (5 ∷ rest)
unfolding event_at event_bytes
of-lose rest held = go (leb 4 (length rest)) refl
  where
    go : (t : Bool) → leb 4 (length rest) ≡ t → Seen (5 ∷ rest)
    go true e =
        let f = four rest (leb-true 4 (length rest) e) in
        let n = numbered rest (λ i. held (suc i)) f in
        event (Lose (joined f.a f.b f.c f.d)) f.rest n.0 (ap (λ (l : List ℕ). 5 ∷ l) n.1)
    go false e =
        let short : length rest < 4 = leb-false 4 (length rest) e in
        none 6 (rw (begun 5 rest, lt-leb 5 (length (5 ∷ rest)) (omega arith)) refl)

-- process, register and value
valued : (p x : ℕ) (rest : List ℕ) → Bytes (2 ∷ (p ∷ (x ∷ rest))) → 8 ≤ length rest → Seen (2 ∷ (p ∷ (x ∷ rest)))
unfolding event_bytes
valued p x rest held long =
    let f = four rest (omega arith) in
    let n = numbered rest (λ i. held (suc (suc (suc i)))) f in
    let all : (i : ℕ) → get_or (f.a ∷ (f.b ∷ (f.c ∷ (f.d ∷ f.rest)))) i 0 < 256 = λ i. subst (λ (l : List ℕ). get_or l i 0 < 256) f.is (held (suc (suc (suc i)))) in
    let more : 4 ≤ length f.rest = omega (arith, ap length f.is) in
    let g = four f.rest more in
    let m = numbered f.rest (λ i. all (suc (suc (suc (suc i))))) g in
    let high = joined f.a f.b f.c f.d in
    let low = joined g.a g.b g.c g.d in
    event (Write (record { 0 = p }) x (to_z w64 (twice high low))) g.rest (held 1, (held 2, value-fits high low n.0 m.0))
    (ap (λ (l : List ℕ). 2 ∷ (p ∷ (x ∷ l)))
    (n.1 ∙ ap (λ (l : List ℕ). word_bytes high ++ l) m.1 ∙ sym (append_assoc (word_bytes high) (word_bytes low) g.rest) ∙ sym (ap (λ (l : List ℕ). l ++ g.rest) (value-again high low n.0 m.0))))

cut-write : (rest : List ℕ) → length rest < 10 → Seen (2 ∷ rest)
unfolding event_at
cut-write rest short = none 6 (rw (begun 2 rest, lt-leb 11 (length (2 ∷ rest)) (omega arith)) refl)

of-write : (rest : List ℕ) → Bytes (2 ∷ rest) → Seen (2 ∷ rest)
of-write [] held = cut-write [] (omega arith)
of-write (p ∷ []) held = cut-write (p ∷ []) (omega arith)
of-write (p ∷ (x ∷ rest)) held = go (leb 8 (length rest)) refl
  where
    go : (t : Bool) → leb 8 (length rest) ≡ t → Seen (2 ∷ (p ∷ (x ∷ rest)))
    go true e = valued p x rest held (leb-true 8 (length rest) e)
    go false e = let short : length rest < 8 = leb-false 8 (length rest) e in cut-write (p ∷ (x ∷ rest)) (omega arith)

unknown : (kind : ℕ) (rest : List ℕ) → eqb kind 1 ≡ false → eqb kind 2 ≡ false → eqb kind 3 ≡ false → eqb kind 4 ≡ false → eqb kind 5 ≡ false → Seen (kind ∷ rest)
unfolding event_at
unknown kind rest e1 e2 e3 e4 e5 = none 5 (rw (begun kind rest, e1, e2, e3, e4, e5) refl)

-- a kind that a test has told
told : (kind number : ℕ) (rest : List ℕ) → eqb kind number ≡ true → (Bytes (number ∷ rest) → Seen (number ∷ rest)) → Bytes (kind ∷ rest) → Seen (kind ∷ rest)
told kind number rest e f = subst (λ (k : ℕ). Bytes (k ∷ rest) → Seen (k ∷ rest)) (sym (eqb-true kind number e)) f

pub seen : (bytes : List ℕ) → Bytes bytes → Seen bytes
seen [] held = nothing refl
seen (kind ∷ rest) held = one (eqb kind 1) refl
  where
    five : (t : Bool) → eqb kind 5 ≡ t → eqb kind 1 ≡ false → eqb kind 2 ≡ false → eqb kind 3 ≡ false → eqb kind 4 ≡ false → Seen (kind ∷ rest)
    five true e e1 e2 e3 e4 = told kind 5 rest e (of-lose rest) held
    five false e e1 e2 e3 e4 = unknown kind rest e1 e2 e3 e4 e

    crash : (t : Bool) → eqb kind 4 ≡ t → eqb kind 1 ≡ false → eqb kind 2 ≡ false → eqb kind 3 ≡ false → Seen (kind ∷ rest)
    crash true e e1 e2 e3 = told kind 4 rest e (of-crash rest) held
    crash false e e1 e2 e3 = five (eqb kind 5) refl e1 e2 e3 e

    three : (t : Bool) → eqb kind 3 ≡ t → eqb kind 1 ≡ false → eqb kind 2 ≡ false → Seen (kind ∷ rest)
    three true e e1 e2 = told kind 3 rest e (of-deliver rest) held
    three false e e1 e2 = crash (eqb kind 4) refl e1 e2 e

    two : (t : Bool) → eqb kind 2 ≡ t → eqb kind 1 ≡ false → Seen (kind ∷ rest)
    two true e e1 = told kind 2 rest e (of-write rest) held
    two false e e1 = three (eqb kind 3) refl e1 e

    one : (t : Bool) → eqb kind 1 ≡ t → Seen (kind ∷ rest)
    one true e = told kind 1 rest e (of-read rest) held
    one false e = two (eqb kind 2) refl e
