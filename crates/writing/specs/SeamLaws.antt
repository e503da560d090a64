-- The event at a place, from the bytes that stand from there on: `format` finds it as it would at the front of them, further on by the place.
use Rattle.std.specs.Prelude.{ℕ, ◌+◌, ◌*◌, ◌≤◌, ◌≡◌, refl, Bool, true, false, cond, List, ◌++◌, eqb, leb, ℤ, length}
use Rattle.std.proofs.Common.{◌∙◌, arith, length-append, get_or-append-add, to_z, leb-true, leb-false}
use Rattle.std.proofs.Math.Path.{ap}
use Rattle.std.specs.Int.{w64}
use Rattle.state.specs.declared.Event.{Event}
use Rattle.state.specs.declared.Event.TheVariants.{Read, Write, Deliver, Crash, Lose}
use Rattle.format.specs.Parse.{Parse}
use Rattle.format.specs.Parse.{Next, Refused, End}
use Rattle.format.specs.Format.{byte_at, word_at, value_of, event_at}

-- so many places further on
abbrev pub further : ℕ → Parse → Parse
further by End = End
further by (Refused number) = Refused number
further by (Next event at) = Next event (by + at)

-- what is found, from the tests and the parts
abbrev found : Bool → ℕ → Bool → Bool → Bool → Bool → ℕ → ℕ → ℤ → ℕ → ℕ → Parse
found ended kind three eleven five two p x v k at =
    cond ended End
    (cond (eqb kind 1) (cond three (Next (Read (record { 0 = p }) x) (at + 3)) (Refused 7))
    (cond (eqb kind 2) (cond eleven (Next (Write (record { 0 = p }) x v) (at + 11)) (Refused 7))
    (cond (eqb kind 3) (cond five (Next (Deliver k) (at + 5)) (Refused 7))
    (cond (eqb kind 4) (cond two (Next (Crash (record { 0 = p })) (at + 2)) (Refused 7))
    (cond (eqb kind 5) (cond five (Next (Lose k) (at + 5)) (Refused 7)) (Refused 6))))))

-- the same over five events and the tests alone
abbrev tested : Bool → Bool → Bool → Bool → Bool → Bool → Bool → Bool → Bool → Bool → Event → Event → Event → Event → Event → ℕ → Parse
tested ended k1 k2 k3 k4 k5 three eleven five two r w d c l at =
    cond ended End
    (cond k1 (cond three (Next r (at + 3)) (Refused 7))
    (cond k2 (cond eleven (Next w (at + 11)) (Refused 7))
    (cond k3 (cond five (Next d (at + 5)) (Refused 7))
    (cond k4 (cond two (Next c (at + 2)) (Refused 7))
    (cond k5 (cond five (Next l (at + 5)) (Refused 7)) (Refused 6))))))

by_tests : (ended k1 k2 k3 k4 k5 three eleven five two : Bool) (r w d c l : Event) (at : ℕ)
    → tested ended k1 k2 k3 k4 k5 three eleven five two r w d c l at ≡ further at (tested ended k1 k2 k3 k4 k5 three eleven five two r w d c l 0)
by_tests true k1 k2 k3 k4 k5 three eleven five two r w d c l at = refl
by_tests false true k2 k3 k4 k5 true eleven five two r w d c l at = refl
by_tests false true k2 k3 k4 k5 false eleven five two r w d c l at = refl
by_tests false false true k3 k4 k5 three true five two r w d c l at = refl
by_tests false false true k3 k4 k5 three false five two r w d c l at = refl
by_tests false false false true k4 k5 three eleven true two r w d c l at = refl
by_tests false false false true k4 k5 three eleven false two r w d c l at = refl
by_tests false false false false true k5 three eleven five true r w d c l at = refl
by_tests false false false false true k5 three eleven five false r w d c l at = refl
by_tests false false false false false true three eleven true two r w d c l at = refl
by_tests false false false false false true three eleven false two r w d c l at = refl
by_tests false false false false false false three eleven five two r w d c l at = refl

found-further : (ended : Bool) (kind : ℕ) (three eleven five two : Bool) (p x : ℕ) (v : ℤ) (k at : ℕ)
    → found ended kind three eleven five two p x v k at ≡ further at (found ended kind three eleven five two p x v k 0)
found-further ended kind three eleven five two p x v k at =
    by_tests ended (eqb kind 1) (eqb kind 2) (eqb kind 3) (eqb kind 4) (eqb kind 5) three eleven five two (Read (record { 0 = p }) x) (Write (record { 0 = p }) x v) (Deliver k) (Crash (record { 0 = p })) (Lose k) at

-- two orders that say the same are one test
same_test : (a b c d : ℕ) → (a ≤ b → c ≤ d) → (c ≤ d → a ≤ b) → leb a b ≡ leb c d
same_test a b c d to from = go (leb a b) refl (leb c d) refl
  where
    go : (t : Bool) → leb a b ≡ t → (u : Bool) → leb c d ≡ u → t ≡ u
    go true e true f = refl
    go true e false f = let l : c ≤ d = to (leb-true a b e) in absurd (omega (arith, l, leb-false c d f))
    go false e true f = let l : a ≤ b = from (leb-true c d f) in absurd (omega (arith, l, leb-false a b e))
    go false e false f = refl

module _ (front rest : List ℕ) where
  byte-on : (i : ℕ) → byte_at (front ++ rest) (length front + i) ≡ byte_at rest i
  byte-on i = get_or-append-add front rest i 0

  byte-here : byte_at (front ++ rest) (length front) ≡ byte_at rest 0
  byte-here = let same : length front ≡ length front + 0 = omega arith in ap (byte_at (front ++ rest)) same ∙ byte-on 0

  -- a byte further on than a place further on
  byte_past : (i j k : ℕ) → i + j ≡ k → byte_at (front ++ rest) (length front + i + j) ≡ byte_at rest k
  byte_past i j k e = let same : length front + i + j ≡ length front + k = omega (arith, e) in ap (byte_at (front ++ rest)) same ∙ byte-on k

  word_on : (i : ℕ) → word_at (front ++ rest) (length front + i) ≡ word_at rest i
  word_on i =
      ap (λ (b : ℕ). ((b * 256 + byte_at (front ++ rest) (length front + i + 1)) * 256 + byte_at (front ++ rest) (length front + i + 2)) * 256 + byte_at (front ++ rest) (length front + i + 3)) (byte-on i)
      ∙ ap (λ (b : ℕ). ((byte_at rest i * 256 + b) * 256 + byte_at (front ++ rest) (length front + i + 2)) * 256 + byte_at (front ++ rest) (length front + i + 3)) (byte_past i 1 (i + 1) refl)
      ∙ ap (λ (b : ℕ). ((byte_at rest i * 256 + byte_at rest (i + 1)) * 256 + b) * 256 + byte_at (front ++ rest) (length front + i + 3)) (byte_past i 2 (i + 2) refl)
      ∙ ap (λ (b : ℕ). ((byte_at rest i * 256 + byte_at rest (i + 1)) * 256 + byte_at rest (i + 2)) * 256 + b) (byte_past i 3 (i + 3) refl)

  value_on : value_of (front ++ rest) (length front + 3) ≡ value_of rest 3
  value_on =
      ap (λ (k : ℕ). to_z w64 (k * 4294967296 + word_at (front ++ rest) (length front + 3 + 4))) (word_on 3)
      ∙ ap (λ (k : ℕ). to_z w64 (word_at rest 3 * 4294967296 + k)) (ap (word_at (front ++ rest)) same ∙ word_on 7)
    where
      same : length front + 3 + 4 ≡ length front + 7
      same = omega arith

  long : length (front ++ rest) ≡ length front + length rest
  long = length-append front rest

  ended-on : leb (length (front ++ rest)) (length front) ≡ leb (length rest) 0
  ended-on = same_test (length (front ++ rest)) (length front) (length rest) 0 (λ l. omega (arith, long, l)) (λ l. omega (arith, long, l))

  size-on : (size : ℕ) → leb (length front + size) (length (front ++ rest)) ≡ leb (0 + size) (length rest)
  size-on size = same_test (length front + size) (length (front ++ rest)) (0 + size) (length rest) (λ l. omega (arith, long, l)) (λ l. omega (arith, long, l))

  abbrev here : Bool → ℕ → Bool → Bool → Bool → Bool → ℕ → ℕ → ℤ → ℕ → Parse
  here ended kind three eleven five two p x v k = found ended kind three eleven five two p x v k (length front)

  abbrev all : List ℕ
  all = front ++ rest

  abbrev place : ℕ
  place = length front

  pub event-on : event_at (front ++ rest) (length front) ≡ further (length front) (event_at rest 0)
  unfolding event_at
  event-on =
      ap (λ (t : Bool). here t (byte_at all place) (leb (place + 3) (length all)) (leb (place + 11) (length all)) (leb (place + 5) (length all)) (leb (place + 2) (length all)) (byte_at all (place + 1)) (byte_at all (place + 2)) (value_of all (place + 3)) (word_at all (place + 1))) ended-on
      ∙ ap (λ (kind : ℕ). here (leb (length rest) 0) kind (leb (place + 3) (length all)) (leb (place + 11) (length all)) (leb (place + 5) (length all)) (leb (place + 2) (length all)) (byte_at all (place + 1)) (byte_at all (place + 2)) (value_of all (place + 3)) (word_at all (place + 1))) byte-here
      ∙ ap (λ (t : Bool). here (leb (length rest) 0) (byte_at rest 0) t (leb (place + 11) (length all)) (leb (place + 5) (length all)) (leb (place + 2) (length all)) (byte_at all (place + 1)) (byte_at all (place + 2)) (value_of all (place + 3)) (word_at all (place + 1))) (size-on 3)
      ∙ ap (λ (t : Bool). here (leb (length rest) 0) (byte_at rest 0) (leb 3 (length rest)) t (leb (place + 5) (length all)) (leb (place + 2) (length all)) (byte_at all (place + 1)) (byte_at all (place + 2)) (value_of all (place + 3)) (word_at all (place + 1))) (size-on 11)
      ∙ ap (λ (t : Bool). here (leb (length rest) 0) (byte_at rest 0) (leb 3 (length rest)) (leb 11 (length rest)) t (leb (place + 2) (length all)) (byte_at all (place + 1)) (byte_at all (place + 2)) (value_of all (place + 3)) (word_at all (place + 1))) (size-on 5)
      ∙ ap (λ (t : Bool). here (leb (length rest) 0) (byte_at rest 0) (leb 3 (length rest)) (leb 11 (length rest)) (leb 5 (length rest)) t (byte_at all (place + 1)) (byte_at all (place + 2)) (value_of all (place + 3)) (word_at all (place + 1))) (size-on 2)
      ∙ ap (λ (p : ℕ). here (leb (length rest) 0) (byte_at rest 0) (leb 3 (length rest)) (leb 11 (length rest)) (leb 5 (length rest)) (leb 2 (length rest)) p (byte_at all (place + 2)) (value_of all (place + 3)) (word_at all (place + 1))) (byte-on 1)
      ∙ ap (λ (x : ℕ). here (leb (length rest) 0) (byte_at rest 0) (leb 3 (length rest)) (leb 11 (length rest)) (leb 5 (length rest)) (leb 2 (length rest)) (byte_at rest 1) x (value_of all (place + 3)) (word_at all (place + 1))) (byte-on 2)
      ∙ ap (λ (v : ℤ). here (leb (length rest) 0) (byte_at rest 0) (leb 3 (length rest)) (leb 11 (length rest)) (leb 5 (length rest)) (leb 2 (length rest)) (byte_at rest 1) (byte_at rest 2) v (word_at all (place + 1))) value_on
      ∙ ap (λ (k : ℕ). here (leb (length rest) 0) (byte_at rest 0) (leb 3 (length rest)) (leb 11 (length rest)) (leb 5 (length rest)) (leb 2 (length rest)) (byte_at rest 1) (byte_at rest 2) (value_of rest 3) k) (word_on 1)
      ∙ found-further (leb (length rest) 0) (byte_at rest 0) (leb 3 (length rest)) (leb 11 (length rest)) (leb 5 (length rest)) (leb 2 (length rest)) (byte_at rest 1) (byte_at rest 2) (value_of rest 3) (word_at rest 1) place
