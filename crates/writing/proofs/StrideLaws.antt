-- How far an event that stands at a place reaches: as many bytes as are written of it, and none past the end. What is no event has a number.
use Rattle.std.specs.Prelude.{ℕ, ◌+◌, ◌≤◌, ◌≡◌, refl, Bool, true, false, cond, List, eqb, leb, length}
use Rattle.std.proofs.Common.{sym, ap, subst, leb-true}
use Rattle.std.proofs.lemmas.Bool.{eqb-false}
use Rattle.state.specs.declared.Event.{Event}
use Rattle.state.specs.declared.Event.TheVariants.{Read, Write, Deliver, Crash, Lose}
use Rattle.format.specs.Parse.{Parse}
use Rattle.format.specs.Parse.{Next, Refused, End}
use Rattle.format.specs.Format.{byte_at, word_at, value_of, whole, event_at}
use Rattle.writing.specs.Bytes.{event_bytes}
use Rattle.writing.proofs.SizeLaws.{read-size, write-size, deliver-size, crash-size, lose-size}

abbrev pub Stride : List ℕ → ℕ → Parse → Type 0
Stride bytes at (Next event next) = (next ≡ at + length (event_bytes event)) × (next ≤ length bytes)
Stride bytes at (Refused number) = number ≡ 0 → ⊥
Stride bytes at End = Unit {0}

whole-stride : (bytes : List ℕ) (at size : ℕ) (event : Event) → length (event_bytes event) ≡ size → Stride bytes at (whole bytes at size event)
whole-stride bytes at size event e = go (leb (at + size) (length bytes)) refl
  where
    go : (t : Bool) → leb (at + size) (length bytes) ≡ t → Stride bytes at (cond t (Next event (at + size)) (Refused 7))
    go true f = (ap (λ (n : ℕ). at + n) (sym e), leb-true (at + size) (length bytes) f)
    go false f = eqb-false 7 0 refl

either : (bytes : List ℕ) (at : ℕ) (t : Bool) (x y : Parse) → Stride bytes at x → Stride bytes at y → Stride bytes at (cond t x y)
either bytes at true x y f g = f
either bytes at false x y f g = g

pub stride : (bytes : List ℕ) (at : ℕ) → Stride bytes at (event_at bytes at)
unfolding event_at
stride bytes at =
    let kind = byte_at bytes at in
    let p = byte_at bytes (at + 1) in
    let x = byte_at bytes (at + 2) in
    let v = value_of bytes (at + 3) in
    let k = word_at bytes (at + 1) in
    either bytes at (leb (length bytes) at) End _ tt
    (either bytes at (eqb kind 1) (whole bytes at 3 (Read (record { 0 = p }) x)) _ (whole-stride bytes at 3 _ (read-size (record { 0 = p }) x))
    (either bytes at (eqb kind 2) (whole bytes at 11 (Write (record { 0 = p }) x v)) _ (whole-stride bytes at 11 _ (write-size (record { 0 = p }) x v))
    (either bytes at (eqb kind 3) (whole bytes at 5 (Deliver k)) _ (whole-stride bytes at 5 _ (deliver-size k))
    (either bytes at (eqb kind 4) (whole bytes at 2 (Crash (record { 0 = p }))) _ (whole-stride bytes at 2 _ (crash-size (record { 0 = p })))
    (either bytes at (eqb kind 5) (whole bytes at 5 (Lose k)) (Refused 6) (whole-stride bytes at 5 _ (lose-size k)) (eqb-false 6 0 refl))))))

-- of an event that was found
pub strides : (bytes : List ℕ) (at : ℕ) (event : Event) (next : ℕ) → event_at bytes at ≡ Next event next → (next ≡ at + length (event_bytes event)) × (next ≤ length bytes)
strides bytes at event next e = subst (Stride bytes at) e (stride bytes at)

pub numbered : (bytes : List ℕ) (at number : ℕ) → event_at bytes at ≡ Refused number → number ≡ 0 → ⊥
numbered bytes at number e = subst (Stride bytes at) e (stride bytes at)
