-- Where an event stands at a place, at least one byte is taken, and none past the end; past the end stands none.
use Rattle.std.specs.Prelude.{ℕ, ◌+◌, ◌<◌, ◌≤◌, ◌≡◌, refl, Bool, true, false, cond, List, eqb, leb, length}
use Rattle.std.proofs.Common.{arith, leb-true, le-leb}
use Rattle.state.specs.declared.Event.{Event}
use Rattle.state.specs.declared.Event.TheVariants.{Read, Write, Deliver, Crash, Lose}
use Rattle.format.specs.Parse.{Parse}
use Rattle.format.specs.Parse.{Next, Refused, End}
use Rattle.format.specs.Format.{byte_at, word_at, value_of, whole, event_at}

-- the place behind is further on, and within
abbrev pub Onward : List ℕ → ℕ → Parse → Type 0
Onward bytes at (Next event next) = (at < next) × (next ≤ length bytes)
Onward bytes at (Refused number) = Unit {0}
Onward bytes at End = Unit {0}

whole-onward : (bytes : List ℕ) (at size : ℕ) (event : Event) → 1 ≤ size → Onward bytes at (whole bytes at size event)
whole-onward bytes at size event l = go (leb (at + size) (length bytes)) refl
  where
    go : (b : Bool) → leb (at + size) (length bytes) ≡ b → Onward bytes at (cond b (Next event (at + size)) (Refused 7))
    go true e = (omega arith, leb-true (at + size) (length bytes) e)
    go false e = tt

either : (bytes : List ℕ) (at : ℕ) (b : Bool) (x y : Parse) → Onward bytes at x → Onward bytes at y → Onward bytes at (cond b x y)
either bytes at true x y f g = f
either bytes at false x y f g = g

pub onward : (bytes : List ℕ) (at : ℕ) → Onward bytes at (event_at bytes at)
unfolding event_at
onward bytes at =
    let kind = byte_at bytes at in
    let p = byte_at bytes (at + 1) in
    let x = byte_at bytes (at + 2) in
    either bytes at (leb (length bytes) at) End _ tt
    (either bytes at (eqb kind 1) (whole bytes at 3 (Read (record { 0 = p }) x)) _ (whole-onward bytes at 3 _ (omega arith))
    (either bytes at (eqb kind 2) (whole bytes at 11 (Write (record { 0 = p }) x (value_of bytes (at + 3)))) _ (whole-onward bytes at 11 _ (omega arith))
    (either bytes at (eqb kind 3) (whole bytes at 5 (Deliver (word_at bytes (at + 1)))) _ (whole-onward bytes at 5 _ (omega arith))
    (either bytes at (eqb kind 4) (whole bytes at 2 (Crash (record { 0 = p }))) _ (whole-onward bytes at 2 _ (omega arith))
    (either bytes at (eqb kind 5) (whole bytes at 5 (Lose (word_at bytes (at + 1)))) (Refused 6) (whole-onward bytes at 5 _ (omega arith)) tt)))))

pub at-the-end : (bytes : List ℕ) (at : ℕ) → length bytes ≤ at → event_at bytes at ≡ End
unfolding event_at
at-the-end bytes at l = rw (le-leb (length bytes) at l) refl
