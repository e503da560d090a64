-- What stands at a place is refused by 6 or 7, or not at all.
use Rattle.std.specs.Prelude.{ℕ, ◌+◌, ◌≡◌, refl, Bool, true, false, cond, List, ◌⊎◌, eqb, leb, length}
use Rattle.std.proofs.Common.{inl, inr}
use Rattle.state.specs.declared.Event.{Event}
use Rattle.state.specs.declared.Event.TheVariants.{Read, Write, Deliver, Crash, Lose}
use Rattle.format.specs.Parse.{Parse}
use Rattle.format.specs.Parse.{Next, Refused, End}
use Rattle.format.specs.Format.{byte_at, word_at, value_of, whole, event_at, parse_refusal}

abbrev pub ByNumber : Parse → Type 0
ByNumber x = (parse_refusal x ≡ 0) ⊎ ((parse_refusal x ≡ 6) ⊎ (parse_refusal x ≡ 7))

either : (b : Bool) (x y : Parse) → ByNumber x → ByNumber y → ByNumber (cond b x y)
either true x y f g = f
either false x y f g = g

whole-numbered : (bytes : List ℕ) (at size : ℕ) (event : Event) → ByNumber (whole bytes at size event)
whole-numbered bytes at size event =
    either (leb (at + size) (length bytes)) (Next event (at + size)) (Refused 7) (inl refl) (inr (inr refl))

pub numbered : (bytes : List ℕ) (at : ℕ) → ByNumber (event_at bytes at)
unfolding event_at
numbered bytes at =
    let kind = byte_at bytes at in
    let p = byte_at bytes (at + 1) in
    let x = byte_at bytes (at + 2) in
    either (leb (length bytes) at) End _ (inl refl)
    (either (eqb kind 1) (whole bytes at 3 (Read (record { 0 = p }) x)) _ (whole-numbered bytes at 3 _)
    (either (eqb kind 2) (whole bytes at 11 (Write (record { 0 = p }) x (value_of bytes (at + 3)))) _ (whole-numbered bytes at 11 _)
    (either (eqb kind 3) (whole bytes at 5 (Deliver (word_at bytes (at + 1)))) _ (whole-numbered bytes at 5 _)
    (either (eqb kind 4) (whole bytes at 2 (Crash (record { 0 = p }))) _ (whole-numbered bytes at 2 _)
    (either (eqb kind 5) (whole bytes at 5 (Lose (word_at bytes (at + 1)))) (Refused 6) (whole-numbered bytes at 5 _) (inr (inl refl)))))))
