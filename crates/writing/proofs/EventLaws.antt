-- An event is written as its first byte and what is behind it.
use Rattle.std.specs.Prelude.{ℕ, ◌≡◌, ◌⊎◌, refl, List, [], ◌∷◌, ◌++◌, length}
use Rattle.std.proofs.Common.{sym, ap, ◌∙◌, arith, inl, inr}
use Rattle.state.specs.declared.Event.{Event}
use Rattle.state.specs.declared.Event.TheVariants.{Read, Write, Deliver, Crash, Lose}
use Rattle.text.specs.declared.page.Page.{Page}
use Rattle.text.specs.Paged.{Room, Adds}
use Rattle.text.specs.PagedLaws.{adds_next, adds_text}
use Rattle.format.specs.Kinds.{first_byte, kind_of, size}
use Rattle.writing.specs.Bytes.{word_bytes, value_bytes, event_bytes}
use Rattle.writing.proofs.SizeLaws.{read-size, write-size, deliver-size, crash-size, lose-size}

pub kind-size : (event : Event) → size (kind_of event) ≡ length (event_bytes event)
kind-size (Read p x) = sym (read-size p x)
kind-size (Write p x v) = sym (write-size p x v)
kind-size (Deliver k) = sym (deliver-size k)
kind-size (Crash p) = sym (crash-size p)
kind-size (Lose k) = sym (lose-size k)

abbrev pub rest_bytes : Event → List ℕ
rest_bytes (Read p x) = p.0 ∷ (x ∷ [])
rest_bytes (Write p x v) = (p.0 ∷ (x ∷ [])) ++ value_bytes v
rest_bytes (Deliver k) = word_bytes k
rest_bytes (Crash p) = p.0 ∷ []
rest_bytes (Lose k) = word_bytes k

split : (event : Event) → first_byte (kind_of event) ∷ rest_bytes event ≡ event_bytes event
unfolding event_bytes
split (Read p x) = refl
split (Write p x v) = refl
split (Deliver k) = refl
split (Crash p) = refl
split (Lose k) = refl

pub numbered : (event : Event) (k : ℕ) → (event ≡ Deliver k) ⊎ (event ≡ Lose k) → rest_bytes event ≡ word_bytes k
numbered event k e = elim e [ inl d ↦ ap rest_bytes d | inr d ↦ ap rest_bytes d ]

module _ (event : Event) (page : Page) where
  pub room_first : Room (length (event_bytes event)) page → Room 1 page
  room_first room = omega (arith, room, ap length (split event))

  module _ (byte : ℕ) (p : Page) (v : Adds (byte ∷ []) 1 page p) where
    pub room_rest : Room (length (event_bytes event)) page → Room (length (rest_bytes event)) p
    room_rest room = omega (arith, room, ap length (split event), v.wrote.ends, v.long)

    pub added : (q : Page) → byte ≡ first_byte (kind_of event) → Adds (rest_bytes event) (length (rest_bytes event)) p q → Adds (event_bytes event) (length (event_bytes event)) page q
    added q is w = adds_text (ap (λ b. b ∷ rest_bytes event) is ∙ split event) (omega (arith, ap length (split event))) (adds_next v w)
