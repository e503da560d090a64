-- Stamps in the sort keys, and the greater of two stamps. That stamps are strictly and totally ordered is in `words`, `StampLaws`.
use Rattle.std.specs.Prelude.{ℕ, ◌≡◌, refl, Bool, true, false, cond, List, ◌∷◌, T}
use Rattle.std.proofs.Common.{ap, inl, inr}
use Rattle.words.specs.declared.Stamp.{Stamp}
use Rattle.words.specs.Stamps.{below, AtMost}
use Rattle.words.proofs.StampLaws.{below-read, below→at_most, at_most-cases, at_most-reflexive}
use Rattle.placing.specs.Sorting.{lex_below}
use Rattle.placing.specs.OneOrder.{greater}
use Rattle.placing.specs.LexLaws.{lex-less, lex-same}

-- of lists that begin with stamps the lesser stamp decides, and of equal stamps the rest
module _ (s t : Stamp) (xs ys : List ℕ) where
  abbrev Led : Type 0
  Led = T (lex_below (s.time.0 ∷ (s.process.0 ∷ xs)) (t.time.0 ∷ (t.process.0 ∷ ys)))

  pub led-below : T (below s t) → Led
  led-below h =
      elim (below-read s t h) [
        | inl p ↦ lex-less _ _ (s.process.0 ∷ xs) (t.process.0 ∷ ys) p
        | inr p ↦ lex-same _ _ (s.process.0 ∷ xs) (t.process.0 ∷ ys) p.0 (lex-less _ _ xs ys p.1)
      ]

  pub led-same : s ≡ t → T (lex_below xs ys) → Led
  led-same e h =
      lex-same _ _ (s.process.0 ∷ xs) (t.process.0 ∷ ys) (ap (λ (u : Stamp). u.time.0) e) (lex-same _ _ xs ys (ap (λ (u : Stamp). u.process.0) e) h)

  pub led-at-most : AtMost s t → T (lex_below xs ys) → Led
  led-at-most f h = elim (at_most-cases s t f) [ inl l ↦ led-below l | inr e ↦ led-same e h ]

-- the greater of two is one of them, and at least each
pub greater-is : (P : Stamp → Type 0) (s t : Stamp) → P s → P t → P (greater s t)
greater-is P s t p q = tell (below s t)
  where
    tell : (b : Bool) → P (cond b t s)
    tell true = q
    tell false = p

pub greater-left : (s t : Stamp) → AtMost s (greater s t)
greater-left s t = tell (below s t) refl
  where
    tell : (b : Bool) → below s t ≡ b → AtMost s (cond b t s)
    tell true e = below→at_most s t (rw e tt)
    tell false e = at_most-reflexive s

pub greater-right : (s t : Stamp) → AtMost t (greater s t)
greater-right s t = tell (below s t) refl
  where
    tell : (b : Bool) → below s t ≡ b → AtMost t (cond b t s)
    tell true e = at_most-reflexive t
    tell false e = rw e tt
