-- An operation that was answered no later than another was invoked precedes it in the one order: up to it in its register nothing was invoked
-- as late as its answer, so its point is below that, and the other's point is no lower than its own invocation.
use Rattle.std.specs.Prelude.{ℕ, ◌<◌, ◌≤◌, ◌≡◌, refl, List, ◌∷◌, ◌⊎◌, T}
use Rattle.std.proofs.Common.{sym, inl, inr, arith}
use Rattle.std.proofs.Math.Option.{some}
use Rattle.std.proofs.Math.Decide.{dec_lt}
use Rattle.words.proofs.StampLaws.{three_ways, at_most-time}
use Rattle.placing.specs.Operation.{Operation, listed}
use Rattle.placing.specs.OneOrder.{Entry, numbered, listing, register_key, earlier, invocation, point, order_key}
use Rattle.placing.specs.Facts.{Facts, Row}
use Rattle.placing.specs.Order.{asymmetric}
use Rattle.placing.specs.LexLaws.{lex-less}
use Rattle.placing.specs.Pairs.{select-member}
use Rattle.placing.proofs.RowLaws.{row-equal}
use Rattle.placing.proofs.PointLaws.{earlier-strict, up-to-says, point-is, point-own}
use Rattle.placing.proofs.PlacedLaws.{precedes, precedes-strict}

module _ {Value : Type 0} (nought : Value) (os : List (Operation Value)) (facts : Facts nought os) where
  -- what stands up to a was invoked before a was answered
  invoked-before : (a b : Entry Value) (t : ℕ) → Row os a → a.operation.answered ≡ some t → Row os b × T (listed b.operation)
      → (a.operation.register ≡ b.operation.register) × (T (earlier a b) → ⊥)
      → b.operation.invoked < t
  invoked-before a b t m q n s =
      elim (dec_lt b.operation.invoked t) [ yes l ↦ l | no f ↦ absurd (s.1 (facts.settled a b t m n.0 n.1 s.0 q (omega arith))) ]

  point-below : (a : Entry Value) (t : ℕ) → Row os a → a.operation.answered ≡ some t → (point (listing os) a).time.0 < t
  point-below a t m q =
      point-is (λ s. s.time.0 < t) (listing os) a
      (invoked-before a a t m q (m, rw q tt) (refl, earlier-strict.irreflexive a))
      (λ b n u. invoked-before a b t m q (select-member (λ e. listed e.operation) (numbered 1 os) n) (up-to-says a b u))

  pub answered-first : (a b : Entry Value) (t : ℕ) → Row os a → a.operation.answered ≡ some t → t ≤ b.operation.invoked → T (precedes os a b)
  unfolding order_key
  answered-first a b t m q h =
      let p = point (listing os) a in
      let r = point (listing os) b in
      let l : p.time.0 < r.time.0 = omega (arith, point-below a t m q, at_most-time (invocation b.operation) r (point-own (listing os) b)) in
      lex-less _ _ (p.process.0 ∷ (a.operation.register ∷ register_key a)) (r.process.0 ∷ (b.operation.register ∷ register_key b)) l

  -- so a process's operations keep their sequence: were the later one placed first, the earlier one, answered before it began, would precede it
  pub sequence-kept : (a b : Entry Value) → Row os a → Row os b → a.operation.process ≡ b.operation.process → T (precedes os a b) → a.row < b.row
  sequence-kept a b m n q p = tell (three_ways a.row b.row)
    where
      back : (t : ℕ) × (b.operation.answered ≡ some t) × (t ≤ a.operation.invoked) → ⊥
      back s = asymmetric (precedes-strict os) a b p (answered-first b a s.0 n s.1 s.2)

      tell : (a.row < b.row) ⊎ (a.row ≡ b.row) ⊎ (b.row < a.row) → a.row < b.row
      tell (inl l) = l
      tell (inr (inl e)) = absurd ((precedes-strict os).irreflexive b (rw (row-equal os a b m n e) at p))
      tell (inr (inr g)) = absurd (back (facts.in_turn b a n m (sym q) g))
