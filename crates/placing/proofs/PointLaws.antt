-- An operation's point: it is the invocation stamp of one that stands up to the operation, and at least each of those; so along a register's
-- order points never fall, and the one order keeps each register's order.
use Rattle.std.specs.Prelude.{◌≡◌, refl, not, T, eqb}
use Rattle.std.proofs.Common.{sym, ◌∙◌, eq-eqb, eqb→eq, T_not}
use mathlib.Core.List.{List, [], ◌∷◌, foldr, Memᴰ}
use Rattle.std.proofs.Math.Dec.{not_T}
use Rattle.std.proofs.Math.Facts.{and_yes, yes_and}
use Rattle.words.specs.declared.Stamp.{Stamp}
use Rattle.words.specs.Stamps.{AtMost}
use Rattle.words.proofs.StampLaws.{at_most-reflexive, at_most-transitive}
use Rattle.placing.specs.Sorting.{select, lex_below}
use Rattle.placing.specs.OneOrder.{Entry, greater, invocation, register_key, earlier, up_to, point, order_key}
use Rattle.placing.specs.Order.{Strict, asymmetric}
use Rattle.placing.specs.LexLaws.{lex-same, by_key}
use Rattle.placing.specs.Pairs.{select-member, member-select}
use Rattle.placing.proofs.StampKeys.{led-at-most, greater-is, greater-left, greater-right}

module _ {Value : Type 0} where
  pub earlier-strict : Strict (earlier {Value = Value})
  earlier-strict = by_key register_key

  -- b stands up to a: the test and what it says
  up-to : (a b : Entry Value) → a.operation.register ≡ b.operation.register → (T (earlier a b) → ⊥) → T (up_to a b)
  up-to a b e f =
      yes_and (eqb a.operation.register b.operation.register) (not (earlier a b))
      (rw (eq-eqb a.operation.register b.operation.register e) tt) (not_T (earlier a b) f)

  pub up-to-says : (a b : Entry Value) → T (up_to a b) → (a.operation.register ≡ b.operation.register) × (T (earlier a b) → ⊥)
  up-to-says a b t =
      let s = and_yes (eqb a.operation.register b.operation.register) (not (earlier a b)) t in
      (eqb→eq a.operation.register b.operation.register s.0, T_not (earlier a b) s.1)

  -- the greatest invocation of a list and of one more stamp
  top : Stamp → List (Entry Value) → Stamp
  top s l = foldr (λ b t. greater (invocation b.operation) t) s l

  top_start : (s : Stamp) (l : List (Entry Value)) → AtMost s (top s l)
  unfolding top
  top_start s [] = at_most-reflexive s
  top_start s (b ∷ l) =
      at_most-transitive s (top s l) (top s (b ∷ l)) (top_start s l) (greater-right (invocation b.operation) (top s l))

  top-member : (s : Stamp) {b : Entry Value} {l : List (Entry Value)} → Memᴰ b l → AtMost (invocation b.operation) (top s l)
  unfolding top
  top-member s {b} (Memᴰ.head {x = c} {xs = l} e) = rw e (greater-left (invocation c.operation) (top s l))
  top-member s {b} (Memᴰ.tail {x = c} {xs = l} m) =
      at_most-transitive (invocation b.operation) (top s l) (top s (c ∷ l)) (top-member s m) (greater-right (invocation c.operation) (top s l))

  top-is : (P : Stamp → Type 0) (s : Stamp) (l : List (Entry Value)) → P s → ((b : Entry Value) → Memᴰ b l → P (invocation b.operation)) → P (top s l)
  unfolding top
  top-is P s [] p f = p
  top-is P s (b ∷ l) p f =
      greater-is P (invocation b.operation) (top s l) (f b (Memᴰ.head refl)) (top-is P s l p (λ c m. f c (Memᴰ.tail m)))

  point-up-to : (es : List (Entry Value)) (e b : Entry Value) → Memᴰ b es → T (up_to e b) → AtMost (invocation b.operation) (point es e)
  unfolding point top
  point-up-to es e b m t = top-member (invocation e.operation) (member-select (up_to e) m t)

  pub point-own : (es : List (Entry Value)) (e : Entry Value) → AtMost (invocation e.operation) (point es e)
  unfolding point top
  point-own es e = top_start (invocation e.operation) (select (up_to e) es)

  pub point-is : (P : Stamp → Type 0) (es : List (Entry Value)) (e : Entry Value)
      → P (invocation e.operation)
      → ((b : Entry Value) → Memᴰ b es → T (up_to e b) → P (invocation b.operation))
      → P (point es e)
  unfolding point top
  point-is P es e p f = top-is P (invocation e.operation) (select (up_to e) es) p (λ b m. let s = select-member (up_to e) es m in f b s.0 s.1)

  -- along a register's order points never fall
  point-rises : (es : List (Entry Value)) (a b : Entry Value) → Memᴰ a es
      → a.operation.register ≡ b.operation.register
      → T (earlier a b)
      → AtMost (point es a) (point es b)
  point-rises es a b m q h =
      point-is (λ s. AtMost s (point es b)) es a
      (point-up-to es b a m (up-to b a (sym q) (asymmetric earlier-strict a b h)))
      (λ c n t. point-up-to es b c n (further c (up-to-says a c t)))
    where
      further : (c : Entry Value) → (a.operation.register ≡ c.operation.register) × (T (earlier a c) → ⊥) → T (up_to b c)
      further c s = up-to b c (sym q ∙ s.0) (λ k. s.1 (earlier-strict.transitive a b c h k))

  -- so the one order keeps a register's order
  pub register-kept : (es : List (Entry Value)) (a b : Entry Value) → Memᴰ a es
      → a.operation.register ≡ b.operation.register
      → T (earlier a b)
      → T (lex_below (order_key es a) (order_key es b))
  unfolding order_key
  register-kept es a b m q h =
      led-at-most (point es a) (point es b) (a.operation.register ∷ register_key a) (b.operation.register ∷ register_key b) (point-rises es a b m q h)
      (lex-same a.operation.register b.operation.register (register_key a) (register_key b) q h)
