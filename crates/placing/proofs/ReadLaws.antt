-- A completed read gives the value of the last write to its register before it in the one order: that write is the one whose stamp the read
-- has, because of one register the one order keeps the register's order.
use Rattle.std.specs.Prelude.{ℕ, ◌<◌, ◌≡◌, Bool, ◌&&◌, eqb}
use Rattle.std.proofs.Math.Path.{refl, ap}
use Rattle.std.proofs.Common.{sym, ◌∙◌, inl, inr, arith, eq-eqb, eqb→eq, lit<}
use Rattle.std.proofs.Math.Bool.{true, false, cond, or-true}
use mathlib.Core.List.{List, [], ◌∷◌, ◌++◌, map, tail, Memᴰ}
use Rattle.std.proofs.Math.Option.{Option, none, some}
use Rattle.std.proofs.Math.Dec.{T, not_T}
use Rattle.std.proofs.Math.Facts.{and_yes}
use Rattle.words.specs.declared.Stamp.{Stamp}
use Rattle.words.specs.Stamps.{below, start_stamp, AtMost}
use Rattle.words.proofs.StampLaws.{at_most-time, at_most-antisymmetric}
use Rattle.placing.specs.Operation.{Operation, Kind, is_write, listed}
use Rattle.placing.specs.Sequential.{wrote, holds}
use Rattle.placing.specs.OneOrder.{Entry, listing, register_key, earlier, placed}
use Rattle.placing.specs.Facts.{Facts, Row, Sourced}
use Rattle.placing.specs.Order.{asymmetric}
use Rattle.placing.specs.LexLaws.{lex-less}
use Rattle.placing.specs.Pairs.{pairs-append}
use Rattle.placing.specs.Splitting.{member-split, split-member}
use Rattle.placing.specs.SortingLaws.{Sorted, in-front}
use Rattle.placing.proofs.StampKeys.{led-below, led-same}
use Rattle.placing.proofs.RowLaws.{row-at, row-equal}
use Rattle.placing.proofs.PointLaws.{register-kept}
use Rattle.placing.proofs.PlacedLaws.{precedes, precedes-strict, placed-sorted, listing-member, placed-member, placed_row}

module _ {Value : Type 0} where
  -- e writes register x
  abbrev writes : ℕ → Entry Value → Bool
  writes x e = is_write e.operation.kind && eqb e.operation.register x

  -- what register x holds when the rows of a list have run, one after another
  after : ℕ → Value → List (Entry Value) → Value
  after x held [] = held
  after x held (e ∷ l) = after x (cond (writes x e) e.operation.value held) l

  holds_after : (os : List (Operation Value)) (x : ℕ) (held : Value) (l : List (Entry Value)) → ((e : Entry Value) → Memᴰ e l → Row os e)
      → holds os x held (map (λ e. e.row) l) ≡ after x held l
  unfolding after
  holds_after os x held [] f = refl
  holds_after os x held (e ∷ l) f =
      ap (λ (o : Option (Operation Value)). holds os x (wrote x o held) (map (λ e. e.row) l)) (row-at os e (f e (mathlib.Core.List.Memᴰ.head refl)))
      ∙ holds_after os x (cond (writes x e) e.operation.value held) l (λ c m. f c (mathlib.Core.List.Memᴰ.tail m))

  -- without a write it keeps what it held; behind a last write it holds that write's value
  after_none : (x : ℕ) (held : Value) (l : List (Entry Value)) → ((e : Entry Value) → Memᴰ e l → T (writes x e) → ⊥) → after x held l ≡ held
  unfolding after
  after_none x held [] f = refl
  after_none x held (e ∷ l) f =
      after_none x (cond (writes x e) e.operation.value held) l (λ c m. f c (mathlib.Core.List.Memᴰ.tail m)) ∙ skip (writes x e) (f e (mathlib.Core.List.Memᴰ.head refl))
    where
      skip : (t : Bool) → (T t → ⊥) → cond t e.operation.value held ≡ held
      skip true g = absurd (g tt)
      skip false g = refl

  after_last : (x : ℕ) (held : Value) (front back : List (Entry Value)) (w : Entry Value) → T (writes x w)
      → ((e : Entry Value) → Memᴰ e back → T (writes x e) → ⊥)
      → after x held (front ++ (w ∷ back)) ≡ w.operation.value
  unfolding after
  after_last x held [] back w t f = after_none x (cond (writes x w) w.operation.value held) back f ∙ take (writes x w) t
    where
      take : (t : Bool) → T t → cond t w.operation.value held ≡ w.operation.value
      take true g = refl
      take false g = absurd g
  after_last x held (e ∷ front) back w t f = after_last x (cond (writes x e) e.operation.value held) front back w t f

  writes-says : (x : ℕ) (e : Entry Value) → T (writes x e) → (e.operation.kind ≡ Kind.Write) × (e.operation.register ≡ x)
  writes-says x e t =
      let s = and_yes (is_write e.operation.kind) (eqb e.operation.register x) t in
      (kind e.operation.kind s.0, eqb→eq e.operation.register x s.1)
    where
      kind : (k : Kind) → T (is_write k) → k ≡ Kind.Write
      kind Kind.Read t = absurd t
      kind Kind.Write t = refl

  -- a write is listed; a listed read is complete
  write-listed : (o : Operation Value) → o.kind ≡ Kind.Write → T (listed o)
  write-listed o k = rw (k, or-true) tt

  read-answered : (o : Operation Value) → T (listed o) → o.kind ≡ Kind.Read → (t : ℕ) × (o.answered ≡ some t)
  read-answered o l k = tell o.answered refl
    where
      tell : (u : Option ℕ) → o.answered ≡ u → (t : ℕ) × (o.answered ≡ some t)
      tell none e = absurd (rw (e, k) at l)
      tell (some t) e = (t, e)

  -- the register's order goes by stamp, and of one stamp the write is first
  stamp-earlier : (a b : Entry Value) → T (below a.operation.stamp b.operation.stamp) → T (earlier a b)
  stamp-earlier a b h = led-below a.operation.stamp b.operation.stamp (tail (tail (register_key a))) (tail (tail (register_key b))) h

  write-earlier : (a b : Entry Value)
      → a.operation.kind ≡ Kind.Write
      → b.operation.kind ≡ Kind.Read
      → a.operation.stamp ≡ b.operation.stamp
      → T (earlier a b)
  write-earlier a b k r q =
      let first : cond (is_write a.operation.kind) 0 1 < cond (is_write b.operation.kind) 0 1 = rw (k, r) (lit< tt) in
      led-same a.operation.stamp b.operation.stamp (tail (tail (register_key a))) (tail (tail (register_key b))) q
      (lex-less _ _ (tail (tail (tail (register_key a)))) (tail (tail (tail (register_key b)))) first)

  -- of one register, stamps never fall along the one order
  stamps-rise : (os : List (Operation Value)) (a b : Entry Value) → Row os b × T (listed b.operation)
      → a.operation.register ≡ b.operation.register
      → T (precedes os a b)
      → AtMost a.operation.stamp b.operation.stamp
  stamps-rise os a b m q p =
      not_T (below b.operation.stamp a.operation.stamp)
      (λ h. asymmetric (precedes-strict os) a b p (register-kept (listing os) b a (listing-member os b m.0 m.1) (sym q) (stamp-earlier b a h)))

module _ {Value : Type 0} (nought : Value) (os : List (Operation Value)) (facts : Facts nought os) where
  -- the value of a read that stands behind front in the one order
  module _ (front back : List (Entry Value)) (r : Entry Value) (whole : placed os ≡ front ++ (r ∷ back)) where
    sorted : Sorted (precedes os) (front ++ (r ∷ back))
    sorted = rw whole at (placed-sorted os)

    read-row : Row os r × T (listed r.operation)
    read-row = placed_row os r (split-member (placed os) front back r whole)

    front-row : (b : Entry Value) → Memᴰ b front → Row os b × T (listed b.operation)
    front-row b m = placed_row os b (rw whole (mathlib.Core.List.Memᴰ.append_left (r ∷ back) m))

    front-precedes : (b : Entry Value) → Memᴰ b front → T (precedes os b r)
    front-precedes b m = (pairs-append (λ c d. T (precedes os c d)) front (r ∷ back) sorted).2 b r m (mathlib.Core.List.Memᴰ.head refl)

    front-stamp : (b : Entry Value) → Memᴰ b front → b.operation.register ≡ r.operation.register → AtMost b.operation.stamp r.operation.stamp
    front-stamp b m q = stamps-rise os b r read-row q (front-precedes b m)

    -- a read of the starting pair has no write in front: the write's stamp would be the starting one too
    no-write-before : r.operation.stamp ≡ start_stamp → (b : Entry Value) → Memᴰ b front → T (writes r.operation.register b) → ⊥
    no-write-before q b m t =
        let s = writes-says r.operation.register b t in
        let l = at_most-time b.operation.stamp r.operation.stamp (front-stamp b m s.1) in
        let z : r.operation.stamp.time.0 ≡ 0 = ap (λ (u : Stamp). u.time.0) q in
        facts.stamped b (front-row b m).0 s.0 (omega arith)

    -- between the write that the read has its pair from and the read there is no other: its stamp would be theirs
    no-write-between : (w : Entry Value) (before between : List (Entry Value)) → front ≡ before ++ (w ∷ between)
        → Row os w
        → w.operation.kind ≡ Kind.Write
        → w.operation.register ≡ r.operation.register
        → w.operation.stamp ≡ r.operation.stamp
        → (b : Entry Value) → Memᴰ b between → T (writes r.operation.register b) → ⊥
    no-write-between w before between cut mw kw qw sw b m t =
        let s = writes-says r.operation.register b t in
        let mb : Memᴰ b front = rw cut (mathlib.Core.List.Memᴰ.append_right before (mathlib.Core.List.Memᴰ.tail m)) in
        let rb = front-row b mb in
        let sorted_front : Sorted (precedes os) front = (pairs-append (λ c d. T (precedes os c d)) front (r ∷ back) sorted).0 in
        let wb : T (precedes os w b) = (pairs-append (λ c d. T (precedes os c d)) before (w ∷ between) (rw cut at sorted_front)).1.0 b m in
        let up = stamps-rise os w b rb (qw ∙ sym s.1) wb in
        let down : AtMost b.operation.stamp w.operation.stamp = rw sw (front-stamp b mb s.1) in
        let e = at_most-antisymmetric w.operation.stamp b.operation.stamp up down in
        let q : w ≡ b = row-equal os w b mw rb.0 (facts.apart w b mw rb.0 kw s.0 (qw ∙ sym s.1) e) in
        (precedes-strict os).irreflexive b (rw q at wb)

    -- so that write's value is what the register holds when the read is reached
    written : (w : Entry Value) → Row os w → w.operation.kind ≡ Kind.Write → r.operation.kind ≡ Kind.Read
        → w.operation.register ≡ r.operation.register
        → w.operation.stamp ≡ r.operation.stamp
        → after r.operation.register nought front ≡ w.operation.value
    written w mw kw kr qw sw =
        let lw = write-listed w.operation kw in
        let p : T (precedes os w r) = register-kept (listing os) w r (listing-member os w mw lw) qw (write-earlier w r kw kr sw) in
        let s = member-split (in-front (precedes os) (precedes-strict os) front back w r sorted (rw whole at (placed-member os w mw lw)) p) in
        let t : T (writes r.operation.register w) = rw (kw, eq-eqb w.operation.register r.operation.register qw) tt in
        rw s.2 (after_last r.operation.register nought s.0 s.1 w t (no-write-between w s.0 s.1 s.2 mw kw qw sw))

    pub read-value : r.operation.kind ≡ Kind.Read → r.operation.value ≡ holds os r.operation.register nought (map (λ e. e.row) front)
    read-value k =
        let a = read-answered r.operation read-row.1 k in
        tell (facts.sourced r a.0 read-row.0 k a.1) ∙ sym (holds_after os r.operation.register nought front (λ b m. (front-row b m).0))
      where
        tell : Sourced nought os r → r.operation.value ≡ after r.operation.register nought front
        tell (inl s) = s.1 ∙ sym (after_none r.operation.register nought front (no-write-before s.0))
        tell (inr s) = sym s.5 ∙ sym (written s.0 s.1 s.2 k s.3 s.4)
