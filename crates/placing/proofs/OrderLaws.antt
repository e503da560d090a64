-- The argument of `AnsweredFirst` and `ReadLaws`, which is of entries, said of the row numbers in the one order.
use Rattle.std.specs.Prelude.{ℕ, ◌<◌, ◌≤◌, ◌≡◌, List, ◌∷◌, ◌++◌, T}
use Rattle.std.proofs.Math.Option.{some}
use Rattle.std.proofs.Common.{arith}
use Rattle.placing.specs.Operation.{Operation, Kind, listed}
use Rattle.placing.specs.Sequential.{row_at, holds}
use Rattle.placing.specs.OneOrder.{Entry, placed, one_order}
use Rattle.placing.specs.Facts.{Facts}
use Rattle.placing.specs.Splitting.{Stands, split-member, map-split, stands-images, images-stand, stands-first, stands-second}
use Rattle.placing.specs.SortingLaws.{stands-before, before_stands}
use Rattle.placing.proofs.RowLaws.{row-operation, row_of}
use Rattle.placing.proofs.PlacedLaws.{precedes, precedes-strict, placed-sorted, placed-member, placed_row}
use Rattle.placing.proofs.AnsweredFirst.{answered-first, sequence-kept}
use Rattle.placing.proofs.ReadLaws.{read-value}

module _ {Value : Type 0} (nought : Value) (os : List (Operation Value)) (facts : Facts nought os) where
  pub order-sequence : (front middle back : List ℕ) (i j : ℕ) (a b : Operation Value)
      → one_order os ≡ front ++ (i ∷ (middle ++ (j ∷ back)))
      → row_at os i ≡ some a
      → row_at os j ≡ some b
      → a.process ≡ b.process
      → i < j
  unfolding one_order
  order-sequence front middle back i j a b e p q r =
      let s = stands-images (λ (x : Entry Value). x.row) (placed os) front middle back i j e in
      let m = (placed_row os s.0 (stands-first (placed os) s.0 s.1 s.4)).0 in
      let n = (placed_row os s.1 (stands-second (placed os) s.0 s.1 s.4)).0 in
      let f = row-operation os s.0 i a m s.2 p in
      let g = row-operation os s.1 j b n s.3 q in
      omega (arith, s.2, s.3, sequence-kept nought os facts s.0 s.1 m n (cc) (stands-before (precedes os) (placed os) s.0 s.1 (placed-sorted os) s.4))

  pub order-reads : (front back : List ℕ) (i : ℕ) (a : Operation Value)
      → one_order os ≡ front ++ (i ∷ back)
      → row_at os i ≡ some a
      → a.kind ≡ Kind.Read
      → a.value ≡ holds os a.register nought front
  unfolding one_order
  order-reads front back i a e p k =
      let s = map-split (λ (x : Entry Value). x.row) (placed os) front i back e in
      let m = (placed_row os s.here (split-member (placed os) s.before s.after s.here s.whole)).0 in
      let f = row-operation os s.here i a m s.image p in
      let v = read-value nought os facts s.before s.after s.here s.whole (cc) in
      let u = s.fronts in
      cc

  pub order-real-time : (i j : ℕ) (a b : Operation Value) (t : ℕ)
      → row_at os i ≡ some a
      → row_at os j ≡ some b
      → T (listed b)
      → a.answered ≡ some t
      → t ≤ b.invoked
      → Stands i j (one_order os)
  unfolding one_order
  order-real-time i j a b t p q l r h =
      let x : Entry Value = record { row = i; operation = a } in
      let y : Entry Value = record { row = j; operation = b } in
      let m = row_of os i a p in
      let n = row_of os j b q in
      images-stand (λ (e : Entry Value). e.row) (placed os) x y
      (before_stands (precedes os) (precedes-strict os) (placed os) x y (placed-sorted os) (placed-member os x m (rw r tt)) (placed-member os y n l) (answered-first nought os facts x y t m r h))
