-- `Facts` can be met: two histories written out row by row, and what the placing theorem then says of them.
use Rattle.std.specs.Prelude.{ℕ, ◌<◌, ◌≤◌, ◌≡◌, refl, T}
use Rattle.std.proofs.Common.{sym, subst, inl, inr, arith}
use mathlib.Core.List.Memᴰ
use mathlib.Core.List.{List, [], ◌∷◌, Memᴰ}
use Rattle.std.proofs.Math.Option.{Option, none, some, none-ne-some, some-injective}
use Rattle.words.specs.Stamps.{stamp_of, below}
use Rattle.placing.specs.Operation.{Operation, Kind}
use Rattle.placing.specs.Sequential.{Sequential}
use Rattle.placing.specs.OneOrder.{Entry, numbered, earlier, point, order_key, placed, one_order}
use Rattle.placing.specs.Facts.{Facts, Sourced}
use Rattle.placing.proofs.Placing.{placing}
use Rattle.placing.proofs.Examples.{read_row, write_row, pending_write, pending-order}

-- something of every element of a list that is written out, and of every two
abbrev Each : {A : Type 0} → (A → Type 0) → List A → Type 0
Each P [] = Unit {0}
Each P (a ∷ l) = P a × Each P l

each : {A : Type 0} (P : A → Type 0) (l : List A) → Each P l → (a : A) → Memᴰ a l → P a
each P [] h a m = absurd (Memᴰ.not-nil m)
each P (b ∷ l) h a (Memᴰ.head e) = subst P (sym e) h.0
each P (b ∷ l) h a (Memᴰ.tail m) = each P l h.1 a m

each_two : {A : Type 0} (Q : A → A → Type 0) (l : List A) → Each (λ a. Each (Q a) l) l → (a b : A) → Memᴰ a l → Memᴰ b l → Q a b
each_two Q l h a b m n = each (Q a) l (each (λ a. Each (Q a) l) l h a m) b n

-- what cannot be
kinds : {X : Type 0} → Kind.Read ≡ Kind.Write → X
kinds q =
    let z : ◌≡◌ {A = ℕ} 0 1 = cc in
    absurd (omega arith)

unanswered : {X : Type 0} {t : ℕ} → ◌≡◌ {A = Option ℕ} none (some t) → X
unanswered {t = t} q = absurd (none-ne-some t q)

answer : {s t : ℕ} → ◌≡◌ {A = Option ℕ} (some s) (some t) → s ≡ t
answer {s} {t} q = some-injective s t q

-- the facts of a history, one row or two rows at a time
module _ (os : List (Operation ℕ)) where
  abbrev Settled : ℕ → Entry ℕ → Entry ℕ → Type 0
  Settled t a b = a.operation.answered ≡ some t → t ≤ b.operation.invoked → T (earlier a b)

  abbrev InTurn : Entry ℕ → Entry ℕ → Type 0
  InTurn a b = a.operation.process ≡ b.operation.process → a.row < b.row → (t : ℕ) × (a.operation.answered ≡ some t) × (t ≤ b.operation.invoked)

  abbrev Stamped : Entry ℕ → Type 0
  Stamped a = a.operation.kind ≡ Kind.Write → a.operation.stamp.time.0 ≡ 0 → ⊥

  abbrev Apart : Entry ℕ → Entry ℕ → Type 0
  Apart a b = a.operation.kind ≡ Kind.Write → b.operation.kind ≡ Kind.Write → a.row ≡ b.row

  abbrev ReadSourced : Entry ℕ → Type 0
  ReadSourced a = a.operation.kind ≡ Kind.Read → Sourced 0 os a

  facts-of : ((t : ℕ) → Each (λ a. Each (Settled t a) (numbered 1 os)) (numbered 1 os))
      → Each (λ a. Each (InTurn a) (numbered 1 os)) (numbered 1 os)
      → Each Stamped (numbered 1 os)
      → Each (λ a. Each (Apart a) (numbered 1 os)) (numbered 1 os)
      → Each ReadSourced (numbered 1 os)
      → Facts 0 os
  facts-of s i m p r =
      record {
        settled = λ a b t x y listed same. each_two (Settled t) (numbered 1 os) (s t) a b x y;
        in_turn = each_two InTurn (numbered 1 os) i;
        stamped = each Stamped (numbered 1 os) m;
        apart = λ a b x y k j same stamps. each_two Apart (numbered 1 os) p a b x y k j;
        sourced = λ a t x k q. each ReadSourced (numbered 1 os) r a x k;
      }

-- P11, the pending write and the read that did not see it
pending-facts : Facts 0 pending_write
pending-facts =
    facts-of pending_write
    (λ t. ((λ q h. unanswered q, (λ q h. unanswered q, tt)), ((λ q h. tt, (λ q h. omega (arith, answer q), tt)), tt)))
    ((λ q h. absurd (omega arith), (λ q h. absurd (omega arith), tt)), ((λ q h. absurd (omega arith), (λ q h. absurd (omega arith), tt)), tt))
    (λ k z. omega arith, (λ k z. kinds k, tt))
    ((λ k j. refl, (λ k j. kinds j, tt)), ((λ k j. kinds k, (λ k j. refl, tt)), tt))
    (λ k. kinds (sym k), (λ k. inl (refl, refl), tt))

pub pending-sequential : Sequential 0 pending_write (2 ∷ (1 ∷ []))
pending-sequential = rw pending-order at (placing 0 pending_write pending-facts)

-- a write that was answered, and a read that began after it and saw it
abbrev seen_write : List (Operation ℕ)
seen_write = write_row 1 1 1 (some 4) (stamp_of 1 1) 9 ∷ (read_row 2 1 5 (some 8) (stamp_of 1 1) 9 ∷ [])

seen-facts : Facts 0 seen_write
seen-facts =
    facts-of seen_write
    (λ t. ((λ q h. omega (arith, answer q), (λ q h. tt, tt)), ((λ q h. omega (arith, answer q), (λ q h. omega (arith, answer q), tt)), tt)))
    ((λ q h. absurd (omega arith), (λ q h. absurd (omega arith), tt)), ((λ q h. absurd (omega arith), (λ q h. absurd (omega arith), tt)), tt))
    (λ k z. omega arith, (λ k z. kinds k, tt))
    ((λ k j. refl, (λ k j. kinds j, tt)), ((λ k j. kinds k, (λ k j. refl, tt)), tt))
    (λ k. kinds (sym k), (λ k. inr (record { row = 1; operation = write_row 1 1 1 (some 4) (stamp_of 1 1) 9 }, Memᴰ.head refl, refl, refl, refl, refl), tt))

seen-order : one_order seen_write ≡ 1 ∷ (2 ∷ [])
unfolding one_order placed order_key point below
seen-order = refl

pub seen-sequential : Sequential 0 seen_write (1 ∷ (2 ∷ []))
seen-sequential = rw seen-order at (placing 0 seen_write seen-facts)
