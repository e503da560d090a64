-- Small histories, by computation: what the one order makes of them, and what `Sequential` refuses (`FactsExamples` has what it accepts).
use Rattle.std.specs.Prelude.{ℕ, zero, suc, ◌<◌, ◌≡◌, refl, List, [], ◌∷◌, ◌++◌, Bool, true, false, eqb}
use Rattle.std.proofs.Common.{ap, arith, eqb-true}
use Rattle.std.proofs.Math.Option.{Option, none, some}
use Rattle.words.specs.declared.Stamp.{Stamp}
use Rattle.words.specs.Stamps.{stamp_of, start_stamp, below}
use Rattle.placing.specs.Operation.{Operation, Kind}
use Rattle.placing.specs.Sequential.{Sequential, times, holds}
use Rattle.placing.specs.OneOrder.{point, order_key, placed, one_order}

abbrev pub read_row : ℕ → ℕ → ℕ → Option ℕ → Stamp → ℕ → Operation ℕ
read_row p x from until s v =
    record { process = p; kind = Kind.Read; register = x; invoked = from; answered = until; stamp = s; value = v }

abbrev pub write_row : ℕ → ℕ → ℕ → Option ℕ → Stamp → ℕ → Operation ℕ
write_row p x from until s v =
    record { process = p; kind = Kind.Write; register = x; invoked = from; answered = until; stamp = s; value = v }

-- The history of P11: a write that is still pending, and a read that did not see it. The read, begun later, is placed first. (The fact itself, with both
-- points, is in `facts`.)
abbrev pub pending_write : List (Operation ℕ)
pending_write = write_row 1 1 1 none (stamp_of 1 1) 9 ∷ (read_row 2 1 5 (some 8) start_stamp 0 ∷ [])

pub pending-order : one_order pending_write ≡ 2 ∷ (1 ∷ [])
unfolding one_order placed order_key point below
pending-order = refl

-- two registers: in each a read and a write that overlap; in register 1 the read is placed first, in register 2 the write
abbrev two_registers : List (Operation ℕ)
two_registers =
    write_row 1 1 1 (some 10) (stamp_of 3 1) 7
    ∷ (read_row 2 1 2 (some 5) start_stamp 0
    ∷ (read_row 3 2 3 (some 12) (stamp_of 7 2) 8
    ∷ (write_row 2 2 6 (some 9) (stamp_of 7 2) 8
    ∷ [])))

two-registers-order : one_order two_registers ≡ 2 ∷ (1 ∷ (4 ∷ (3 ∷ [])))
unfolding one_order placed order_key point below
two-registers-order = refl

-- reads of one stamp go by invocation stamp, whatever their row numbers; a pending read is not listed
reads-order : one_order (read_row 1 1 5 (some 8) start_stamp 0 ∷ (read_row 2 1 3 (some 9) start_stamp 0 ∷ (read_row 3 1 1 none start_stamp 0 ∷ []))) ≡ 2 ∷ (1 ∷ [])
unfolding one_order placed order_key point below
reads-order = refl

-- a tie that no run reaches, one invocation stamp in two registers: the lesser register is first
tied-order : one_order (read_row 1 2 1 (some 4) start_stamp 0 ∷ (read_row 1 1 1 (some 4) start_stamp 0 ∷ [])) ≡ 2 ∷ (1 ∷ [])
unfolding one_order placed order_key point below
tied-order = refl

-- a read of what nobody wrote: no order of it is sequential, because the read stands in it and its register never holds anything but zero
abbrev unwritten : List (Operation ℕ)
unwritten = read_row 1 1 1 (some 2) start_stamp 5 ∷ []

abbrev Standing : List ℕ → Type 0
Standing order = (front : List ℕ) × (back : List ℕ) × (order ≡ front ++ (1 ∷ back))

stands : (order : List ℕ) → times 1 order ≡ 1 → Standing order
stands [] q = absurd (omega arith)
stands (j ∷ order) q = tell (eqb 1 j) refl (stands order)
  where
    later : Standing order → Standing (j ∷ order)
    later s = (j ∷ s.0, s.1, ap (λ (l : List ℕ). j ∷ l) s.2)

    tell : (t : Bool) → eqb 1 j ≡ t → (times 1 order ≡ 1 → Standing order) → Standing (j ∷ order)
    tell true e rest = ([], order, rw (eqb-true 1 j e))
    tell false e rest = later (rest (omega (arith, rw e at q)))

holds-zero : (order : List ℕ) → holds unwritten 1 0 order ≡ 0
holds-zero [] = refl
holds-zero (zero ∷ order) = holds-zero order
holds-zero (suc zero ∷ order) = holds-zero order
holds-zero (suc (suc j) ∷ order) = holds-zero order

never-written : (order : List ℕ) → Sequential 0 unwritten order → ⊥
never-written order s =
    let p = stands order (s.once 1) in
    let v : ◌≡◌ {A = ℕ} 5 (holds unwritten 1 0 p.0) = s.reads p.0 p.1 1 (read_row 1 1 1 (some 2) start_stamp 5) p.2 refl refl in
    omega (arith, holds-zero p.0)

-- two reads of one process, swapped
swapped : Sequential 0 (read_row 1 1 1 (some 2) start_stamp 0 ∷ (read_row 1 1 3 (some 4) start_stamp 0 ∷ [])) (2 ∷ (1 ∷ [])) → ⊥
swapped s =
    let l : 2 < 1 = s.sequence [] [] [] 2 1 (read_row 1 1 3 (some 4) start_stamp 0) (read_row 1 1 1 (some 2) start_stamp 0) refl refl refl refl in
    omega arith
