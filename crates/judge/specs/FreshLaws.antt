-- A replica is the one by default just if it is fresh.
use Rattle.std.specs.Prelude.{◌≡◌, refl, ℕ, suc, ◌<◌, Bool, true, false, not, ◌&&◌, List, [], ◌∷◌, eqb, length, get_or}
use Rattle.std.specs.Cmp.Lexicographic.{pointwise}
use Rattle.std.proofs.Common.{arith, ne_eqb, rules}
use Rattle.std.proofs.Math.Dec.{eqb-suc-suc}
use Rattle.words.specs.declared.Pair.{Pair}
use Rattle.words.specs.contracts.PairPartialEq.TheImpl.{eq-value as PairEq}
use Rattle.words.specs.contracts.PairDefault.TheImpl.{is_default-value as PairDefault}
use Rattle.replica.specs.contracts.PhasePartialEq.TheImpl.{eq-value as PhaseEq}
use Rattle.replica.specs.Handlers.{is_idle}
use mathlib.Core.Bool.{beq}
use Rattle.replica.specs.declared.Phase.{Phase}
use Rattle.replica.specs.declared.Phase.TheVariants.{Idle, Querying, Updating}
use Rattle.replica.specs.declared.Replica.{Replica}
use Rattle.replica.specs.contracts.ReplicaPartialEq.TheImpl.{eq-value}
use Rattle.replica.specs.contracts.ReplicaDefault.TheImpl.{is_default-value}
use Rattle.state.specs.WellFormed.{every, is_start, is_fresh}

swapped : (a b c : Bool) → (a && (b && c)) ≡ (b && (a && c))
swapped true b c = refl
swapped false true c = refl
swapped false false c = refl

pub starts : (E : Pair → Pair → Bool) (xs ys : List Pair) → ((x : Pair) (i : ℕ) (d : Pair) → i < length ys → E x (get_or ys i d) ≡ is_start x) → pointwise E xs ys ≡ eqb (length xs) (length ys) && every is_start xs
starts E [] [] h = refl
starts E [] (y ∷ ys) h = rw (ne_eqb 0 (suc (length ys)) (λ z. omega (arith, z))) refl
starts E (x ∷ xs) [] h = rw (ne_eqb (suc (length xs)) 0 (λ z. omega (arith, z))) refl
starts E (x ∷ xs) (y ∷ ys) h =
    rw (h x 0 y (omega arith), starts E xs ys (λ x i d l. h x (suc i) d (omega arith)), eqb-suc-suc (length xs) (length ys))
    (swapped (is_start x) (eqb (length xs) (length ys)) (every is_start xs))

pair-start : (x d : Pair) → PairDefault.it d → PairEq.it x d ≡ is_start x
pair-start x d h = search rules

parts : (crashed : Bool) (phase : Phase) (a b c l e : Bool)
    → (beq crashed false && (a && (b && (PhaseEq.it phase Idle && (c && (l && e)))))) ≡ (not crashed && a && b && is_idle phase && c && l && e)
parts true phase a b c l e = refl
parts false phase false b c l e = refl
parts false phase true false c l e = refl
parts false (Querying row gathered) true true c l e = refl
parts false (Updating row sent) true true c l e = refl
parts false Idle true true false l e = refl
parts false Idle true true true l e = refl

pub fresh-derived : (r d : Replica) → is_default-value.it d → eq-value.it r d ≡ is_fresh r
fresh-derived r d (crashed, (clock, (rid, (phase, (repliers, pairs))))) =
    rw (crashed, clock, rid, phase, repliers, starts PairEq.it r.pairs d.pairs (λ x i e l. pair-start x (get_or d.pairs i e) (pairs.at i e (omega (arith, pairs.long)))), pairs.long)
    (parts r.crashed r.phase (eqb r.clock.0 0) (eqb r.rid.0 0) (eqb r.repliers 0) (eqb (length r.pairs) 16) (every is_start r.pairs))
