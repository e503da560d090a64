-- The derived order of stamps is document 01's: it compares the times, and where they are equal the processes.
use Rattle.std.specs.Prelude.{◌≡◌, refl, Bool, true, false, cond, ◌&&◌, ◌||◌, ltb, eqb, Some}
use Rattle.std.specs.Ordering.{is_lt, is_some_and, partial_lt, partial_ordering_then}
use Rattle.std.proofs.Common.{Less, Equal, Greater}
use Rattle.words.specs.declared.Stamp.{Stamp}
use Rattle.words.specs.contracts.StampPartialOrd.TheImpl.{partial_cmp-value}
use Rattle.words.specs.Stamps.{below}

parts : (earlier same less alike : Bool) → is_some_and is_lt (partial_ordering_then (Some (cond earlier Less (cond same Equal Greater))) (Some (cond less Less (cond alike Equal Greater)))) ≡ (earlier || (same && less))
parts true same less alike = refl
parts false true true alike = refl
parts false true false true = refl
parts false true false false = refl
parts false false less alike = refl

pub derived_below : (a b : Stamp) → partial_lt partial_cmp-value.it a b ≡ below a b
unfolding below
derived_below a b = parts (ltb a.time.0 b.time.0) (eqb a.time.0 b.time.0) (ltb a.process.0 b.process.0) (eqb a.process.0 b.process.0)
