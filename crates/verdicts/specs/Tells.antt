-- A test that tells exactly whether something holds.
use Rattle.std.specs.Prelude.{◌≡◌, Bool, true, false, not}
use Rattle.std.proofs.lemmas.Bool.{not-true, not-false}

pub record Tells (test : Bool) (P : Type 0) : Type 0 where
  pub holds : test ≡ true → P
  pub fails : test ≡ false → P → ⊥

-- a test of the contrary
pub telling : {P : Type 0} (test : Bool) → (test ≡ false → P) → (test ≡ true → P → ⊥) → Tells (not test) P
telling test held refuted = record { holds = λ e. held (not-true test e); fails = λ e. refuted (not-false test e) }
