-- The first check of a file that holds, from what its tests say; and what a file that opens has.
use Rattle.std.specs.Prelude.{ℕ, ◌≡◌, refl, Bool, true, false, cond, not, ◌&&◌, ◌||◌, Ok, Err, List, eqb}
use Rattle.std.proofs.Common.{sym, ◌∙◌, eqb-true, ne_eqb, true≢false}
use Rattle.std.proofs.Math.Path.{ap}
use Rattle.std.proofs.lemmas.Bool.{eqb-false}
use Rattle.words.specs.declared.refusal.Refusal.{Refusal}
use Rattle.words.specs.Refusals.{number}
use Rattle.words.proofs.RefusalLaws.{number-some}
use Rattle.words.specs.RangeLaws.{and_left, and_right}
use Rattle.state.specs.declared.Bench.{Bench}
use Rattle.state.specs.Stepped.{Stepped}
use Rattle.state.specs.Step.{check}
use Rattle.state.specs.Tabled.{bench_of}
use Rattle.format.specs.Format.{file_refusal}
use Rattle.format.proofs.FileLaws.{Opens, file-opens}
use Rattle.bench.specs.Start.{no_bench, replied, started, started_by}
use Rattle.schedule.specs.Opening.{opening_refusal, begun, opened}

-- ---- the two lengths, as the code tests them

pub one-unfit : (a b : Bool) → (not a || not b) ≡ true → (a && b) ≡ false
one-unfit true true e = absurd (true≢false (sym e))
one-unfit true false e = refl
one-unfit false b e = refl

pub both_fit : (a b : Bool) → (not a || not b) ≡ false → (a && b) ≡ true
both_fit true true e = refl
both_fit true false e = absurd (true≢false e)
both_fit false b e = absurd (true≢false e)

-- ---- the first check that holds

module _ (places history : ℕ) (bytes : List ℕ) where
  abbrev lengths : Bool
  lengths = eqb places 512 && eqb history 1024

  pub fitting : lengths ≡ true → (r : ℕ) → r ≡ file_refusal bytes → r ≡ opening_refusal places history bytes
  unfolding opening_refusal
  fitting e r f = f ∙ ap (λ (t : Bool). check (not t) 18 (file_refusal bytes)) (sym e)

  pub unfitting : lengths ≡ false → 18 ≡ opening_refusal places history bytes
  unfolding opening_refusal
  unfitting e = ap (λ (t : Bool). check (not t) 18 (file_refusal bytes)) (sym e)

  -- no check holds
  first : (t : Bool) (k : ℕ) → check (not t) 18 k ≡ 0 → (t ≡ true) × (k ≡ 0)
  first true k z = (refl, z)
  first false k z = absurd (eqb-false 18 0 refl z)

  checked : opening_refusal places history bytes ≡ 0 → (lengths ≡ true) × (file_refusal bytes ≡ 0)
  unfolding opening_refusal
  checked z = first lengths (file_refusal bytes) z

  pub places-fit : opening_refusal places history bytes ≡ 0 → places ≡ 512
  places-fit z = eqb-true places 512 (and_left (eqb places 512) (eqb history 1024) (checked z).0)

  pub history-fits : opening_refusal places history bytes ≡ 0 → history ≡ 1024
  history-fits z = eqb-true history 1024 (and_right (eqb places 512) (eqb history 1024) (checked z).0)

  pub opens-file : opening_refusal places history bytes ≡ 0 → Opens bytes
  opens-file z = file-opens bytes (checked z).1

  -- ---- what the code gives by it

  abbrev reply : ℕ → Stepped
  reply k = replied k (cond (eqb k 0) (bench_of (begun bytes)) no_bench)

  pub opened-by : 0 ≡ opening_refusal places history bytes → (b : Bench) → b ≡ bench_of (begun bytes) → started (Ok b) ≡ opened places history bytes
  unfolding opened started_by
  opened-by e b f = ap (replied 0) f ∙ ap reply e

  pub refused-by : (e : Refusal) → number e ≡ opening_refusal places history bytes → started (Err e) ≡ opened places history bytes
  unfolding opened started_by
  refused-by e f = sym (ap (λ (t : Bool). replied (number e) (cond t (bench_of (begun bytes)) no_bench)) (ne_eqb (number e) 0 (number-some e))) ∙ ap reply f
