-- A text that was written into an output that is long enough is the reply and what is left; a shorter output stays.
use Rattle.std.specs.Prelude.{ℕ, ◌≤◌, ◌<◌, ◌≡◌, Bool, List, Ok, Err}
use Rattle.std.proofs.Common.{sym, subst, ◌∙◌, arith, length-take, le-leb}
use Rattle.std.proofs.Math.Path.{ap}
use Rattle.std.proofs.Math.Bool.{cond}
use Rattle.std.proofs.Math.ListN.{length}
use Rattle.std.proofs.lemmas.Bool.{lt-leb}
use Rattle.words.specs.declared.refusal.Refusal.TheVariants.{ShortOutput}
use Rattle.tables.specs.Tables.{laid_at}
use Rattle.text.specs.Written.{Wrote}
use Rattle.text.specs.LaidLaws.{laid-length}
use Rattle.buffer.specs.Printing.{printed, print_reply, print_left, Fronts}

module _ (enough : ℕ) (text out : List ℕ) where
  pub long-reply : enough ≤ length out → {most r : ℕ} {out' : List ℕ} → Wrote 0 text most out out' r → printed (Ok r) ≡ print_reply enough text (length out)
  unfolding print_reply
  long-reply l {most} {r} {out'} w =
      let counted : r ≡ length text = omega (arith, w.ends) in
      ap (λ (n : ℕ). record { refusal = 0; size = n }) counted ∙ ap (λ (t : Bool). cond t (record { refusal = 0; size = length text }) (record { refusal = 19; size = 0 })) (sym (le-leb enough (length out) l))

  pub long-left : enough ≤ length out → {most r : ℕ} {out' : List ℕ} → Wrote 0 text most out out' r → out' ≡ print_left enough text out
  unfolding print_left
  long-left l w = w.lays ∙ ap (λ (t : Bool). cond t (laid_at 0 text out) out) (sym (le-leb enough (length out) l))

  pub short-reply : length out < enough → printed (Err ShortOutput) ≡ print_reply enough text (length out)
  unfolding print_reply
  short-reply l = ap (λ (t : Bool). cond t (record { refusal = 0; size = length text }) (record { refusal = 19; size = 0 })) (sym (lt-leb enough (length out) l))

  pub short-left : length out < enough → out ≡ print_left enough text out
  unfolding print_left
  short-left l = ap (λ (t : Bool). cond t (laid_at 0 text out) out) (sym (lt-leb enough (length out) l))

  fronts : (n : ℕ) (xs : List ℕ) → n ≤ length xs → Fronts n xs
  fronts n xs l = (l, omega (arith, l, length-take n xs))

  pub none-fronts : Fronts 0 out
  none-fronts = fronts 0 out (omega arith)

  pub long-fronts : {most r : ℕ} {out' : List ℕ} → Wrote 0 text most out out' r → Fronts r out'
  long-fronts {most} {r} {out'} w = fronts r out' (subst (λ (l : List ℕ). r ≤ length l) (sym w.lays) (omega (arith, w.ends, w.room, laid-length 0 text out w.room)))
