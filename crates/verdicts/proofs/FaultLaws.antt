-- What the verdict comes to, by what was refused first.
use Rattle.std.specs.Prelude.{ℕ, ◌≡◌, refl, false, List, length, Result, Ok, Err, IsErrAnd}
use Rattle.std.proofs.Common.{ap, ◌∙◌}
use Rattle.verdicts.specs.declared.faults.Fault.{Fault}
use Rattle.verdicts.specs.declared.history.History.{History}
use Rattle.verdicts.specs.declared.history.Known.{Known}
use Rattle.verdicts.specs.Faults.{number, faulted}
use Rattle.verdicts.specs.Verdict.{fresh, zeros, judged_known, judged, verdict_of}
use Rattle.verdicts.specs.Rows.{rows_of, numbers_of}
use Rattle.verdicts.specs.Histories.{Reads, is_history}
use Rattle.verdicts.specs.Knowing.{Knows, is_fresh}
use Rattle.verdicts.proofs.CutLaws.{rows-long}

-- what `?` hands on
pub handed : {A : Type 0} (r : Result A Fault) (fault : Fault) → IsErrAnd r (λ e. e ≡ fault) → faulted r ≡ number fault
handed (Ok x) fault h = absurd h
handed (Err e) fault h = ap number h

pub no-history : (bytes : List ℕ) → is_history bytes ≡ false → 22 ≡ verdict_of bytes
unfolding verdict_of
no-history bytes e = rw e refl

module _ (bytes : List ℕ) (history : History) (r : Reads bytes history) where
  of-history : verdict_of bytes ≡ judged (rows_of history.rows.now) (numbers_of history.order.now)
  unfolding verdict_of
  of-history = rw (r.whole, r.rows-are, r.order-is) refl

  tested : fresh (length (rows_of history.rows.now)) (zeros 1025) (numbers_of history.order.now) ≡ is_fresh history (zeros 1025)
  tested = ap (λ (n : ℕ). fresh n (zeros 1025) (numbers_of history.order.now)) (rows-long history.rows.now)

  pub stale : is_fresh history (zeros 1025) ≡ false → 23 ≡ verdict_of bytes
  unfolding judged
  stale e = rw (of-history, tested ∙ e) refl

  pub known-judged : (known : Known) (seen : List ℕ) → Knows history (zeros 1025) known seen
      → judged_known seen (rows_of known.history.rows.now) (numbers_of known.history.order.now) ≡ verdict_of bytes
  unfolding judged
  known-judged known seen k =
      ap (λ (h : History). judged_known seen (rows_of h.rows.now) (numbers_of h.order.now)) k.same ∙ rw (of-history, tested ∙ k.fresh-order, ← k.marks) refl
