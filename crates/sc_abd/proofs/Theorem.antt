-- Our bench meets demand 2.
use Rattle.std.specs.Prelude.{ℕ, ◌-◌, refl}
use Rattle.std.proofs.Common.{ap}
use Rattle.words.specs.Stamps.{start_pair}
use Rattle.state.specs.State.{State, fresh}
use Rattle.state.specs.Step.{step}
use Rattle.state.specs.Reached.{Reached}
use Rattle.state.proofs.Keeps.{reached-well-formed}
use Rattle.state.proofs.Refusals.{refused-changes-nothing, accepted-counts-once, sizes-stay}
use Rattle.state.proofs.Sized.{reached-sized}
use Rattle.state.proofs.WellLaws.{Well, well}
use Rattle.state.proofs.EveryLaws.{get_or-empty}
use Rattle.sc_abd.specs.System.{started}
use Rattle.sc_abd.specs.Same.{tsv_of, Same}
use Rattle.sc_abd.specs.Demand2.{ReachedBy, Demand2}
use Rattle.sc_abd.proofs.Complete.{step-complete}
use Rattle.moves.specs.Places.{fresh-replica}
use Rattle.sc_abd.proofs.Repliers.{none-replied}
use Rattle.moves.proofs.RequestNumberLaws.{reached-numbered}
use Rattle.sc_abd.proofs.Sound.{step-sound}

-- ---- a fresh bench is the algorithm's start

start-same : (n m : ℕ) → Same (fresh n m) (started n)
start-same n m =
    record {
      size = refl;
      processes = λ p l h. rw (fresh-replica n m p) (record {
        clock = refl;
        number = refl;
        store = λ x least most. ap tsv_of (get_or-empty 16 (x - 1) start_pair);
        replies = none-replied;
        waits = refl;
        phase = refl;
      });
      down = λ p l h. rw (fresh-replica n m p) refl;
      flight = refl;
      history = refl;
    }

pub reached : {s : State} → ReachedBy step s → Reached s
reached (ReachedBy.start n m e f) = Reached.start n m e f
reached (ReachedBy.next s e r z) = Reached.next s e (reached r) z

pub reached-well : {s : State} → ReachedBy step s → Well s
reached-well {s} r = well s (reached-well-formed s (reached r))

pub step-meets-demand2 : Demand2 step
step-meets-demand2 =
    record {
      starts = λ n m e f. start-same n m;
      sound = λ s a e r same z. step-sound s (reached-well r) (reached-numbered s (reached r)) a same e z;
      complete = λ s a action r same on limits.
          step-complete s (reached-well r) (reached-numbered s (reached r)) (reached-sized s (reached r)).rows a same action on limits;
      counted = λ s e r z. (accepted-counts-once s e z, (sizes-stay s e).1);
      refused = λ s e r n. refused-changes-nothing s e n;
    }
