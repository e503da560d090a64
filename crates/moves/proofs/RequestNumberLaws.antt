-- Every move keeps the invariant of request numbers, so every state reached has it, the limit of events set aside or not.
use Rattle.std.specs.Prelude.{ℕ, ◌≤◌, ◌≡◌}
use Rattle.std.proofs.Common.{ap, arith}
use Rattle.words.specs.Quorum.{member}
use Rattle.state.specs.declared.Event.{Event}
use Rattle.state.specs.State.{State, fresh}
use Rattle.state.specs.Reached.{Reached}
use Rattle.moves.specs.Effect.{Effect, After}
use Rattle.moves.specs.Effect.Effect.{kept, asked, ended, lost}
use Rattle.moves.proofs.EffectLaws.{move-after}
use Rattle.moves.specs.Free.{FreelyReached}
use Rattle.moves.proofs.FreeLaws.{freely-kept, reached-freely}
use Rattle.moves.specs.Lists.{one}
use Rattle.moves.specs.Move.{Move}
use Rattle.moves.specs.OfLaws.{member-empty}
use Rattle.moves.specs.Placed.{Placed}
use Rattle.moves.proofs.PlacedLaws.{freely-placed}
use Rattle.moves.specs.Places.{fresh-replica}
use Rattle.moves.specs.RequestNumbers.{exchanged, Numbered}

after-numbered : {s t : State} → Numbered s → After s t → Numbered t
after-numbered {s} {t} n a = record { timely = a.timely; once = λ p j l. by (a.effect p j l) (n.once p j l) }
  where
    by : {p j : ℕ} → Effect s t p j → exchanged s p j ≤ 1 → exchanged t p j ≤ 1
    by (kept stays e) l = omega arith
    by (asked on most one) l = most
    by (ended on idle e) l = omega arith
    by (lost stays down fewer) l = omega arith

pub move-numbered : {s t : State} {e : Event} → Placed s → Numbered s → Move s e t → Numbered t
move-numbered w n move = after-numbered n (move-after w n move)

fresh-numbered : (n m : ℕ) → Numbered (fresh n m)
fresh-numbered n m =
    record {
      timely = tt;
      once = λ p j l. rw (fresh-replica n m p) (let e : one (member 0 j) ≡ 0 = ap one (member-empty j) in omega arith);
    }

pub freely-numbered : {s : State} → FreelyReached s → Numbered s
freely-numbered = freely-kept Numbered (λ n m e f. fresh-numbered n m) (λ s e t r n move. move-numbered (freely-placed r) n move)

pub reached-numbered : (s : State) → Reached s → Numbered s
reached-numbered s r = freely-numbered (reached-freely r)
