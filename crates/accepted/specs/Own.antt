-- Our own histories are always accepted: the history file of every state that was reached, and what `history` writes of any file of bytes that starts a bench.
use Rattle.std.specs.Prelude.{◌≡◌, List, ℕ}
use Rattle.std.proofs.Common.{eq-eqb}
use Rattle.state.specs.State.{State}
use Rattle.state.specs.Reached.{Reached}
use Rattle.format.specs.Format.{file_refusal}
use Rattle.format.proofs.FileLaws.{file-opens}
use Rattle.schedule.specs.Opening.{ran_file}
use Rattle.schedule.proofs.FileLaws.{file-reached}
use Rattle.verdicts.specs.Verdict.{verdict_of}
use Rattle.histories.specs.OwnFile.{file_of, own_file}
use Rattle.recording.specs.Recording.{recorded}
use Rattle.accepted.specs.OwnLaws.{own-judged}

pub own-accepted : (s : State) → Reached s → verdict_of (own_file s.rows) ≡ 0
unfolding own_file file_of
own-accepted s r = own-judged s r

module _ (bytes : List ℕ) (e : file_refusal bytes ≡ 0) where
  pub schedule-accepted : verdict_of (own_file (ran_file bytes).state.rows) ≡ 0
  unfolding own_file file_of
  schedule-accepted = own-judged (ran_file bytes).state (file-reached bytes (file-opens bytes e))

  pub recorded-accepted : verdict_of (recorded bytes) ≡ 0
  unfolding recorded
  recorded-accepted = rw (eq-eqb (file_refusal bytes) 0 e) schedule-accepted
