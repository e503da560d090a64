-- Demand 3 of the replay, for every file of bytes: what `replay` lays at the front of a buffer that is long enough tells of the run of that file.
use Rattle.std.specs.Prelude.{ℕ, ◌+◌, ◌≤◌, ◌≡◌, Bool, cond, List, drop}
use Rattle.std.proofs.Common.{sym, subst, ◌∙◌, eq-eqb, ne_eqb, le-leb}
use Rattle.std.proofs.Math.Path.{ap}
use Rattle.std.proofs.Math.ListN.{length, take}
use Rattle.std.proofs.Math.Seq.{take-append_seam}
use Rattle.tables.specs.Tables.{laid_at}
use Rattle.state.specs.Reached.{Reached}
use Rattle.format.specs.Format.{file_refusal}
use Rattle.format.proofs.FileLaws.{file-opens}
use Rattle.schedule.proofs.FileLaws.{file-reached}
use Rattle.consistency.proofs.Demand3Laws.{sequential, real_time}
use Rattle.replaying.specs.Replayed.{replayed, replay_reply, replay_left}
use Rattle.replaying.proofs.ReplayedLaws.{replayed-run, replayed-refused}
use Rattle.promised.specs.Told.{final_state, Explains, Told}

module _ (bytes : List ℕ) where
  module _ (z : file_refusal bytes ≡ 0) where
    was-reached : Reached (final_state bytes)
    was-reached = file-reached bytes (file-opens bytes z)

    text-explains : Explains bytes (replayed bytes)
    text-explains =
        record {
          told = replayed-run bytes (eq-eqb (file_refusal bytes) 0 z);
          reached = was-reached;
          consistent = sequential (final_state bytes) was-reached;
          in-time = real_time (final_state bytes) was-reached;
        }

  text-told : Told bytes (replayed bytes)
  text-told = record { explains = text-explains; refuses = λ n. replayed-refused bytes (ne_eqb (file_refusal bytes) 0 n) }

  module _ (out : List ℕ) (long : 81563 ≤ length out) where
    -- as many bytes of the buffer as `replay` says
    front : take (replay_reply bytes out) (replay_left bytes out) ≡ replayed bytes
    unfolding replay_reply replay_left
    front =
        ap (λ (t : Bool). take (cond t (length (replayed bytes)) 0) (cond t (laid_at 0 (replayed bytes) out) out)) (le-leb 81563 (length out) long)
        ∙ take-append_seam (replayed bytes) (drop (0 + length (replayed bytes)) out)

    pub replay-explains : Told bytes (take (replay_reply bytes out) (replay_left bytes out))
    replay-explains = subst (Told bytes) (sym front) text-told
