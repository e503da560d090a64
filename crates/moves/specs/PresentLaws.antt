-- What the invariant of request numbers says of a message in flight that is a reply of its recipient's present number.
use Rattle.std.specs.Prelude.{ℕ, ◌≤◌, ◌<◌, ◌≡◌, true, false, length}
use Rattle.std.proofs.Common.{ap, ◌∙◌, arith}
use Rattle.words.specs.Quorum.{member}
use Rattle.tables.specs.Tables.{empty_message}
use Rattle.state.specs.State.{State, replica_of}
use Rattle.state.specs.Accepted.{message_at}
use Rattle.moves.specs.Lists.{one, all-at, count-removed}
use Rattle.moves.specs.OfLaws.{of-all, reply-asker, reply-asked, is_false}
use Rattle.moves.specs.RequestNumbers.{Timely, is_of, Known, Numbered}
use Rattle.moves.specs.Stages.{is_reply, asker, stage_of, stage_for}

module _ (s : State) (n : Numbered s) (i : ℕ) (l : i < length s.flight) where
  pub known_at : Known s (message_at s i)
  known_at = all-at (Known s) s.flight empty_message i l n.timely

  module _ (p : ℕ) (to : (message_at s i).to.0 ≡ p) (reply : is_reply (message_at s i).body ≡ true) (present : (message_at s i).rid.0 ≡ (replica_of s p).rid.0)
    where
      mine : asker (message_at s i) ≡ p
      mine = reply-asker (message_at s i) reply ∙ to

      -- it is of the phase that its recipient is in
      pub present-stage : stage_of (replica_of s p).phase ≡ stage_for (message_at s i).body
      present-stage = let known : Timely (replica_of s p) (message_at s i) = rw mine at known_at.1 in known.present present

      pub own-reply : is_of p (message_at s i).from.0 (replica_of s p).rid.0 (message_at s i) ≡ true
      own-reply = of-all _ _ _ (message_at s i) mine (reply-asked (message_at s i) reply) present

      -- and its sender is not counted yet
      pub not-counted : 1 ≤ p → member (replica_of s p).repliers (message_at s i).from.0 ≡ false
      not-counted least =
          is_false _ λ e.
          omega (
            arith,
            ap one e,
            n.once p (message_at s i).from.0 least,
            rw own-reply at (count-removed (is_of p (message_at s i).from.0 (replica_of s p).rid.0) s.flight empty_message i l),
          )
