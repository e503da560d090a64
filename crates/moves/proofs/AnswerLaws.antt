-- What the plain rules answer to a message in flight, in each case of a delivery.
use Rattle.std.specs.Prelude.{ℕ, ◌-◌, ◌≤◌, ◌<◌, ◌≡◌, true, leb, set, Option, Some, None}
use Rattle.std.proofs.Math.Path.{refl, ap}
use Rattle.std.proofs.Common.{◌∙◌, eq-eqb, ne_eqb, le-leb}
use Rattle.std.proofs.lemmas.Bool.{false≢true, lt-leb}
use Rattle.words.specs.declared.Body.{Body}
use Rattle.words.specs.declared.Body.TheVariants.{Query, Response, Update, Ack}
use Rattle.words.specs.declared.Message.{Message}
use Rattle.words.specs.declared.Pair.{Pair}
use Rattle.words.specs.Quorum.{joined, counted, majority_of}
use Rattle.words.specs.Stamps.{newer}
use Rattle.replica.specs.Answer.{Answer}
use Rattle.replica.specs.declared.Ended.TheVariants.{Pending, Query as Queried, At as Ended}
use Rattle.replica.specs.declared.Gathered.{Gathered}
use Rattle.replica.specs.declared.Phase.{Phase}
use Rattle.replica.specs.declared.Phase.TheVariants.{Idle, Querying, Updating}
use Rattle.replica.specs.declared.Replica.{Replica}
use Rattle.replica.specs.declared.Sends.TheVariants.{Nothing}
use Rattle.replica.specs.Gathering.{gathered_with}
use Rattle.replica.specs.Handlers.{discarded, stored, query_rule, update_rule}
use Rattle.replica.specs.Answer.{accepted}
use Rattle.replica.specs.Handlers.{response_counts, response_taken, response_counted, response_rule, ack_counts, ack_taken, ack_counted, ack_rule}
use Rattle.state.specs.State.{State, row_of}
use Rattle.state.specs.Step.{asked_register}
use Rattle.state.proofs.FollowsLaws.{either_way}
use Rattle.state.specs.Accepted.{message_at, recipient_at, plain_by, plain}
use Rattle.state.specs.Needed.{needed}
use Rattle.moves.specs.Stages.{Stage, is_reply, stage_of, stage_for}
use Rattle.moves.specs.Move.{Responds, Acks, Discarded, clock_then, repliers_then, hearing, counting, ending, replying, telling}

-- the plain rules refuse nothing
pub plain-accepts : (s : State) (r : Replica) (m : Message) (body : Body) → (plain_by s r m body).refusal ≡ 0
unfolding query_rule update_rule response_rule response_counted ack_rule ack_counted
plain-accepts s r m (Query x) = refl
plain-accepts s r m (Update x pair) = refl
plain-accepts s r m (Response pair) = go (response_counts r.phase r.rid m.rid)
  where
    go : (c : Option (ℕ × Gathered)) → (response_taken c r s.n (asked_register s r.phase) m.from m.time pair).refusal ≡ 0
    go None = refl
    go (Some waiting) = either_way (λ (a : Answer). a.refusal ≡ 0) (leb (majority_of s.n) (counted (joined r.repliers m.from.0))) _ _ refl refl
plain-accepts s r m Ack = go (ack_counts r.phase r.rid m.rid)
  where
    go : (c : Option (ℕ × Pair)) → (ack_taken c r s.n m.from m.time).refusal ≡ 0
    go None = refl
    go (Some waiting) = either_way (λ (a : Answer). a.refusal ≡ 0) (leb (majority_of s.n) (counted (joined r.repliers m.from.0))) _ _ refl refl

module _ (s : State) (i : ℕ) where
  abbrev pub answer_at : Answer
  answer_at = plain s (recipient_at s i) (message_at s i)

  by-body : (body : Body) → (message_at s i).body ≡ body → answer_at ≡ plain_by s (recipient_at s i) (message_at s i) body
  by-body body e = ap (plain_by s (recipient_at s i) (message_at s i)) e

  pub query-answer : (x : ℕ) → (message_at s i).body ≡ Query x
      → answer_at ≡ accepted (hearing s i (recipient_at s i).pairs) (replying s i (Response (stored (recipient_at s i) x))) Pending
  unfolding query_rule
  query-answer x e = by-body (Query x) e

  pub update-answer : (x : ℕ) (pair : Pair) → (message_at s i).body ≡ Update x pair
      → answer_at
      ≡ accepted (hearing s i (set (recipient_at s i).pairs (x - 1) (newer (stored (recipient_at s i) x) pair))) (replying s i Ack) Pending
  unfolding update_rule
  update-answer x pair e = by-body (Update x pair) e

  -- a reply counts in the phase that it is of, with the request number that it bears
  module _ (row : ℕ) (gathered : Gathered) (pair : Pair) (c : Responds s i row gathered pair) where
    counted-response : answer_at
        ≡ response_counted (recipient_at s i) s.n (row_of s row).register (message_at s i).from (message_at s i).time row (gathered_with gathered pair)
    unfolding response_rule
    counted-response =
        by-body (Response pair) c.body
        ∙ ap (λ phase. response_taken (response_counts phase (recipient_at s i).rid (message_at s i).rid) (recipient_at s i) s.n
        (asked_register s phase) (message_at s i).from (message_at s i).time pair) c.phase
        ∙ rw (eq-eqb _ _ c.present) refl

    pub counts-answer : counted (repliers_then s i) < needed s (Querying row gathered)
        → answer_at ≡ accepted (counting s i (Querying row (gathered_with gathered pair))) Nothing Pending
    unfolding response_counted
    counts-answer few = counted-response ∙ rw (lt-leb _ _ few) refl

    pub chooses-answer : needed s (Querying row gathered) ≤ counted (repliers_then s i)
        → answer_at
        ≡ accepted (ending s i (Updating row (newer gathered.best pair))) (telling s i (row_of s row).register (newer gathered.best pair))
        (Queried (repliers_then s i))
    unfolding response_counted
    chooses-answer enough = counted-response ∙ rw (le-leb _ _ enough) refl

  module _ (row : ℕ) (sent : Pair) (c : Acks s i row sent) where
    counted-ack : answer_at ≡ ack_counted (recipient_at s i) s.n (message_at s i).from (message_at s i).time row sent
    unfolding ack_rule
    counted-ack =
        by-body Ack c.body
        ∙ ap (λ phase. ack_taken (ack_counts phase (recipient_at s i).rid (message_at s i).rid) (recipient_at s i) s.n
        (message_at s i).from (message_at s i).time) c.phase
        ∙ rw (eq-eqb _ _ c.present) refl

    pub gathers-answer : counted (repliers_then s i) < needed s (Updating row sent) → answer_at ≡ accepted (counting s i (Updating row sent)) Nothing Pending
    unfolding ack_counted
    gathers-answer few = counted-ack ∙ rw (lt-leb _ _ few) refl

    pub completes-answer : needed s (Updating row sent) ≤ counted (repliers_then s i)
        → answer_at ≡ accepted (ending s i Idle) Nothing (Ended (record { 0 = clock_then s i }) sent (repliers_then s i))
    unfolding ack_counted
    completes-answer enough = counted-ack ∙ rw (le-leb _ _ enough) refl

  -- any other reply changes nothing
  pub discards-answer : Discarded s i → answer_at ≡ discarded (recipient_at s i)
  unfolding response_rule ack_rule
  discards-answer d = by (message_at s i).body d.reply d.another
    where
      Another : Stage → Phase → Type 0
      Another stage phase = stage_of phase ≡ stage → (message_at s i).rid.0 ≡ (recipient_at s i).rid.0 → ⊥

      response : (pair : Pair) (x : ℕ) (phase : Phase) → Another Stage.querying phase
          → response_taken (response_counts phase (recipient_at s i).rid (message_at s i).rid) (recipient_at s i) s.n x
          (message_at s i).from (message_at s i).time pair ≡ discarded (recipient_at s i)
      response pair x Idle n = refl
      response pair x (Querying row gathered) n = rw (ne_eqb _ _ (n refl)) refl
      response pair x (Updating row sent) n = refl

      ack : (phase : Phase) → Another Stage.updating phase
          → ack_taken (ack_counts phase (recipient_at s i).rid (message_at s i).rid) (recipient_at s i) s.n
          (message_at s i).from (message_at s i).time ≡ discarded (recipient_at s i)
      ack Idle n = refl
      ack (Querying row gathered) n = refl
      ack (Updating row sent) n = rw (ne_eqb _ _ (n refl)) refl

      by : (body : Body) → is_reply body ≡ true → Another (stage_for body) (recipient_at s i).phase
          → plain_by s (recipient_at s i) (message_at s i) body ≡ discarded (recipient_at s i)
      by (Query x) e n = absurd (false≢true e)
      by (Response pair) e n = response pair _ (recipient_at s i).phase n
      by (Update x pair) e n = absurd (false≢true e)
      by Ack e n = ack (recipient_at s i).phase n
