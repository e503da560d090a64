-- Laws of the handlers: what a refusal says, and that inside the ranges a handler is its plain rule.
use Rattle.std.specs.Prelude.{ℕ, ◌-◌, ◌≡◌, refl, Bool, true, false, cond, ◌&&◌, ◌⊎◌, leb, eqb, ℤ, set, Some, None}
use Rattle.std.proofs.Common.{sym, ◌∙◌, inl, inr, eq-eqb, ne_eqb}
use Rattle.std.proofs.Math.Path.{ap}
use Rattle.std.proofs.Math.Bool.{and-false}
use mathlib.Core.List.{List}
use Rattle.std.proofs.Math.Seq.{set-get_or}
use Rattle.std.proofs.lemmas.Bool.{eqb-false}
use Rattle.replica.specs.Answer.{Answer, accepted, refused}
use Rattle.words.specs.declared.Pair.{Pair}
use Rattle.words.specs.declared.Pid.{Pid}
use Rattle.replica.specs.declared.Replica.{Replica}
use Rattle.words.specs.declared.Rid.{Rid}
use Rattle.words.specs.declared.Time.{Time}
use Rattle.replica.specs.declared.Ended.TheVariants.{Pending}
use Rattle.words.specs.declared.Body.TheVariants.{Ack}
use Rattle.replica.specs.Clock.{after}
use Rattle.replica.specs.Gathering.{gathered_with}
use Rattle.replica.specs.declared.Gathered.{Gathered}
use Rattle.replica.specs.declared.Phase.{Phase}
use Rattle.replica.specs.declared.Phase.TheVariants.{Idle, Querying, Updating}
use Rattle.replica.specs.Handlers.{
  became,
  reply_of,
  stored,
  unless_refused,
  is_idle,
  begin_refusal,
  down_refusal,
  read_refusal,
  read_rule,
  read_begun,
  write_refusal,
  write_rule,
  write_begun,
  stored_fits,
  request_fits,
  query_refusal,
  query_rule,
  query_received,
  update_refusal,
  update_rule,
  update_received,
  reply_fits,
  discarded,
  response_counts,
  response_taken,
  response_counted,
  ack_counts,
  ack_taken,
  ack_counted,
  response_refusal,
  response_rule,
  response_received,
  ack_refusal,
  ack_rule,
  ack_received,
  crash_refusal,
  crash_rule,
  crashed,
}
use Rattle.words.specs.Limits.{most_rows, most_time, most_rid}
use Rattle.words.specs.Ranges.{within, pair_fits, sender_fits, repliers_fit}
use Rattle.replica.specs.Ranges.{replica_inside}
use Rattle.words.specs.RangeLaws.{and_left, and_right, and-unless}
use Rattle.words.specs.Stamps.{start_pair, AtMost}
use Rattle.words.proofs.StampLaws.{newer-kept, at_most-reflexive}

-- ---- a number that is 0 lets the rule through, another one refuses

module _ (m number : ℕ) (r : Replica) (rule : Answer) (is : m ≡ number) where
  pub rule-by : m ≡ 0 → rule ≡ unless_refused number r rule
  rule-by e = simp (eq-eqb number 0 (sym is ∙ e))

  pub refuse-by : (m ≡ 0 → ⊥) → refused m r ≡ unless_refused number r rule
  refuse-by n =
      let k : number ≡ 0 → ⊥ = λ e. n (is ∙ e) in
      simp (ne_eqb number 0 k) (ap (λ x. refused x r) is)

begin-inside : (fits crashed idle : Bool) → begin_refusal fits crashed idle ≡ 0 → fits ≡ true
unfolding begin_refusal
begin-inside true crashed idle e = refl
begin-inside false crashed idle e = absurd (eqb-false _ 0 refl e)

down-inside : (number : ℕ) (fits crashed : Bool) → down_refusal number fits crashed ≡ 0 → fits ≡ true
unfolding down_refusal
down-inside number true crashed e = refl
down-inside number false crashed e = absurd (eqb-false _ 0 refl e)

-- ---- a reply counts in its phase and with the present request number; any other is discarded

module _ (r : Replica) (n x : ℕ) (from : Pid) (time : Time) (rid : Rid) (pair : Pair) where
  response_by : Phase → Answer
  response_by phase = response_taken (response_counts phase r.rid rid) r n x from time pair

  pub response-for : (row : ℕ) (gathered : Gathered) → r.phase ≡ Querying row gathered → true ≡ eqb rid.0 r.rid.0 → response_counted r n x from time row (gathered_with gathered pair) ≡ response_rule r n x from time rid pair
  unfolding response_rule response_by
  response-for row gathered is same =
      sym (ap response_by is ∙ ap (λ b. response_taken (cond b (Some (row, gathered)) None) r n x from time pair) (sym same))

  pub response-late : (row : ℕ) (gathered : Gathered) → r.phase ≡ Querying row gathered → false ≡ eqb rid.0 r.rid.0 → discarded r ≡ response_rule r n x from time rid pair
  unfolding response_rule response_by
  response-late row gathered is other =
      sym (ap response_by is ∙ ap (λ b. response_taken (cond b (Some (row, gathered)) None) r n x from time pair) (sym other))

  pub response-idle : ((row : ℕ) (gathered : Gathered) → r.phase ≡ Querying row gathered → ⊥) → discarded r ≡ response_rule r n x from time rid pair
  unfolding response_rule response_by
  response-idle none = go r.phase refl
    where
      go : (phase : Phase) → r.phase ≡ phase → discarded r ≡ response_by phase
      go Idle e = refl
      go (Querying row gathered) e = absurd (none row gathered e)
      go (Updating row sent) e = refl

module _ (r : Replica) (n : ℕ) (from : Pid) (time : Time) (rid : Rid) where
  ack_by : Phase → Answer
  ack_by phase = ack_taken (ack_counts phase r.rid rid) r n from time

  pub ack-for : (row : ℕ) (sent : Pair) → r.phase ≡ Updating row sent → true ≡ eqb rid.0 r.rid.0 → ack_counted r n from time row sent ≡ ack_rule r n from time rid
  unfolding ack_rule ack_by
  ack-for row sent is same = sym (ap ack_by is ∙ ap (λ b. ack_taken (cond b (Some (row, sent)) None) r n from time) (sym same))

  pub ack-late : (row : ℕ) (sent : Pair) → r.phase ≡ Updating row sent → false ≡ eqb rid.0 r.rid.0 → discarded r ≡ ack_rule r n from time rid
  unfolding ack_rule ack_by
  ack-late row sent is other = sym (ap ack_by is ∙ ap (λ b. ack_taken (cond b (Some (row, sent)) None) r n from time) (sym other))

  pub ack-idle : ((row : ℕ) (sent : Pair) → r.phase ≡ Updating row sent → ⊥) → discarded r ≡ ack_rule r n from time rid
  unfolding ack_rule ack_by
  ack-idle none = go r.phase refl
    where
      go : (phase : Phase) → r.phase ≡ phase → discarded r ≡ ack_by phase
      go Idle e = refl
      go (Querying row gathered) e = refl
      go (Updating row sent) e = absurd (none row sent e)

-- ---- what is accepted was inside the ranges

pub read-inside : (r : Replica) (x row : ℕ) → {m : ℕ} → m ≡ read_refusal r x row → m ≡ 0 → replica_inside 7 r ≡ true
unfolding read_refusal
read-inside r x row is e = and_left _ _ (and_left _ _ (begin-inside _ _ _ (sym is ∙ e)))

pub write-inside : (r : Replica) (me : Pid) (x row : ℕ) → {m : ℕ} → m ≡ write_refusal r me x row → m ≡ 0 → replica_inside 7 r ≡ true
unfolding write_refusal
write-inside r me x row is e = and_left _ _ (and_left _ _ (and_left _ _ (begin-inside _ _ _ (sym is ∙ e))))

abbrev pub RequestInside : Replica → Pid → Time → Rid → ℕ → Type 0
RequestInside r from time rid x = (replica_inside 7 r ≡ true) × (sender_fits 7 from time rid ≡ true) × (within x 16 ≡ true)

request-inside : (r : Replica) (from : Pid) (time : Time) (rid : Rid) (x : ℕ) → request_fits r from time rid x ≡ true → RequestInside r from time rid x
request-inside r from time rid x e =
    let both : (replica_inside 7 r && sender_fits 7 from time rid) ≡ true = and_left _ (stored_fits r x) e in (
      and_left (replica_inside 7 r) (sender_fits 7 from time rid) both,
      and_right (replica_inside 7 r) (sender_fits 7 from time rid) both,
      and_left (within x 16) _ (and_right (replica_inside 7 r && sender_fits 7 from time rid) (stored_fits r x) e),
    )

pub query-inside : (r : Replica) (from : Pid) (time : Time) (rid : Rid) (x : ℕ) → {m : ℕ} → m ≡ query_refusal r from time rid x → m ≡ 0 → RequestInside r from time rid x
unfolding query_refusal
query-inside r from time rid x is e = request-inside r from time rid x (down-inside _ _ _ (sym is ∙ e))

pub update-inside : (r : Replica) (from : Pid) (time : Time) (rid : Rid) (x : ℕ) (pair : Pair) → {m : ℕ} → m ≡ update_refusal r from time rid x pair → m ≡ 0 → RequestInside r from time rid x
unfolding update_refusal
update-inside r from time rid x pair is e =
    request-inside r from time rid x (and_left (request_fits r from time rid x) (pair_fits most_time 7 pair) (down-inside _ _ _ (sym is ∙ e)))

abbrev pub ReplyInside : Replica → ℕ → Pid → Time → Rid → Type 0
ReplyInside r n from time rid = (replica_inside n r ≡ true) × (sender_fits n from time rid ≡ true)

reply-inside : (r : Replica) (n : ℕ) (from : Pid) (time : Time) (rid : Rid) → reply_fits r n from time rid ≡ true → ReplyInside r n from time rid
reply-inside r n from time rid e =
    let both : (replica_inside n r && sender_fits n from time rid) ≡ true = and_left _ (within n 7) e in
    (and_left (replica_inside n r) (sender_fits n from time rid) both, and_right (replica_inside n r) (sender_fits n from time rid) both)

pub response-inside : (r : Replica) (n x : ℕ) (from : Pid) (time : Time) (rid : Rid) (pair : Pair) → {m : ℕ} → m ≡ response_refusal r n x from time rid pair → m ≡ 0 → ReplyInside r n from time rid
unfolding response_refusal
response-inside r n x from time rid pair is e =
    reply-inside r n from time rid
    (and_left (reply_fits r n from time rid) (within x 16) (and_left (reply_fits r n from time rid && within x 16) (pair_fits most_time 7 pair) (down-inside _ _ _ (sym is ∙ e))))

pub ack-inside : (r : Replica) (n : ℕ) (from : Pid) (time : Time) (rid : Rid) → {m : ℕ} → m ≡ ack_refusal r n from time rid → m ≡ 0 → ReplyInside r n from time rid
unfolding ack_refusal
ack-inside r n from time rid is e = reply-inside r n from time rid (down-inside _ _ _ (sym is ∙ e))

-- ---- inside the ranges, of a replica that is up (and idle, for an invocation), a handler is its plain rule. The layer above cites these

begin-accepts : (fits crashed idle : Bool) → fits ≡ true → crashed ≡ false → idle ≡ true → begin_refusal fits crashed idle ≡ 0
unfolding begin_refusal
begin-accepts fits crashed idle e f g = simp (e, f, g)

down-accepts : (number : ℕ) (fits crashed : Bool) → fits ≡ true → crashed ≡ false → down_refusal number fits crashed ≡ 0
unfolding down_refusal
down-accepts number fits crashed e f = simp (e, f)

pub read-is-rule : (r : Replica) (x row : ℕ) → (replica_inside 7 r && within x 16 && within row most_rows) ≡ true → r.crashed ≡ false → is_idle r.phase ≡ true → read_begun r x row ≡ read_rule r x row
unfolding read_begun read_refusal
read-is-rule r x row e f g = sym (rule-by _ _ r _ refl (begin-accepts _ _ _ e f g))

pub write-is-rule : (r : Replica) (me : Pid) (x : ℕ) (value : ℤ) (row : ℕ) → (replica_inside 7 r && within me.0 7 && within x 16 && within row most_rows) ≡ true → r.crashed ≡ false → is_idle r.phase ≡ true → write_begun r me x value row ≡ write_rule r me x value row
unfolding write_begun write_refusal
write-is-rule r me x value row e f g = sym (rule-by _ _ r _ refl (begin-accepts _ _ _ e f g))

pub query-is-rule : (r : Replica) (from : Pid) (time : Time) (rid : Rid) (x : ℕ) → request_fits r from time rid x ≡ true → r.crashed ≡ false → query_received r from time rid x ≡ query_rule r from time rid x
unfolding query_received query_refusal
query-is-rule r from time rid x e f = sym (rule-by _ _ r _ refl (down-accepts 13 _ _ e f))

pub update-is-rule : (r : Replica) (from : Pid) (time : Time) (rid : Rid) (x : ℕ) (pair : Pair) → (request_fits r from time rid x && pair_fits most_time 7 pair) ≡ true → r.crashed ≡ false → update_received r from time rid x pair ≡ update_rule r from time rid x pair
unfolding update_received update_refusal
update-is-rule r from time rid x pair e f = sym (rule-by _ _ r _ refl (down-accepts 13 _ _ e f))

pub response-is-rule : (r : Replica) (n x : ℕ) (from : Pid) (time : Time) (rid : Rid) (pair : Pair) → (reply_fits r n from time rid && within x 16 && pair_fits most_time 7 pair) ≡ true → r.crashed ≡ false → response_received r n x from time rid pair ≡ response_rule r n x from time rid pair
unfolding response_received response_refusal
response-is-rule r n x from time rid pair e f = sym (rule-by _ _ r _ refl (down-accepts 13 _ _ e f))

pub ack-is-rule : (r : Replica) (n : ℕ) (from : Pid) (time : Time) (rid : Rid) → reply_fits r n from time rid ≡ true → r.crashed ≡ false → ack_received r n from time rid ≡ ack_rule r n from time rid
unfolding ack_received ack_refusal
ack-is-rule r n from time rid e f = sym (rule-by _ _ r _ refl (down-accepts 13 _ _ e f))

pub crash-is-rule : (r : Replica) → replica_inside 7 r ≡ true → r.crashed ≡ false → crashed r ≡ crash_rule r
unfolding crashed crash_refusal
crash-is-rule r e f = sym (rule-by _ _ r _ refl (down-accepts 10 _ _ e f))

-- ---- a reply from none of 1..n, or to a set with a member that is none of them, is refused by 18, and nothing changes

abbrev pub Stranger : Replica → ℕ → Pid → Type 0
Stranger r n from = (within from.0 n ≡ false) ⊎ (repliers_fit n r.repliers ≡ false)

module _ (r : Replica) (n : ℕ) (from : Pid) (time : Time) (rid : Rid) (stranger : Stranger r n from) where
  reply-outside : reply_fits r n from time rid ≡ false
  reply-outside =
      let a : Bool = leb r.clock.0 most_time && leb r.rid.0 most_rid in
      elim stranger [
        | inl e ↦ simp (and-unless (within from.0 n) (leb time.0 most_time) e, and-false)
        | inr e ↦ simp (e, and-false a)
      ]

  pub ack-outside : ack_received r n from time rid ≡ refused 18 r
  unfolding ack_received ack_refusal down_refusal
  ack-outside = simp reply-outside

  pub response-outside : (x : ℕ) (pair : Pair) → response_received r n x from time rid pair ≡ refused 18 r
  unfolding response_received response_refusal down_refusal
  response-outside x pair = simp reply-outside

-- ---- an update whose stamp is not greater than the stored one leaves the store as it is, and is acked; only the clock moves. With an equal stamp this
-- is P4, of every replica that is up, every register and every pair inside the ranges

abbrev pub only_acked : Replica → Pid → Time → Rid → Answer
only_acked r from time rid =
    let clock = after r.clock.0 time.0 in
    accepted (became r clock r.rid.0 r.phase r.repliers r.pairs) (reply_of from clock rid.0 Ack) Pending

module _ (r : Replica) (from : Pid) (time : Time) (rid : Rid) (x : ℕ) (pair : Pair) (fits : (request_fits r from time rid x && pair_fits most_time 7 pair) ≡ true) (up : r.crashed ≡ false) where
  pub old-update : AtMost pair.stamp (stored r x).stamp → update_received r from time rid x pair ≡ only_acked r from time rid
  unfolding update_rule
  old-update old =
      update-is-rule r from time rid x pair fits up
      ∙ ap (λ (pairs : List Pair). accepted (became r (after r.clock.0 time.0) r.rid.0 r.phase r.repliers pairs) (reply_of from (after r.clock.0 time.0) rid.0 Ack) Pending)
      (ap (set r.pairs (x - 1)) (newer-kept (stored r x) pair old) ∙ set-get_or r.pairs (x - 1) start_pair)

  pub equal-update : pair.stamp ≡ (stored r x).stamp → update_received r from time rid x pair ≡ only_acked r from time rid
  equal-update e = old-update (rw e (at_most-reflexive (stored r x).stamp))
