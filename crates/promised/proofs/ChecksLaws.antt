-- On a well-formed state no handler refuses, so the number that an event is refused by is that of the first check that holds: of document 01's list, and never 18.
use Rattle.std.specs.Prelude.{ℕ, zero, suc, ◌+◌, ◌≤◌, ◌<◌, ◌≡◌, refl, Bool, true, false, not, cond, List, [], ◌∷◌, eqb, leb, length, Option, Some, None}
use Rattle.std.proofs.Common.{sym, subst, ◌∙◌, arith, eqb-true, leb-true}
use Rattle.std.proofs.Math.Path.{ap}
use Rattle.std.proofs.Math.Seq.{take-length}
use Rattle.std.proofs.lemmas.Bool.{not-false}
use Rattle.words.specs.declared.Body.{Body}
use Rattle.words.specs.declared.Body.TheVariants.{Query, Response, Update, Ack}
use Rattle.words.specs.declared.Message.{Message}
use Rattle.words.specs.declared.Pair.{Pair}
use Rattle.words.specs.Quorum.{joined, counted, majority_of}
use Rattle.words.specs.Ranges.{within}
use Rattle.words.specs.RangeLaws.{and_left, and_right}
use Rattle.replica.specs.Answer.{Answer}
use Rattle.replica.specs.declared.Gathered.{Gathered}
use Rattle.replica.specs.declared.Replica.{Replica}
use Rattle.replica.specs.Handlers.{is_idle, read_rule, write_rule, query_rule, update_rule, crash_rule}
use Rattle.replica.specs.Handlers.{response_counts, response_taken, response_counted, response_rule, ack_counts, ack_taken, ack_counted, ack_rule}
use Rattle.tables.specs.Tables.{seek}
use Rattle.tables.specs.TableLaws.{seek-at}
use Rattle.state.specs.declared.Event.{Event}
use Rattle.state.specs.declared.Event.TheVariants.{Read, Write, Deliver, Crash, Lose}
use Rattle.state.specs.State.{State, replica_of}
use Rattle.state.specs.Step.{Outcome, outcome, full, no_room, invoke_refusal, asked_register}
use Rattle.state.specs.Step.{step, step_read, step_write, step_deliver, deliver_at, step_crash, step_lose, lose_at}
use Rattle.state.specs.WellFormed.{every, well_formed}
use Rattle.state.specs.Follows.{message_at, receiver_of}
use Rattle.state.proofs.FollowsLaws.{either_way}
use Rattle.state.specs.Accepted.{plain_by}
use Rattle.state.proofs.AcceptedLaws.{Invoked, invoked}
use Rattle.state.proofs.Inside.{read_plain, write-plain, crash-plain, delivered-plain}
use Rattle.state.proofs.Keeps.{keeps}
use Rattle.state.proofs.PairLaws.{within-ok}
use Rattle.state.proofs.Sized.{Sized, keeps-sized}
use Rattle.state.proofs.WellLaws.{Well, well}
use Rattle.format.specs.Parse.{Parse}
use Rattle.format.specs.Parse.{Next, Refused, End}
use Rattle.format.specs.Format.{byte_at, whole, event_at}
use Rattle.schedule.specs.Run.{Ran, stopped, turned, ran_from}
use Rattle.promised.specs.Checks.{Check, first_of, flight_after, delivery_checks, loss_checks, own_checks, event_checks}

-- ---- the first check that holds

-- what comes behind a check that does not hold
behind : (holds : Bool) (number a b : ℕ) → (holds ≡ false → a ≡ b) → cond holds number a ≡ cond holds number b
behind true number a b h = refl
behind false number a b h = h refl

abbrev Accepts : Answer → Type 0
Accepts answer = answer.refusal ≡ 0

-- the plain rules refuse nothing
rules-accept : (s : State) (r : Replica) (message : Message) (body : Body) → Accepts (plain_by s r message body)
unfolding query_rule update_rule response_rule response_counted ack_rule ack_counted
rules-accept s r message (Query x) = refl
rules-accept s r message (Response pair) = go (response_counts r.phase r.rid message.rid)
  where
    go : (c : Option (ℕ × Gathered)) → Accepts (response_taken c r s.n (asked_register s r.phase) message.from message.time pair)
    go None = refl
    go (Some waiting) = either_way Accepts (leb (majority_of s.n) (counted (joined r.repliers message.from.0))) _ _ refl refl
rules-accept s r message (Update x pair) = refl
rules-accept s r message Ack = go (ack_counts r.phase r.rid message.rid)
  where
    go : (c : Option (ℕ × Pair)) → Accepts (ack_taken c r s.n message.from message.time)
    go None = refl
    go (Some waiting) = either_way Accepts (leb (majority_of s.n) (counted (joined r.repliers message.from.0))) _ _ refl refl

module _ (s : State) (w : Well s) (z : Sized s) where
  invocation-first : (p x later : ℕ) → (Invoked s p x → later ≡ 0) → invoke_refusal s p x later ≡ first_of (event_checks s (Read (record { 0 = p }) x))
  invocation-first p x later h =
      behind (full s) 17 _ _ λ e₀.
      behind (not (within p s.n)) 8 _ _ λ e₁.
      behind (not (within x s.m)) 9 _ _ λ e₂.
      behind (replica_of s p).crashed 10 _ _ λ e₃.
      behind (not (is_idle (replica_of s p).phase)) 11 _ _ λ e₄.
      behind (leb 1024 (length s.rows)) 16 _ _ λ e₅.
      behind (no_room (length s.flight + s.n)) 15 _ _ λ e₆.
      h (invoked s p x 0 (rw (e₀, e₁, e₂, e₃, e₄, e₅, e₆) refl)).0

  delivery-first : (k : ℕ) (found : Option ℕ) → seek k 0 s.flight ≡ found → (deliver_at s found).refusal ≡ first_of (delivery_checks s found)
  delivery-first k None f = refl
  delivery-first k (Some i) f =
      behind (receiver_of s i).crashed 13 _ _ λ up.
      behind (no_room (flight_after s (receiver_of s i) (message_at s i))) 15 _ _ λ room.
      ap (λ (a : Answer). a.refusal) (delivered-plain s w z.rows i inside up) ∙ rules-accept s (receiver_of s i) (message_at s i) (message_at s i).body
    where
      inside : i < length s.flight
      inside = (seek-at k (length s.flight) i s.flight (sym (ap (seek k 0) (take-length s.flight) ∙ f))).0

  loss-first : (found : Option ℕ) → (lose_at s found).refusal ≡ first_of (loss_checks s found)
  loss-first None = refl
  loss-first (Some i) = refl

  -- 17 before what is done with a message
  unless-full : (o : Outcome) (number : ℕ) → o.refusal ≡ number → (cond (full s) (outcome s 17 s) o).refusal ≡ cond (full s) 17 number
  unless-full o number e = go (full s)
    where
      go : (t : Bool) → (cond t (outcome s 17 s) o).refusal ≡ cond t 17 number
      go true = refl
      go false = e

  pub event-first : (e : Event) → (step s e).refusal ≡ first_of (event_checks s e)
  unfolding step step_read step_write step_deliver step_crash step_lose read_rule write_rule crash_rule
  event-first (Read p x) = invocation-first p.0 x _ λ i. ap (λ (a : Answer). a.refusal) (read_plain s w p.0 x i)
  event-first (Write p x value) = invocation-first p.0 x _ λ i. ap (λ (a : Answer). a.refusal) (write-plain s w p.0 x i value)
  event-first (Deliver k) = unless-full _ _ (delivery-first k (seek k 0 s.flight) refl)
  event-first (Crash p) =
      behind (full s) 17 _ _ λ e₀.
      behind (not (within p.0 s.n)) 8 _ _ λ e₁.
      behind (replica_of s p.0).crashed 10 _ _ λ up.
      ap (λ (a : Answer). a.refusal) (crash-plain s w z.rows p.0 (within-ok p.0 s.n (not-false _ e₁)) up)
  event-first (Lose k) = unless-full _ _ (loss-first (seek k 0 s.flight))

-- ---- the numbers on the list

-- every number of the list is at most this
abbrev pub UpTo : ℕ → List Check → Bool
UpTo most checks = every (λ (c : Check). leb c.0 most) checks

pub first-most : (most : ℕ) (checks : List Check) → UpTo most checks ≡ true → first_of checks ≤ most
first-most most [] e = omega arith
first-most most (c ∷ later) e =
    either_way (λ (k : ℕ). k ≤ most) c.1 c.0 (first_of later) (leb-true c.0 most (and_left (leb c.0 most) (UpTo most later) e))
    (first-most most later (and_right (leb c.0 most) (UpTo most later) e))

own-numbers : (s : State) (e : Event) → UpTo 17 (own_checks s e) ≡ true
own-numbers s (Read p x) = refl
own-numbers s (Write p x value) = refl
own-numbers s (Deliver k) = go (seek k 0 s.flight)
  where
    go : (found : Option ℕ) → UpTo 17 (delivery_checks s found) ≡ true
    go None = refl
    go (Some i) = refl
own-numbers s (Crash p) = refl
own-numbers s (Lose k) = go (seek k 0 s.flight)
  where
    go : (found : Option ℕ) → UpTo 17 (loss_checks s found) ≡ true
    go None = refl
    go (Some i) = refl

-- 18 is not among an event's own
pub event-numbers : (s : State) (e : Event) → first_of (event_checks s e) ≤ 17
event-numbers s e = first-most 17 (event_checks s e) (own-numbers s e)

-- ---- the run of a schedule's events, from a well-formed state

abbrev Stops : Parse → Type 0
Stops (Next event at) = Unit {0}
Stops (Refused number) = number ≤ 17
Stops End = Unit {0}

whole-stops : (bytes : List ℕ) (at size : ℕ) (event : Event) → Stops (whole bytes at size event)
whole-stops bytes at size event = either_way Stops (leb (at + size) (length bytes)) (Next event (at + size)) (Refused 7) tt (omega arith)

-- bytes that are no event give 6 or 7
parse-stops : (bytes : List ℕ) (at : ℕ) → Stops (event_at bytes at)
unfolding event_at
parse-stops bytes at =
    either_way Stops (leb (length bytes) at) End _ tt
    (either_way Stops (eqb (byte_at bytes at) 1) _ _ (whole-stops bytes at 3 _)
    (either_way Stops (eqb (byte_at bytes at) 2) _ _ (whole-stops bytes at 11 _)
    (either_way Stops (eqb (byte_at bytes at) 3) _ _ (whole-stops bytes at 5 _)
    (either_way Stops (eqb (byte_at bytes at) 4) _ _ (whole-stops bytes at 2 _)
    (either_way Stops (eqb (byte_at bytes at) 5) _ (Refused 6) (whole-stops bytes at 5 _) (omega arith))))))

step-numbers : (s : State) (e : Event) → well_formed s ≡ true → Sized s → (step s e).refusal ≤ 17
step-numbers s e w z = subst (λ (k : ℕ). k ≤ 17) (sym (event-first s (well s w) z e)) (event-numbers s e)

turn-numbers : (s : State) (go : ℕ → State → Ran) → well_formed s ≡ true → Sized s → ((at : ℕ) (t : State) → well_formed t ≡ true → Sized t → (go at t).refusal ≤ 17)
    → (x : Parse) → Stops x → (turned s go x).refusal ≤ 17
turn-numbers s go w z later End h = omega arith
turn-numbers s go w z later (Refused number) h = h
turn-numbers s go w z later (Next event at) h = by-test (eqb (step s event).refusal 0) refl
  where
    by-test : (t : Bool) → eqb (step s event).refusal 0 ≡ t → (cond t (go at (step s event).state) (stopped (step s event).refusal s)).refusal ≤ 17
    by-test true is = let e = eqb-true (step s event).refusal 0 is in later at (step s event).state (keeps s event w e) (keeps-sized s event z e)
    by-test false is = step-numbers s event w z

pub run-numbers : (fuel : ℕ) (bytes : List ℕ) (at : ℕ) (s : State) → well_formed s ≡ true → Sized s → (ran_from fuel bytes at s).refusal ≤ 17
unfolding ran_from
run-numbers zero bytes at s w z = omega arith
run-numbers (suc fuel) bytes at s w z =
    turn-numbers s (λ next t. ran_from fuel bytes next t) w z (λ next t v y. run-numbers fuel bytes next t v y) (event_at bytes at) (parse-stops bytes at)
