-- What an accepted event says: none of its checks held, and the state that it gives is the next one by the plain rules.
use Rattle.std.specs.Prelude.{ℕ, ◌+◌, ◌-◌, ◌≤◌, ◌<◌, ◌≡◌, refl, Bool, true, false, not, cond, ◌||◌, [], ◌∷◌, ◌++◌, eqb, leb, ℤ, length, Option, Some, None}
use Rattle.std.proofs.Common.{sym, ap, subst, ◌∙◌, arith, leb-false, ltb-false}
use Rattle.std.proofs.Math.Seq.{take-length}
use Rattle.std.proofs.lemmas.Bool.{eqb-false, not-false}
use Rattle.words.specs.declared.Body.{Body}
use Rattle.words.specs.declared.Body.TheVariants.{Query, Response, Update, Ack}
use Rattle.words.specs.declared.Message.{Message}
use Rattle.words.specs.declared.Pid.{Pid}
use Rattle.words.specs.Ranges.{within}
use Rattle.replica.specs.Answer.{Answer}
use Rattle.replica.specs.declared.Replica.{Replica}
use Rattle.replica.specs.Handlers.{unless_refused, is_idle, read_refusal, read_rule, read_begun, write_refusal, write_rule, write_begun}
use Rattle.replica.specs.Answer.{refused}
use Rattle.replica.specs.Handlers.{query_refusal, query_received, update_refusal, update_received}
use Rattle.replica.specs.Handlers.{response_refusal, response_received, ack_refusal, ack_received}
use Rattle.replica.specs.Handlers.{crash_refusal as down_for, crash_rule, crashed}
use Rattle.replica.specs.Numbers.{sent_by, pointed}
use Rattle.tables.specs.Tables.{seek, removed}
use Rattle.tables.specs.TableLaws.{seek-at}
use Rattle.state.specs.State.{State, replica_of}
use Rattle.state.specs.Step.{Outcome, outcome, check, full, no_room, invoke_refusal, lose_refusal, asked_register}
use Rattle.state.specs.Step.{read_row, write_row, answered_rows, moved, without_message, heard_by, heard}
use Rattle.state.specs.Step.{step_read, step_write, deliver_at, step_deliver, step_crash, lose_at, step_lose}
use Rattle.state.specs.Within.{Within}
use Rattle.state.proofs.PairLaws.{within-ok}
use Rattle.state.specs.Accepted.{plain_by, plain, read_next, write_next, message_at, recipient_at, deliver_next, crash_next}

-- ---- an answer that refuses nothing is the plain rule's

pub rule-answers : (number : ℕ) (r : Replica) (rule : Answer) → (unless_refused number r rule).refusal ≡ 0 → unless_refused number r rule ≡ rule
rule-answers number r rule e = go (eqb number 0) refl e
  where
    go : (b : Bool) → eqb number 0 ≡ b → (cond b rule (refused number r)).refusal ≡ 0 → cond b rule (refused number r) ≡ rule
    go true f h = refl
    go false f h = absurd (eqb-false number 0 f h)

read-answers : (r : Replica) (x row : ℕ) → (read_begun r x row).refusal ≡ 0 → read_begun r x row ≡ read_rule r x row
unfolding read_begun
read-answers r x row = rule-answers (read_refusal r x row) r (read_rule r x row)

write-answers : (r : Replica) (me : Pid) (x : ℕ) (value : ℤ) (row : ℕ) → (write_begun r me x value row).refusal ≡ 0 → write_begun r me x value row ≡ write_rule r me x value row
unfolding write_begun
write-answers r me x value row = rule-answers (write_refusal r me x row) r (write_rule r me x value row)

crash-answers : (r : Replica) → (crashed r).refusal ≡ 0 → crashed r ≡ crash_rule r
unfolding crashed
crash-answers r = rule-answers (down_for r) r (crash_rule r)

pub received-answers : (s : State) (r : Replica) (message : Message) → (heard s r message).refusal ≡ 0 → heard s r message ≡ plain s r message
unfolding query_received update_received response_received ack_received
received-answers s r message = go message.body
  where
    go : (body : Body) → (heard_by s r message body).refusal ≡ 0 → heard_by s r message body ≡ plain_by s r message body
    go (Query x) = rule-answers (query_refusal r message.from message.time message.rid x) r (plain_by s r message (Query x))
    go (Response pair) =
        rule-answers (response_refusal r s.n (asked_register s r.phase) message.from message.time message.rid pair) r
        (plain_by s r message (Response pair))
    go (Update x pair) =
        rule-answers (update_refusal r message.from message.time message.rid x pair) r (plain_by s r message (Update x pair))
    go Ack = rule-answers (ack_refusal r s.n message.from message.time message.rid) r (plain_by s r message Ack)

-- ---- no check held

outcome-next : (s : State) (number : ℕ) (next : State) → number ≡ 0 → (outcome s number next).state ≡ next
outcome-next s number next e = ap (λ (n : ℕ). (outcome s n next).state) e

pub passed : (holds : Bool) (number later : ℕ) → eqb number 0 ≡ false → check holds number later ≡ 0 → (holds ≡ false) × (later ≡ 0)
passed true number later n e = absurd (eqb-false number 0 n e)
passed false number later n e = (refl, e)

room-left : (s : State) → full s ≡ false → s.accepted < 12000
room-left s e = leb-false 12000 s.accepted e

-- p may invoke an operation on x
pub record Invoked (s : State) (p x : ℕ) : Type 0 where
  pub room : s.accepted < 12000
  pub actor : Within p s.n
  pub register : Within x s.m
  pub up : (replica_of s p).crashed ≡ false
  pub idle : is_idle (replica_of s p).phase ≡ true
  pub rows : length s.rows < 1024
  pub flight : length s.flight + s.n ≤ 512

pub invoked : (s : State) (p x later : ℕ) → invoke_refusal s p x later ≡ 0 → Invoked s p x × (later ≡ 0)
invoked s p x later e =
    let c₆ : ℕ = check (no_room (length s.flight + s.n)) 15 later in
    let c₅ : ℕ = check (leb 1024 (length s.rows)) 16 c₆ in
    let c₄ : ℕ = check (not (is_idle (replica_of s p).phase)) 11 c₅ in
    let c₃ : ℕ = check (replica_of s p).crashed 10 c₄ in
    let c₂ : ℕ = check (not (within x s.m)) 9 c₃ in
    let c₁ : ℕ = check (not (within p s.n)) 8 c₂ in
    let e₀ = passed (full s) 17 c₁ refl e in
    let e₁ = passed (not (within p s.n)) 8 c₂ refl e₀.1 in
    let e₂ = passed (not (within x s.m)) 9 c₃ refl e₁.1 in
    let e₃ = passed (replica_of s p).crashed 10 c₄ refl e₂.1 in
    let e₄ = passed (not (is_idle (replica_of s p).phase)) 11 c₅ refl e₃.1 in
    let e₅ = passed (leb 1024 (length s.rows)) 16 c₆ refl e₄.1 in
    let e₆ = passed (no_room (length s.flight + s.n)) 15 later refl e₅.1 in (
      record {
        room = room-left s e₀.0;
        actor = within-ok p s.n (not-false _ e₁.0);
        register = within-ok x s.m (not-false _ e₂.0);
        up = e₃.0;
        idle = not-false _ e₄.0;
        rows = leb-false 1024 (length s.rows) e₅.0;
        flight = ltb-false 512 (length s.flight + s.n) e₆.0;
      },
      e₆.1,
    )

pub read-accepted : (s : State) (p x : ℕ) → (step_read s p x).refusal ≡ 0 → Invoked s p x × ((step_read s p x).state ≡ read_next s p x)
unfolding step_read
read-accepted s p x e =
    let answer : Answer = read_begun (replica_of s p) x (length s.rows + 1) in
    let next : Answer → State = λ (a : Answer). moved s p a s.flight s.delivered (s.rows ++ (read_row p x a.replica.clock.0 ∷ [])) in
    let i = invoked s p x answer.refusal e in
    (i.0, outcome-next s _ (next answer) e ∙ ap next (read-answers (replica_of s p) x (length s.rows + 1) i.1))

pub write-accepted : (s : State) (p x : ℕ) (value : ℤ) → (step_write s p x value).refusal ≡ 0 → Invoked s p x × ((step_write s p x value).state ≡ write_next s p x value)
unfolding step_write
write-accepted s p x value e =
    let me : Pid = record { 0 = p } in
    let answer : Answer = write_begun (replica_of s p) me x value (length s.rows + 1) in
    let next : Answer → State = λ (a : Answer). moved s p a s.flight s.delivered (s.rows ++ (write_row p x value a.replica.clock.0 ∷ [])) in
    let i = invoked s p x answer.refusal e in
    (i.0, outcome-next s _ (next answer) e ∙ ap next (write-answers (replica_of s p) me x value (length s.rows + 1) i.1))

-- p may crash
pub record Crashable (s : State) (p : ℕ) : Type 0 where
  pub room : s.accepted < 12000
  pub actor : Within p s.n
  pub up : (replica_of s p).crashed ≡ false

pub crash-accepted : (s : State) (p : ℕ) → (step_crash s p).refusal ≡ 0 → Crashable s p × ((step_crash s p).state ≡ crash_next s p)
unfolding step_crash
crash-accepted s p e =
    let answer : Answer = crashed (replica_of s p) in
    let next : Answer → State = λ (a : Answer). moved s p a s.flight s.delivered s.rows in
    let e₀ = passed (full s) 17 (check (not (within p s.n)) 8 (check (replica_of s p).crashed 10 answer.refusal)) refl e in
    let e₁ = passed (not (within p s.n)) 8 (check (replica_of s p).crashed 10 answer.refusal) refl e₀.1 in
    let e₂ = passed (replica_of s p).crashed 10 answer.refusal refl e₁.1 in (
      record { room = room-left s e₀.0; actor = within-ok p s.n (not-false _ e₁.0); up = e₂.0 },
      outcome-next s _ (next answer) e ∙ ap next (crash-answers (replica_of s p) e₂.1),
    )

-- ---- message k is found in flight

pub record InFlight (s : State) (k i : ℕ) : Type 0 where
  pub room : s.accepted < 12000
  pub place : seek k 0 s.flight ≡ Some i
  pub inside : i < length s.flight
  pub number : (message_at s i).number ≡ k

-- what is done with a message is done with the one that is found: otherwise 17 or 12 is given
in-flight : (s : State) (k : ℕ) (act : Option ℕ → Outcome) → (act None).refusal ≡ 12 → (cond (full s) (outcome s 17 s) (act (seek k 0 s.flight))).refusal ≡ 0
    → (i : ℕ) × InFlight s k i × (cond (full s) (outcome s 17 s) (act (seek k 0 s.flight)) ≡ act (Some i))
in-flight s k act none e = go (full s) refl (seek k 0 s.flight) refl e
  where
    go : (b : Bool) → full s ≡ b → (f : Option ℕ) → seek k 0 s.flight ≡ f → (cond b (outcome s 17 s) (act f)).refusal ≡ 0
        → (i : ℕ) × InFlight s k i × (cond b (outcome s 17 s) (act f) ≡ act (Some i))
    go true u f h z = absurd (omega arith)
    go false u None h z = absurd (omega (arith, none))
    go false u (Some i) h z =
        let found = seek-at k (length s.flight) i s.flight (sym (ap (seek k 0) (take-length s.flight) ∙ h)) in
        (i, record { room = room-left s u; place = h; inside = found.0; number = found.1 }, refl)

-- the message at place i may be delivered
pub record Deliverable (s : State) (k i : ℕ) : Type 0 where
  pub found : InFlight s k i
  pub up : (recipient_at s i).crashed ≡ false
  pub flight : length s.flight - 1 + sent_by s.n (plain s (recipient_at s i) (message_at s i)).sends ≤ 512

deliver-at : (s : State) (i : ℕ) → (deliver_at s (Some i)).refusal ≡ 0
    → ((recipient_at s i).crashed ≡ false) × (length s.flight - 1 + sent_by s.n (plain s (recipient_at s i) (message_at s i)).sends ≤ 512)
    × ((deliver_at s (Some i)).state ≡ deliver_next s i)
deliver-at s i e =
    let r : Replica = recipient_at s i in
    let answer : Answer = heard s r (message_at s i) in
    let flight : Answer → ℕ = λ (a : Answer). length s.flight - 1 + sent_by s.n a.sends in
    let next : Answer → State = λ (a : Answer).
    moved s (message_at s i).to.0 a (removed i s.flight) (s.delivered + 1) (answered_rows s.rows (pointed r.phase) a.ended) in
    let e₀ = passed r.crashed 13 (check (no_room (flight answer)) 15 answer.refusal) refl e in
    let e₁ = passed (no_room (flight answer)) 15 answer.refusal refl e₀.1 in
    let same : answer ≡ plain s r (message_at s i) = received-answers s r (message_at s i) e₁.1 in (
      e₀.0,
      subst (λ (a : Answer). flight a ≤ 512) same (ltb-false 512 (flight answer) e₁.0),
      outcome-next s _ (next answer) e ∙ ap next same,
    )

pub deliver-accepted : (s : State) (k : ℕ) → (step_deliver s k).refusal ≡ 0 → (i : ℕ) × Deliverable s k i × ((step_deliver s k).state ≡ deliver_next s i)
unfolding step_deliver
deliver-accepted s k e =
    let f = in-flight s k (deliver_at s) refl e in
    let d = deliver-at s f.0 (ap (λ (o : Outcome). o.refusal) (sym f.2) ∙ e) in
    (f.0, record { found = f.1; up = d.0; flight = d.1 }, ap (λ (o : Outcome). o.state) f.2 ∙ d.2)

-- the message at place i may be lost
pub record Losable (s : State) (k i : ℕ) : Type 0 where
  pub found : InFlight s k i
  pub down : ((replica_of s (message_at s i).from.0).crashed || (recipient_at s i).crashed) ≡ true

pub lose-accepted : (s : State) (k : ℕ) → (step_lose s k).refusal ≡ 0 → (i : ℕ) × Losable s k i × ((step_lose s k).state ≡ without_message s i)
unfolding step_lose
lose-accepted s k e =
    let f = in-flight s k (lose_at s) refl e in
    let z : lose_refusal s (message_at s f.0) ≡ 0 = ap (λ (o : Outcome). o.refusal) (sym f.2) ∙ e in
    let down = not-false _ (passed _ 14 0 refl z).0 in
    (f.0, record { found = f.1; down = down }, ap (λ (o : Outcome). o.state) f.2 ∙ outcome-next s _ (without_message s f.0) z)
