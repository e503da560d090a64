-- The next state of an event in which a process takes a step is well formed where its parts are: the replica of that process, the letters it sends,
-- the messages left in flight and the rows.
use Rattle.std.specs.Prelude.{ℕ, zero, suc, ◌+◌, ◌-◌, ◌*◌, ◌≤◌, ◌<◌, ◌≡◌, refl, true, List, length}
use Rattle.std.proofs.Common.{◌∙◌, arith, length-append, length-set, get_or-set_same, get_or-set_other}
use Rattle.std.proofs.Math.Decide.{ℕ_discrete}
use Rattle.words.specs.declared.Message.{Message}
use Rattle.replica.specs.Answer.{Answer}
use Rattle.replica.specs.declared.Letter.{Letter}
use Rattle.replica.specs.declared.Sends.{Sends}
use Rattle.replica.specs.declared.Sends.TheVariants.{Nothing, Reply, Broadcast}
use Rattle.replica.specs.Numbers.{sent_by}
use Rattle.tables.specs.declared.Row.{Row}
use Rattle.tables.specs.Tables.{copies}
use Rattle.state.specs.State.{State, fresh_replica, replica_of}
use Rattle.state.specs.Step.{message_of, posted, moved}
use Rattle.state.specs.WellFormed.{every, body_fits, message_fits, rising, row_fits}
use Rattle.state.proofs.EveryLaws.{both, every_append}
use Rattle.state.proofs.FlightLaws.{rising-append, rising-copies, length-copies}
use Rattle.state.proofs.LaterLaws.{Later, Kept, messages-later, replica-later}
use Rattle.state.specs.Within.{Within}
use Rattle.state.proofs.WellLaws.{ok-message, ReplicaOk, Well}

-- ---- what is sent

pub record LetterOk (s : State) (l : Letter) : Type 0 where
  pub time : l.time.0 ≤ s.accepted
  pub rid : l.rid.0 ≤ 2 * s.accepted
  pub body : body_fits s l.body ≡ true

abbrev pub SendsOk : State → Sends → Type 0
SendsOk s Nothing = Unit {0}
SendsOk s (Reply to letter) = Within to.0 s.n × LetterOk s letter
SendsOk s (Broadcast letter) = LetterOk s letter

module _ (t : State) (from : ℕ) (letter : Letter) (actor : Within from t.n) (ok : LetterOk t letter) where
  copies-fit : (number to count : ℕ) → 1 ≤ to → to + count ≤ t.n + 1 → every (message_fits t) (copies (message_of number from to letter) count) ≡ true
  copies-fit number to zero l h = refl
  copies-fit number to (suc count) l h =
      both
      (ok-message t (message_of number from to letter)
      (record {
        sender = actor;
        recipient = record { least = l; most = omega arith };
        time = ok.time;
        rid = ok.rid;
        body = ok.body;
      }))
      (copies-fit (number + 1) (to + 1) count (omega arith) (omega arith))

module _ (s : State) (from : ℕ) where
  posted-fit : (t : State) → t.n ≡ s.n → Within from t.n → (sends : Sends) → SendsOk t sends → every (message_fits t) (posted s from sends) ≡ true
  posted-fit t same actor Nothing ok = refl
  posted-fit t same actor (Reply to letter) ok =
      copies-fit t from letter actor ok.1 (s.sent + 1) to.0 1 ok.0.least (omega (arith, ok.0.most))
  posted-fit t same actor (Broadcast letter) ok = copies-fit t from letter actor ok (s.sent + 1) 1 s.n (omega arith) (omega arith)

  posted-rising : (sends : Sends) → rising s.sent (s.sent + sent_by s.n sends) (posted s from sends) ≡ true
  posted-rising Nothing = refl
  posted-rising (Reply to letter) =
      rising-copies s.sent (s.sent + 1) (message_of (s.sent + 1) from to.0 letter) 1 (omega arith) (omega arith)
  posted-rising (Broadcast letter) =
      rising-copies s.sent (s.sent + s.n) (message_of (s.sent + 1) from 1 letter) s.n (omega arith) (omega arith)

  pub posted-length : (sends : Sends) → length (posted s from sends) ≡ sent_by s.n sends
  posted-length Nothing = refl
  posted-length (Reply to letter) = refl
  posted-length (Broadcast letter) = length-copies (message_of (s.sent + 1) from 1 letter) s.n

sent-most : (n : ℕ) → Within n 7 → (sends : Sends) → sent_by n sends ≤ 7
sent-most n h Nothing = omega arith
sent-most n h (Reply to letter) = omega arith
sent-most n h (Broadcast letter) = h.most

-- ---- the next state

-- the parts of a step of p
pub record Parts (s : State) (p : ℕ) (answer : Answer) (flight : List Message) (delivered : ℕ) (rows : List Row) : Type 0 where
  pub room : s.accepted < 12000
  pub actor : Within p s.n
  pub taken : delivered + length flight ≡ s.delivered + length s.flight
  pub messages : every (message_fits s) flight ≡ true
  pub numbers : rising 0 s.sent flight ≡ true
  pub history : every (row_fits (moved s p answer flight delivered rows)) rows ≡ true
  pub own : ReplicaOk (moved s p answer flight delivered rows) p answer.replica
  pub sends : SendsOk (moved s p answer flight delivered rows) answer.sends
  pub others : (q : ℕ) → (q ≡ p → ⊥) → Kept s (moved s p answer flight delivered rows) q

module _ (s : State) (p : ℕ) (answer : Answer) (flight : List Message) (delivered : ℕ) (rows : List Row) where
  pub moved_later : Later s (moved s p answer flight delivered rows)
  moved_later = record { same-n = refl; same-m = refl; more = omega arith }

  moved_other : (q : ℕ) → 1 ≤ p → 1 ≤ q → (q ≡ p → ⊥) → replica_of (moved s p answer flight delivered rows) q ≡ replica_of s q
  moved_other q a b f = get_or-set_other s.replicas (p - 1) (q - 1) answer.replica fresh_replica (λ e. f (omega arith))

  pub moved-well : Well s → Parts s p answer flight delivered rows → Well (moved s p answer flight delivered rows)
  moved-well w k =
      record {
        processes = w.processes;
        registers = w.registers;
        events = omega (arith, k.room);
        sends = omega (arith, w.sends, sent-most s.n w.processes answer.sends);
        balance =
            omega (arith, w.balance, k.taken, posted-length s p answer.sends, length-append flight (posted s p answer.sends));
        messages =
            every_append (message_fits t) flight (posted s p answer.sends) (messages-later s t moved_later flight k.messages)
            (posted-fit s p t refl k.actor answer.sends k.sends);
        numbers =
            rising-append 0 s.sent (s.sent + sent_by s.n answer.sends) flight (posted s p answer.sends) (omega arith) (omega arith)
            k.numbers (posted-rising s p answer.sends);
        history = k.history;
        seven = length-set s.replicas (p - 1) answer.replica ∙ w.seven;
        replica = λ q l. elim (ℕ_discrete q p) [
          | yes e ↦ rw e (rw same k.own)
          | no f ↦
              rw (moved_other q k.actor.least l.least f) (replica-later s t moved_later q (k.others q f) (replica_of s q) (w.replica q l))
        ];
        beyond = λ q l h.
            let far : q ≡ p → ⊥ = λ e. omega (arith, k.actor.most) in
            rw (moved_other q k.actor.least (omega arith) far) (w.beyond q l h);
      }
    where
      t : State
      t = moved s p answer flight delivered rows

      same : replica_of (moved s p answer flight delivered rows) p ≡ answer.replica
      same =
          get_or-set_same s.replicas (p - 1) answer.replica fresh_replica
          (omega (arith, w.seven, w.processes.most, k.actor.most, k.actor.least))
