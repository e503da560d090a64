-- What every move keeps, and so what stays true of the processes, messages and rows that it does not change: nothing that was held is lost, a
-- waiting process goes on or has a new request number, and a row keeps all but its response.
use Rattle.std.specs.Prelude.{ℕ, suc, ◌-◌, ◌≤◌, ◌<◌, ◌≡◌, List, ◌⊎◌, length, get_or}
use Rattle.std.proofs.Common.{◌∙◌, inl, inr, arith}
use Rattle.words.specs.declared.Body.{Body}
use Rattle.words.specs.declared.Body.TheVariants.{Query, Response, Update, Ack}
use Rattle.words.specs.declared.Message.{Message}
use Rattle.words.specs.declared.Pair.{Pair}
use Rattle.words.specs.declared.Stamp.{Stamp}
use Rattle.words.specs.QuorumLaws.{Inside, inside-members}
use Rattle.words.specs.Stamps.{AtMost}
use Rattle.words.proofs.StampLaws.{at_most-transitive}
use Rattle.replica.specs.declared.Gathered.{Gathered}
use Rattle.replica.specs.declared.Phase.TheVariants.{Querying, Updating}
use Rattle.replica.specs.declared.Replica.{Replica}
use Rattle.tables.specs.declared.Kind.TheVariants.{Write}
use Rattle.tables.specs.declared.Row.{Row}
use Rattle.tables.specs.Tables.{empty_row}
use Rattle.state.proofs.NeededLaws.{responses-same, acks-same}
use Rattle.state.specs.State.{State, replica_of, row_of}
use Rattle.consistency.specs.Held.{Held, Recalls, clock_at}
use Rattle.consistency.specs.Sound.{Begun, From, Quorum, Below, Above, Stores, Serves, Asking, Telling, IsRow, Waits}
use Rattle.consistency.specs.Sound.{WhileAsking, WhileTelling, QueryOf, UpdateOf, ResponseOf, AckOf, Says, Carried, Done, Entered}

pub record RowKept (r after : Row) : Type 0 where
  pub process : after.process.0 ≡ r.process.0
  pub kind : after.kind ≡ r.kind
  pub register : after.register ≡ r.register
  pub invoked : after.invoked.0 ≡ r.invoked.0
  pub stamp : r.kind ≡ Write → after.stamp ≡ r.stamp
  pub value : r.kind ≡ Write → after.value ≡ r.value

pub record RowsKept (rows after : List Row) : Type 0 where
  pub longer : length rows ≤ length after
  pub kept : (j : ℕ) → j < length rows → RowKept (get_or rows j empty_row) (get_or after j empty_row)

-- a process that waits afterwards has waited before for the same, or has a new request number
pub record Traced (r after : Replica) : Type 0 where
  pub rid : r.rid.0 ≤ after.rid.0
  pub asking : (i : ℕ) (gathered : Gathered) → after.phase ≡ Querying i gathered
      → (r.rid.0 < after.rid.0) ⊎ ((old : Gathered) × (r.phase ≡ Querying i old) × (r.rid.0 ≡ after.rid.0))
  pub telling : (i : ℕ) (sent : Pair) → after.phase ≡ Updating i sent
      → (r.rid.0 < after.rid.0) ⊎ ((r.phase ≡ Updating i sent) × (r.rid.0 ≡ after.rid.0))

pub record Kept (s : State) (held : Held) (t : State) (after : Held) : Type 0 where
  pub processes : t.n ≡ s.n
  pub registers : t.m ≡ s.m
  pub replicas : length t.replicas ≡ length s.replicas
  pub clock : (k : ℕ) → 1 ≤ k → clock_at s k ≤ clock_at t k
  pub traced : (k : ℕ) → 1 ≤ k → Traced (replica_of s k) (replica_of t k)
  pub past : (k time x : ℕ) → 1 ≤ k → time ≤ clock_at s k → after k time x ≡ held k time x
  pub higher : (k time x : ℕ) → 1 ≤ k → AtMost (held k time x) (after k time x)
  pub recalls : Recalls t after
  pub rows : RowsKept s.rows t.rows

module _ {s t : State} {held after : Held} (kept : Kept s held t after) where
  -- ---- what repliers are good for

  pub below-kept : (r : Row) (stamp : Stamp) (k : ℕ) → 1 ≤ k → Below s held r stamp k → Below t after r stamp k
  below-kept r stamp k first (a, b) =
      let c = kept.clock k first in
      (omega arith, rw (kept.past k r.invoked.0 r.register first a) b)

  pub above_kept : (r : Row) (stamp : Stamp) (time k : ℕ) → 1 ≤ k → Above held r stamp time k → Above after r stamp time k
  above_kept r stamp time k first a =
      at_most-transitive stamp (held k time r.register) (after k time r.register) a (kept.higher k time r.register first)

  pub quorum-kept : {Has HasThen : ℕ → Type 0} {least least_then : ℕ} → least_then ≡ least → ((k : ℕ) → 1 ≤ k → Has k → HasThen k)
      → Quorum s.n least Has → Quorum t.n least_then HasThen
  quorum-kept e f q =
      record {
        set = q.set;
        inside = rw kept.processes q.inside;
        enough = omega (arith, e, q.enough);
        all = λ k m. f k (inside-members s.n q.set q.inside k m).0 (q.all k m);
      }

  -- ---- where a pair comes from

  pub from-kept : (x : ℕ) (pair : Pair) → From s.rows x pair → From t.rows x pair
  from-kept x pair (inl e) = inl e
  from-kept x pair (inr (j, l, w)) =
      let k = kept.rows.kept j l in
      let longer = kept.rows.longer in
      inr (
        j,
        omega arith,
        record {
          kind = k.kind ∙ w.kind;
          register = k.register ∙ w.register;
          stamp = k.stamp w.kind ∙ w.stamp;
          value = k.value w.kind ∙ w.value;
        },
      )

  -- ---- a process that stores the same, or waits for the same

  pub stores-kept : (q : ℕ) → 1 ≤ q → (replica_of t q).pairs ≡ (replica_of s q).pairs → Stores s q → Stores t q
  stores-kept q first e old =
      let c = kept.clock q first in
      record {
        sixteen = rw e old.sixteen;
        early = λ j. rw e (omega (arith, old.early j));
        source = λ j. rw e (from-kept (suc j) _ (old.source j));
      }

  pub serves-kept : (q : ℕ) (r : Row) (pair : Pair) → 1 ≤ q → Serves s q r pair → Serves t q r pair
  serves-kept q r pair first old =
      let c = kept.clock q first in
      record { own = old.own; pending = old.pending; early = omega (arith, old.early); source = from-kept r.register pair old.source }

  pub asking-kept : (q : ℕ) (r : Row) (best : Pair) (repliers : ℕ) → 1 ≤ q → Inside s.n repliers
      → Asking s held q r best repliers → Asking t after q r best repliers
  asking-kept q r best repliers first inside old =
      record {
        serves = serves-kept q r best first old.serves;
        kind = old.kind;
        counted = λ k m. below-kept r best.stamp k (inside-members s.n repliers inside k m).0 (old.counted k m);
      }

  pub telling-kept : (q : ℕ) (r : Row) (sent : Pair) (repliers : ℕ) → 1 ≤ q → Inside s.n repliers
      → Telling s held q r sent repliers → Telling t after q r sent repliers
  telling-kept q r sent repliers first inside old =
      record {
        serves = serves-kept q r sent first old.serves;
        counted = λ k m.
            let least = (inside-members s.n repliers inside k m).0 in
            at_most-transitive sent.stamp (after k (clock_at s q) r.register) (after k (clock_at t q) r.register)
            (above_kept r sent.stamp (clock_at s q) k least (old.counted k m))
            (kept.recalls.rising k r.register (clock_at s q) (clock_at t q) least (kept.clock q first));
        written = old.written;
        asked = λ e. quorum-kept (responses-same s t kept.processes) (below-kept r sent.stamp) (old.asked e);
      }

  -- ---- a message that was in flight before

  module _ (waits : (q : ℕ) → 1 ≤ q → Waits s held q) where
    row_kept : (i : ℕ) → IsRow s i → RowKept (row_of s i) (row_of t i)
    row_kept i (a, b) = kept.rows.kept (i - 1) (omega arith)

    pub while-asking : (p rid : ℕ) (Holds HoldsThen : Row → Type 0) → 1 ≤ p → rid ≤ (replica_of s p).rid.0
        → ((r then : Row) → RowKept r then → Holds r → HoldsThen then)
        → WhileAsking s p rid Holds → WhileAsking t p rid HoldsThen
    while-asking p rid Holds HoldsThen first begun move meant i gathered e f =
        elim ((kept.traced p first).asking i gathered e) [
          | inl l ↦ absurd (omega arith)
          | inr (old, g, h) ↦ move (row_of s i) (row_of t i) (row_kept i ((waits p first).asking i old g).0) (meant i old g (h ∙ f))
        ]

    pub while-telling : (p rid : ℕ) (Holds HoldsThen : Row → Pair → Type 0) → 1 ≤ p → rid ≤ (replica_of s p).rid.0
        → ((r then : Row) (sent : Pair) → RowKept r then → Holds r sent → HoldsThen then sent)
        → WhileTelling s p rid Holds → WhileTelling t p rid HoldsThen
    while-telling p rid Holds HoldsThen first begun move meant i sent e f =
        elim ((kept.traced p first).telling i sent e) [
          | inl l ↦ absurd (omega arith)
          | inr (g, h) ↦ move (row_of s i) (row_of t i) sent (row_kept i ((waits p first).telling i sent g).0) (meant i sent g (h ∙ f))
        ]

    says-kept : (message : Message) (body : Body) → Begun s message body → Carried s held message → Says s held message body → Says t after message body
    says-kept message (Query x) begun c old =
        record {
          first = old.first;
          last = old.last;
          meant = while-asking message.from.0 message.rid.0 (QueryOf message x) (QueryOf message x) c.from_first begun
              (λ r then k h. (k.register ∙ h.0, rw k.invoked h.1)) old.meant;
        }
    says-kept message (Response pair) begun c old =
        record {
          early = old.early;
          meant = while-asking message.to.0 message.rid.0 (ResponseOf s held message pair) (ResponseOf t after message pair)
              c.to-first begun
              (λ r then k h.
              rw (k.invoked, k.register) (below-kept r pair.stamp message.from.0 c.from_first h.0, from-kept r.register pair h.1))
              old.meant;
        }
    says-kept message (Update x pair) begun c old =
        record {
          first = old.first;
          last = old.last;
          early = old.early;
          source = from-kept x pair old.source;
          meant = while-telling message.from.0 message.rid.0 (UpdateOf x pair) (UpdateOf x pair) c.from_first begun
              (λ r then sent k h. (k.register ∙ h.0, h.1)) old.meant;
        }
    says-kept message Ack begun c old =
        record {
          meant = while-telling message.to.0 message.rid.0 (AckOf held message) (AckOf after message) c.to-first begun
              (λ r then sent k h. rw k.register (above_kept r sent.stamp message.time.0 message.from.0 c.from_first h))
              old.meant;
        }

    pub carried-kept : (message : Message) → Begun s message message.body → Carried s held message → Carried t after message
    carried-kept message begun c =
        record {
          from_first = c.from_first;
          from_last = rw kept.processes c.from_last;
          to-first = c.to-first;
          to_last = rw kept.processes c.to_last;
          says = says-kept message message.body begun c c.says;
        }

  -- ---- a row that is as it was

  done-kept : (r : Row) → 1 ≤ r.process.0 → Done s held r → Done t after r
  done-kept r first old =
      let c = kept.clock r.process.0 first in
      record {
        later = old.later;
        past = omega (arith, old.past);
        early = old.early;
        told = quorum-kept (acks-same s t kept.processes) (above_kept r r.stamp r.answered.0) old.told;
        asked = λ e. quorum-kept (responses-same s t kept.processes) (below-kept r r.stamp) (old.asked e);
        source = λ e. from-kept r.register _ (old.source e);
      }

  pub entered-kept : (r : Row) → Entered s held r → Entered t after r
  entered-kept r old =
      let c = kept.clock r.process.0 old.first in
      record {
        first = old.first;
        last = rw kept.processes old.last;
        begun = old.begun;
        past = omega (arith, old.past);
        written = old.written;
        done = λ n. done-kept r old.first (old.done n);
        register-first = old.register-first;
        register-last = old.register-last;
      }
