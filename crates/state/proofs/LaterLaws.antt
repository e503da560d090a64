-- What fits fits later: every clause of well-formedness but the counts is kept when the count of accepted events grows and, for a replica, when its
-- own pending rows stay as they were.
use Rattle.std.specs.Prelude.{ℕ, zero, suc, ◌-◌, ◌≤◌, ◌≡◌, refl, Bool, true, ◌||◌, List, [], ◌∷◌, get_or}
use Rattle.std.proofs.Common.{ap, ◌∙◌, arith}
use Rattle.words.specs.declared.Body.{Body}
use Rattle.words.specs.declared.Body.TheVariants.{Query, Response, Update, Ack}
use Rattle.words.specs.declared.Message.{Message}
use Rattle.words.specs.declared.Pair.{Pair}
use Rattle.words.specs.Ranges.{within, pair_fits}
use Rattle.words.specs.RangeLaws.{and_left, and_right}
use Rattle.replica.specs.declared.Phase.{Phase}
use Rattle.replica.specs.declared.Phase.TheVariants.{Idle, Querying, Updating}
use Rattle.replica.specs.declared.Replica.{Replica}
use Rattle.tables.specs.declared.Row.{Row}
use Rattle.tables.specs.Tables.{empty_row}
use Rattle.state.specs.Needed.{responses_needed, acks_needed}
use Rattle.state.proofs.NeededLaws.{responses-same, acks-same, needed-same}
use Rattle.state.specs.State.{State, row_of}
use Rattle.state.specs.WellFormed.{every, body_fits, message_fits, is_write, enough, row_fits, pending_of, pairs_fit}
use Rattle.state.proofs.EveryLaws.{both, every-mono}
use Rattle.state.proofs.PairLaws.{pair-wider}
use Rattle.state.proofs.WellLaws.{message-ok, ok-message, RowOk, row_ok, ok-row, PhaseOk, ReplicaOk}

-- t is of the same bench as s, and no fewer events are accepted in it
pub record Later (s t : State) : Type 0 where
  pub same-n : t.n ≡ s.n
  pub same-m : t.m ≡ s.m
  pub more : s.accepted ≤ t.accepted

-- the pending rows of p have the same numbers in both, and an only one is the same row
pub record Kept (s t : State) (p : ℕ) : Type 0 where
  pub pending : pending_of p 1 t.rows ≡ pending_of p 1 s.rows
  pub row : (i : ℕ) → pending_of p 1 s.rows ≡ i ∷ [] → row_of t i ≡ row_of s i

-- so where the rows are the same
pub kept-rows : (s t : State) (p : ℕ) → t.rows ≡ s.rows → Kept s t p
kept-rows s t p e =
    record {
      pending = ap (pending_of p 1) e;
      row = λ i l. ap (λ (rows : List Row). get_or rows (i - 1) empty_row) e;
    }

module _ (s t : State) (l : Later s t) where
  pub pair-later : (p : Pair) → pair_fits s.accepted s.n p ≡ true → pair_fits t.accepted t.n p ≡ true
  pair-later p e = rw l.same-n (pair-wider s.accepted t.accepted s.n s.n p l.more (omega arith) e)

  pub body-later : (b : Body) → body_fits s b ≡ true → body_fits t b ≡ true
  body-later (Query x) e = rw l.same-m e
  body-later (Response p) e = pair-later p e
  body-later (Update x p) e =
      both (ap (within x) l.same-m ∙ and_left (within x s.m) (pair_fits s.accepted s.n p) e)
      (pair-later p (and_right (within x s.m) (pair_fits s.accepted s.n p) e))
  body-later Ack e = refl

  message-later : (x : Message) → message_fits s x ≡ true → message_fits t x ≡ true
  message-later x e =
      let k = message-ok s x e in
      ok-message t x
      (record {
        sender = rw l.same-n k.sender;
        recipient = rw l.same-n k.recipient;
        time = omega (arith, k.time, l.more);
        rid = omega (arith, k.rid, l.more);
        body = body-later x.body k.body;
      })

  pub messages-later : (xs : List Message) → every (message_fits s) xs ≡ true → every (message_fits t) xs ≡ true
  messages-later = every-mono (message_fits s) (message_fits t) message-later

  -- as many processes are enough
  enough-later : (least least_then set : ℕ) → least_then ≡ least → enough t least_then set ≡ enough s least set
  enough-later least least_then set e = let same = l.same-n in cc

  pub queried-later : (set : ℕ) → enough t (responses_needed t) set ≡ enough s (responses_needed s) set
  queried-later set = enough-later (responses_needed s) (responses_needed t) set (responses-same s t l.same-n)

  pub acked-later : (set : ℕ) → enough t (acks_needed t) set ≡ enough s (acks_needed s) set
  acked-later set = enough-later (acks_needed s) (acks_needed t) set (acks-same s t l.same-n)

  pub row-later : (r : Row) → RowOk s r → RowOk t r
  row-later r k =
      record {
        process = rw l.same-n k.process;
        register = rw l.same-m k.register;
        invoked = omega (arith, k.invoked, l.more);
        answered = omega (arith, k.answered, l.more);
        pair = pair-later (record { stamp = r.stamp; value = r.value }) k.pair;
        written = k.written;
        query = rw (queried-later r.replied.query) k.query;
        update = rw (acked-later r.replied.update) k.update;
      }

  pub rows-later : (rows : List Row) → every (row_fits s) rows ≡ true → every (row_fits t) rows ≡ true
  rows-later = every-mono (row_fits s) (row_fits t) (λ r e. ok-row t r (row-later r (row_ok s r e)))

  pub pairs-later : (k : ℕ) (ps : List Pair) → pairs_fit s k ps ≡ true → pairs_fit t k ps ≡ true
  pairs-later zero ps e = e
  pairs-later (suc k) [] e = refl
  pairs-later (suc k) (p ∷ ps) e =
      both (pair-later p (and_left (pair_fits s.accepted s.n p) (pairs_fit s k ps) e))
      (pairs-later k ps (and_right (pair_fits s.accepted s.n p) (pairs_fit s k ps) e))

  phase-later : (p : ℕ) → Kept s t p → (phase : Phase) (repliers : ℕ) → PhaseOk s p phase repliers → PhaseOk t p phase repliers
  phase-later p k Idle repliers o = (k.pending ∙ o.0, o.1)
  phase-later p k (Querying row gathered) repliers o =
      let same = k.row row o.0 in (
        k.pending ∙ o.0,
        ap (λ (r : Row). is_write r.kind) same ∙ o.1,
        pair-later gathered.best o.2,
        ap (λ (r : Row). r.replied.query) same ∙ o.3,
      )
  phase-later p k (Updating row sent) repliers o = (
    k.pending ∙ o.0,
    pair-later sent o.1,
    ap (λ (r : Row). is_write r.kind || enough t (responses_needed t) r.replied.query) (k.row row o.0)
        ∙ (ap (λ (b : Bool). is_write (row_of s row).kind || b) (queried-later (row_of s row).replied.query) ∙ o.2),
  )

  pub replica-later : (p : ℕ) → Kept s t p → (r : Replica) → ReplicaOk s p r → ReplicaOk t p r
  replica-later p k r o =
      record {
        clock = omega (arith, o.clock, l.more);
        rid = omega (arith, o.rid, l.more);
        sixteen = o.sixteen;
        pairs = ap (λ (k : ℕ). pairs_fit t k r.pairs) l.same-m ∙ pairs-later s.m r.pairs o.pairs;
        inside = rw l.same-n o.inside;
        few = rw (needed-same s t l.same-n r.phase) o.few;
        phase = phase-later p k r.phase r.repliers o.phase;
      }
