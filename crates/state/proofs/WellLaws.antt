-- A well-formed state, as facts with names: `well` reads the test of `WellFormed` into the record `Well`, and `unwell` makes the test of it again.
use Rattle.std.specs.Prelude.{ℕ, zero, suc, ◌+◌, ◌-◌, ◌*◌, ◌≤◌, ◌<◌, ◌≡◌, refl, false, not, cond, ◌&&◌, ◌||◌, List, [], ◌∷◌, ltb, get_or}
use Rattle.std.proofs.Math.Path.{ap}
use Rattle.std.proofs.Common.{◌∙◌, not-suc-le-zero, le_of_suc-le-suc}
use Rattle.std.proofs.Math.Bool.{Bool, true}
use Rattle.std.proofs.lemmas.Bool.{false≢true}
use Rattle.std.proofs.Math.Decide.{dec_le}
use native.Mathlib.Omega.{arith}
use Rattle.std.proofs.Math.Dec.{eqb, leb}
use Rattle.std.proofs.Math.ListN.{length}
use borrow.Author.Tests.{ltb-true, leb-true, eqb-true, not-true, lt-ltb, le-leb, lt-leb, eq-eqb}
use Rattle.words.specs.declared.Message.{Message}
use Rattle.words.specs.Quorum.{counted}
use Rattle.words.specs.QuorumLaws.{Inside}
use Rattle.words.specs.Ranges.{within, pair_fits, repliers_fit}
use Rattle.words.specs.RangeLaws.{and_left, and_right, fit-inside, inside-fit}
use Rattle.words.specs.Stamps.{start_pair}
use Rattle.replica.specs.declared.Phase.{Phase}
use Rattle.replica.specs.declared.Phase.TheVariants.{Idle, Querying, Updating}
use Rattle.replica.specs.declared.Replica.{Replica}
use Rattle.replica.specs.Handlers.{stored}
use Rattle.tables.specs.declared.Row.{Row}
use Rattle.tables.specs.Tables.{empty_message, empty_row}
use Rattle.state.specs.Needed.{responses_needed, needed}
use Rattle.state.specs.State.{State, fresh_replica, replica_of, row_of}
use Rattle.state.specs.WellFormed.{every, counts_fit, body_fits, message_fits, rising, flight_fits, is_write, enough, query_fits, update_fits, row_fits, history_fits}
use Rattle.state.specs.WellFormed.{pending_of, is_empty, is_only, phase_fits, pairs_fit, replica_fits, is_fresh, each_fits, replicas_fit, well_formed}
use Rattle.state.proofs.EveryLaws.{both, every-at}
use Rattle.state.specs.Within.{Within}
use Rattle.state.proofs.PairLaws.{within-ok, ok-within, pairs-at}
use Rattle.state.proofs.PendingLaws.{pending-within}

-- ---- a message

pub record MessageOk (s : State) (x : Message) : Type 0 where
  pub sender : Within x.from.0 s.n
  pub recipient : Within x.to.0 s.n
  pub time : x.time.0 ≤ s.accepted
  pub rid : x.rid.0 ≤ 2 * s.accepted
  pub body : body_fits s x.body ≡ true

module _ (s : State) (x : Message) where
  pub message-ok : message_fits s x ≡ true → MessageOk s x
  message-ok e =
      let a : Bool = within x.from.0 s.n in
      let b : Bool = within x.to.0 s.n in
      let c : Bool = leb x.time.0 s.accepted in
      let d : Bool = leb x.rid.0 (2 * s.accepted) in
      let f : (a && b && c && d) ≡ true = and_left (a && b && c && d) (body_fits s x.body) e in
      let g : (a && b && c) ≡ true = and_left (a && b && c) d f in
      let h : (a && b) ≡ true = and_left (a && b) c g in
      record {
        sender = within-ok _ _ (and_left a b h);
        recipient = within-ok _ _ (and_right a b h);
        time = leb-true _ _ (and_right (a && b) c g);
        rid = leb-true _ _ (and_right (a && b && c) d f);
        body = and_right (a && b && c && d) (body_fits s x.body) e;
      }

  pub ok-message : MessageOk s x → message_fits s x ≡ true
  ok-message k =
      both (both (both (both (ok-within k.sender) (ok-within k.recipient)) (le-leb _ _ k.time)) (le-leb _ _ k.rid)) k.body

-- ---- a row

pub record RowOk (s : State) (r : Row) : Type 0 where
  pub process : Within r.process.0 s.n
  pub register : Within r.register s.m
  pub invoked : r.invoked.0 ≤ s.accepted
  pub answered : r.answered.0 ≤ s.accepted
  pub pair : pair_fits s.accepted s.n (record { stamp = r.stamp; value = r.value }) ≡ true
  pub written : (not (is_write r.kind) || not (eqb r.stamp.time.0 0)) ≡ true
  pub query : query_fits s r ≡ true
  pub update : update_fits s r ≡ true

module _ (s : State) (r : Row) where
  pub row_ok : row_fits s r ≡ true → RowOk s r
  row_ok e =
      let a : Bool = within r.process.0 s.n in
      let b : Bool = within r.register s.m in
      let c : Bool = leb r.invoked.0 s.accepted in
      let d : Bool = leb r.answered.0 s.accepted in
      let p : Bool = pair_fits s.accepted s.n (record { stamp = r.stamp; value = r.value }) in
      let w : Bool = not (is_write r.kind) || not (eqb r.stamp.time.0 0) in
      let y : Bool = query_fits s r in
      let z : Bool = update_fits s r in
      let e₂ : (a && b && c && d && p && w && y) ≡ true = and_left (a && b && c && d && p && w && y) z e in
      let e₁ : (a && b && c && d && p && w) ≡ true = and_left (a && b && c && d && p && w) y e₂ in
      let o : (a && b && c && d && p) ≡ true = and_left (a && b && c && d && p) w e₁ in
      let f : (a && b && c && d) ≡ true = and_left (a && b && c && d) p o in
      let g : (a && b && c) ≡ true = and_left (a && b && c) d f in
      let h : (a && b) ≡ true = and_left (a && b) c g in
      record {
        process = within-ok _ _ (and_left a b h);
        register = within-ok _ _ (and_right a b h);
        invoked = leb-true _ _ (and_right (a && b) c g);
        answered = leb-true _ _ (and_right (a && b && c) d f);
        pair = and_right (a && b && c && d) p o;
        written = and_right (a && b && c && d && p) w e₁;
        query = and_right (a && b && c && d && p && w) y e₂;
        update = and_right (a && b && c && d && p && w && y) z e;
      }

  pub ok-row : RowOk s r → row_fits s r ≡ true
  ok-row k =
      both (both (both (both
      (both (both (both (ok-within k.process) (ok-within k.register)) (le-leb _ _ k.invoked)) (le-leb _ _ k.answered))
      k.pair) k.written) k.query) k.update

-- ---- a phase: a waiting replica of p points to p's only pending row; the row's query phase has not ended while it is querying, and that of a read has
-- while it is updating

abbrev pub PhaseOk : State → ℕ → Phase → ℕ → Type 0
PhaseOk s p Idle repliers = (pending_of p 1 s.rows ≡ []) × (repliers ≡ 0)
PhaseOk s p (Querying row gathered) repliers =
    (pending_of p 1 s.rows ≡ row ∷ []) × (is_write (row_of s row).kind ≡ false) × (pair_fits s.accepted s.n gathered.best ≡ true)
    × ((row_of s row).replied.query ≡ 0)
PhaseOk s p (Updating row sent) repliers =
    (pending_of p 1 s.rows ≡ row ∷ []) × (pair_fits s.accepted s.n sent ≡ true)
    × ((is_write (row_of s row).kind || enough s (responses_needed s) (row_of s row).replied.query) ≡ true)

empty-ok : (l : List ℕ) → is_empty l ≡ true → l ≡ []
empty-ok [] e = refl
empty-ok (i ∷ rest) e = absurd (false≢true e)

only-ok : (row : ℕ) (l : List ℕ) → is_only row l ≡ true → l ≡ row ∷ []
only-ok row [] e = absurd (false≢true e)
only-ok row (i ∷ rest) e =
    let f : i ≡ row = eqb-true i row (and_left (eqb i row) (is_empty rest) e) in
    let g : rest ≡ [] = empty-ok rest (and_right (eqb i row) (is_empty rest) e) in
    cc

ok-empty : (l : List ℕ) → l ≡ [] → is_empty l ≡ true
ok-empty l e = rw e refl

ok-only : (row : ℕ) (l : List ℕ) → l ≡ row ∷ [] → is_only row l ≡ true
ok-only row l e = rw e (both (eq-eqb row row refl) refl)

module _ (s : State) (p : ℕ) where
  phase-ok : (phase : Phase) (repliers : ℕ) → phase_fits s p phase repliers ≡ true → PhaseOk s p phase repliers
  phase-ok Idle repliers e =
      let a : Bool = is_empty (pending_of p 1 s.rows) in
      (empty-ok _ (and_left a (eqb repliers 0) e), eqb-true repliers 0 (and_right a (eqb repliers 0) e))
  phase-ok (Querying row gathered) repliers e =
      let a : Bool = is_only row (pending_of p 1 s.rows) in
      let b : Bool = not (is_write (row_of s row).kind) in
      let c : Bool = pair_fits s.accepted s.n gathered.best in
      let d : Bool = eqb (row_of s row).replied.query 0 in
      let g : (a && b && c) ≡ true = and_left (a && b && c) d e in
      let f : (a && b) ≡ true = and_left (a && b) c g in
      (only-ok row _ (and_left a b f), not-true _ (and_right a b f), and_right (a && b) c g, eqb-true _ _ (and_right (a && b && c) d e))
  phase-ok (Updating row sent) repliers e =
      let a : Bool = is_only row (pending_of p 1 s.rows) in
      let c : Bool = pair_fits s.accepted s.n sent in
      let d : Bool = is_write (row_of s row).kind || enough s (responses_needed s) (row_of s row).replied.query in
      let f : (a && c) ≡ true = and_left (a && c) d e in
      (only-ok row _ (and_left a c f), and_right a c f, and_right (a && c) d e)

  ok-phase : (phase : Phase) (repliers : ℕ) → PhaseOk s p phase repliers → phase_fits s p phase repliers ≡ true
  ok-phase Idle repliers k = both (ok-empty _ k.0) (eq-eqb repliers 0 k.1)
  ok-phase (Querying row gathered) repliers k = both (both (both (ok-only row _ k.0) (ap not k.1)) k.2) (eq-eqb _ _ k.3)
  ok-phase (Updating row sent) repliers k = both (both (ok-only row _ k.0) k.1) k.2

-- ---- a replica

pub record ReplicaOk (s : State) (p : ℕ) (r : Replica) : Type 0 where
  pub clock : r.clock.0 ≤ s.accepted
  pub rid : r.rid.0 ≤ 2 * s.accepted
  pub sixteen : length r.pairs ≡ 16
  pub pairs : pairs_fit s s.m r.pairs ≡ true
  pub inside : Inside s.n r.repliers
  pub few : counted r.repliers < needed s r.phase
  pub phase : PhaseOk s p r.phase r.repliers

module _ (s : State) (p : ℕ) (r : Replica) where
  replica-ok : replica_fits s p r ≡ true → ReplicaOk s p r
  replica-ok e =
      let a : Bool = leb r.clock.0 s.accepted in
      let b : Bool = leb r.rid.0 (2 * s.accepted) in
      let c : Bool = eqb (length r.pairs) 16 in
      let d : Bool = pairs_fit s s.m r.pairs in
      let u : Bool = repliers_fit s.n r.repliers in
      let w : Bool = ltb (counted r.repliers) (needed s r.phase) in
      let z : Bool = phase_fits s p r.phase r.repliers in
      let e₆ : (a && b && c && d && u && w) ≡ true = and_left (a && b && c && d && u && w) z e in
      let e₅ : (a && b && c && d && u) ≡ true = and_left (a && b && c && d && u) w e₆ in
      let e₄ : (a && b && c && d) ≡ true = and_left (a && b && c && d) u e₅ in
      let e₃ : (a && b && c) ≡ true = and_left (a && b && c) d e₄ in
      let e₂ : (a && b) ≡ true = and_left (a && b) c e₃ in
      record {
        clock = leb-true _ _ (and_left a b e₂);
        rid = leb-true _ _ (and_right a b e₂);
        sixteen = eqb-true _ _ (and_right (a && b) c e₃);
        pairs = and_right (a && b && c) d e₄;
        inside = fit-inside s.n r.repliers (and_right (a && b && c && d) u e₅);
        few = ltb-true _ _ (and_right (a && b && c && d && u) w e₆);
        phase = phase-ok s p r.phase r.repliers (and_right (a && b && c && d && u && w) z e);
      }

  ok-replica : ReplicaOk s p r → replica_fits s p r ≡ true
  ok-replica k =
      both (both (both (both (both (both
      (le-leb _ _ k.clock) (le-leb _ _ k.rid)) (eq-eqb _ _ k.sixteen)) k.pairs)
      (inside-fit s.n r.repliers k.inside)) (lt-ltb _ _ k.few))
      (ok-phase s p r.phase r.repliers k.phase)

-- ---- all replicas, by the number of their process

-- what `each_fits` says of process p
abbrev one_fits : State → ℕ → Replica → Bool
one_fits s p r = cond (leb p s.n) (replica_fits s p r) (is_fresh r)

module _ (s : State) where
  each_at : (p : ℕ) (rs : List Replica) (i : ℕ) → each_fits s p rs ≡ true → i < length rs → one_fits s (p + i) (get_or rs i fresh_replica) ≡ true
  each_at p [] i e l = absurd (not-suc-le-zero l)
  each_at p (r ∷ rs) zero e l =
      let f : p + 0 ≡ p = omega arith in
      rw f (and_left (one_fits s p r) (each_fits s (suc p) rs) e)
  each_at p (r ∷ rs) (suc i) e l =
      let f : p + suc i ≡ suc p + i = omega arith in
      rw f (each_at (suc p) rs i (and_right (one_fits s p r) (each_fits s (suc p) rs) e) (le_of_suc-le-suc l))

  at_each : (p : ℕ) (rs : List Replica) → ((i : ℕ) → i < length rs → one_fits s (p + i) (get_or rs i fresh_replica) ≡ true) → each_fits s p rs ≡ true
  at_each p [] f = refl
  at_each p (r ∷ rs) f = both first (at_each (suc p) rs rest)
    where
      first : one_fits s p r ≡ true
      first = let e : p ≡ p + 0 = omega arith in ap (λ (q : ℕ). one_fits s q r) e ∙ f 0 (omega arith)

      rest : (i : ℕ) → i < length rs → one_fits s (suc p + i) (get_or rs i fresh_replica) ≡ true
      rest i l =
          let e : suc p + i ≡ p + suc i = omega arith in
          ap (λ (q : ℕ). one_fits s q (get_or rs i fresh_replica)) e ∙ f (suc i) (omega arith)

-- ---- a state

pub record Well (s : State) : Type 0 where
  pub processes : Within s.n 7
  pub registers : Within s.m 16
  pub events : s.accepted ≤ 12000
  pub sends : s.sent ≤ 7 * s.accepted
  pub balance : s.sent ≡ s.delivered + s.lost + length s.flight
  pub messages : every (message_fits s) s.flight ≡ true
  pub numbers : rising 0 s.sent s.flight ≡ true
  pub history : every (row_fits s) s.rows ≡ true
  pub seven : length s.replicas ≡ 7
  pub replica : (p : ℕ) → Within p s.n → ReplicaOk s p (replica_of s p)
  pub beyond : (p : ℕ) → s.n < p → p ≤ 7 → is_fresh (replica_of s p) ≡ true

module _ (s : State) (w : Well s) where
  pub message-at : (i : ℕ) → i < length s.flight → MessageOk s (get_or s.flight i empty_message)
  message-at i l = message-ok s _ (every-at (message_fits s) s.flight empty_message i w.messages l)

  pub row-at : (i : ℕ) → i < length s.rows → RowOk s (get_or s.rows i empty_row)
  row-at i l = row_ok s _ (every-at (row_fits s) s.rows empty_row i w.history l)

  -- the pair that a replica has stored for a register of the bench
  pub stored_at : (p x : ℕ) → Within p s.n → Within x s.m → pair_fits s.accepted s.n (stored (replica_of s p) x) ≡ true
  stored_at p x a l =
      pairs-at s s.m (replica_of s p).pairs (x - 1) start_pair (w.replica p a).pairs (omega (arith, l.least, l.most))
      (omega (arith, (w.replica p a).sixteen, w.registers.most, l.least, l.most))

  -- the register that a pending row asks for
  pub asked-at : (p row : ℕ) → pending_of p 1 s.rows ≡ row ∷ [] → Within (row_of s row).register s.m
  asked-at p row e =
      let h = pending-within p row s.rows e in
      (row-at (row - 1) (omega (arith, h.least, h.most))).register

module _ (s : State) where
  counts-ok : counts_fit s ≡ true → (within s.n 7 ≡ true) × (within s.m 16 ≡ true) × (s.accepted ≤ 12000) × (s.sent ≤ 7 * s.accepted)
      × (s.sent ≡ s.delivered + s.lost + length s.flight)
  unfolding counts_fit
  counts-ok e =
      let a : Bool = within s.n 7 in
      let b : Bool = within s.m 16 in
      let c : Bool = leb s.accepted 12000 in
      let d : Bool = leb s.sent (7 * s.accepted) in
      let f : Bool = eqb s.sent (s.delivered + s.lost + length s.flight) in
      let e₄ : (a && b && c && d) ≡ true = and_left (a && b && c && d) f e in
      let e₃ : (a && b && c) ≡ true = and_left (a && b && c) d e₄ in
      let e₂ : (a && b) ≡ true = and_left (a && b) c e₃ in (
        and_left a b e₂,
        and_right a b e₂,
        leb-true _ _ (and_right (a && b) c e₃),
        leb-true _ _ (and_right (a && b && c) d e₄),
        eqb-true _ _ (and_right (a && b && c && d) f e),
      )

  ok-counts : Well s → counts_fit s ≡ true
  unfolding counts_fit
  ok-counts w =
      both (both (both (both (ok-within w.processes) (ok-within w.registers)) (le-leb _ _ w.events)) (le-leb _ _ w.sends)) (eq-eqb _ _ w.balance)

  one_at : replicas_fit s ≡ true → (p : ℕ) → 1 ≤ p → p ≤ 7 → one_fits s p (replica_of s p) ≡ true
  unfolding replicas_fit
  one_at e p least most =
      let c : Bool = eqb (length s.replicas) 7 in
      let seven : length s.replicas ≡ 7 = eqb-true _ _ (and_left c _ e) in
      let f : p ≡ 1 + (p - 1) = omega arith in
      ap (λ (q : ℕ). one_fits s q (replica_of s p)) f ∙ each_at s 1 s.replicas (p - 1) (and_right c _ e) (omega arith)

  ok-replicas : Well s → replicas_fit s ≡ true
  unfolding replicas_fit
  ok-replicas w = both (eq-eqb _ _ w.seven) (at_each s 1 s.replicas (λ i l. one i (omega (arith, w.seven))))
    where
      one : (i : ℕ) → i < 7 → one_fits s (1 + i) (get_or s.replicas i fresh_replica) ≡ true
      one i l =
          let f : i ≡ 1 + i - 1 = omega arith in
          ap (λ (j : ℕ). one_fits s (1 + i) (get_or s.replicas j fresh_replica)) f ∙ elim (dec_le (1 + i) s.n) [
            | yes a ↦
                rw (le-leb (1 + i) s.n a)
                (ok-replica s (1 + i) (replica_of s (1 + i)) (w.replica (1 + i) (record { least = omega arith; most = a })))
            | no a ↦ let b : s.n < 1 + i = omega arith in rw (lt-leb (1 + i) s.n b) (w.beyond (1 + i) b (omega arith))
          ]

  pub well : well_formed s ≡ true → Well s
  unfolding well_formed flight_fits history_fits replicas_fit
  well e =
      let a : Bool = counts_fit s in
      let b : Bool = flight_fits s in
      let c : Bool = history_fits s in
      let d : Bool = replicas_fit s in
      let e₃ : (a && b && c) ≡ true = and_left (a && b && c) d e in
      let e₂ : (a && b) ≡ true = and_left (a && b) c e₃ in
      let counts = counts-ok (and_left a b e₂) in
      let flight : b ≡ true = and_right a b e₂ in
      let replicas : d ≡ true = and_right (a && b && c) d e in
      let most : s.n ≤ 7 = (within-ok _ _ counts.0).most in
      record {
        processes = within-ok _ _ counts.0;
        registers = within-ok _ _ counts.1;
        events = counts.2;
        sends = counts.3;
        balance = counts.4;
        messages = and_left (every (message_fits s) s.flight) (rising 0 s.sent s.flight) flight;
        numbers = and_right (every (message_fits s) s.flight) (rising 0 s.sent s.flight) flight;
        history = and_right (a && b) c e₃;
        seven = eqb-true _ _ (and_left (eqb (length s.replicas) 7) (each_fits s 1 s.replicas) replicas);
        replica = λ p l. replica-ok s p (replica_of s p) (rw (le-leb p s.n l.most) at (one_at replicas p l.least (omega (arith, l.most))));
        beyond = λ p l h. rw (lt-leb p s.n l) at (one_at replicas p (omega arith) h);
      }

  pub unwell : Well s → well_formed s ≡ true
  unfolding well_formed flight_fits history_fits
  unwell w = both (both (both (ok-counts w) (both w.messages w.numbers)) w.history) (ok-replicas w)
