-- What `Same` leaves no choice in: a row is told by its operation, so the history tells the rows, and the system tells the phase of each process.
use Rattle.std.specs.Prelude.{ℕ, ◌≤◌, ◌≡◌, refl, Bool, true, false, cond, not, ◌&&◌, List, [], ◌∷◌, ◌++◌, map, eqb, ℤ, length, get_or, drop}
use Rattle.std.proofs.Common.{sym, ap, ap₂, ◌∙◌, arith, eq-eqb}
use Rattle.std.proofs.Math.Bool.{or-true}
use Rattle.std.proofs.lemmas.Bool.{false≢true}
use Rattle.words.specs.declared.Pair.{Pair}
use Rattle.replica.specs.declared.Phase.{Phase}
use Rattle.replica.specs.declared.Phase.TheVariants.{Idle, Querying, Updating}
use Rattle.replica.specs.Gathering.{gathered_from}
use Rattle.replica.specs.Handlers.{is_idle}
use Rattle.tables.specs.declared.Kind.{Kind}
use Rattle.tables.specs.declared.Kind.TheVariants.{Read, Write}
use Rattle.tables.specs.declared.Replied.{Replied}
use Rattle.tables.specs.declared.Row.{Row}
use Rattle.state.specs.State.{State, replica_of}
use Rattle.state.proofs.EveryLaws.{both}
use Rattle.state.specs.WellFormed.{pending_of, is_empty}
use Rattle.sc_abd.specs.Algorithm1.{Tsv, Content, bcast, on_read, on_write}
use Rattle.sc_abd.specs.System.{Call, Operation, System, Action, is_open, outstanding, asks_after, called, taken}
use Rattle.sc_abd.specs.Same.{tsv_of, operation_of, pointed_rows, SamePhase, Same}
use Rattle.sc_abd.specs.Demand2.{register_of}
use Rattle.sc_abd.proofs.Histories.{outstanding-pending}
use Rattle.sc_abd.proofs.Packets.{asks-all}
use Rattle.sc_abd.proofs.ProcessesLaws.{processes-once}
use Rattle.moves.specs.Stages.{Stage, stage_of}

-- ---- a row is told by its operation

abbrev pair_from : Tsv → Pair
pair_from v = record { stamp = record { time = record { 0 = v.ts.time }; process = record { 0 = v.ts.process } }; value = v.value }

pub tsv-once : (a b : Pair) → tsv_of a ≡ tsv_of b → a ≡ b
tsv-once a b e = ap pair_from e

abbrev kind_of : Call → Kind
kind_of (Call.READ r) = Read
kind_of (Call.WRITE r v) = Write

-- but for the sets
abbrev row_from : Operation → Replied → Row
row_from o replied =
    record {
      process = record { 0 = o.process };
      kind = kind_of o.call;
      register = register_of o.call;
      invoked = record { 0 = o.invoked };
      answered = record { 0 = o.answered };
      stamp = (pair_from o.tsv).stamp;
      value = o.tsv.value;
      replied = replied;
    }

row_back : (r : Row) → row_from (operation_of r) r.replied ≡ r
row_back r = go r.kind
  where
    told : Kind → Row
    told k =
        record {
          process = r.process;
          kind = k;
          register = r.register;
          invoked = r.invoked;
          answered = r.answered;
          stamp = r.stamp;
          value = r.value;
          replied = r.replied;
        }

    go : (k : Kind) → row_from (operation_of (told k)) r.replied ≡ told k
    go Read = refl
    go Write = refl

-- a list of processes tells its set
sets-once : (r t : Row) → operation_of r ≡ operation_of t → r.replied ≡ t.replied
sets-once r t e =
    ap₂ (λ (q u : ℕ). record { query = q; update = u })
    (processes-once r.replied.query t.replied.query (ap (λ (o : Operation). o.queried) e))
    (processes-once r.replied.update t.replied.update (ap (λ (o : Operation). o.acked) e))

pub operation-once : (r t : Row) → operation_of r ≡ operation_of t → r ≡ t
operation-once r t e = sym (row_back r) ∙ ap₂ row_from e (sets-once r t e) ∙ row_back t

history-once : (rows others : List Row) → map operation_of rows ≡ map operation_of others → rows ≡ others
history-once [] [] e = refl
history-once [] (t ∷ others) e = absurd (omega (arith, ap length e))
history-once (r ∷ rows) [] e = absurd (omega (arith, ap length e))
history-once (r ∷ rows) (t ∷ others) e =
    ap₂ (λ x y. x ∷ y) (operation-once r t (ap (λ (l : List Operation). get_or l 0 (operation_of r)) e))
    (history-once rows others (ap (λ (l : List Operation). drop 1 l) e))

-- ---- two states that are the same as one system

module _ (s t : State) (a : System) (one : Same s a) (other : Same t a) where
  pub rows-once : s.rows ≡ t.rows
  rows-once = history-once s.rows t.rows (one.history ∙ sym other.history)

  module _ (p : ℕ) (least : 1 ≤ p) (here : p ≤ s.n) (there : p ≤ t.n) where
    alike : (x y : Phase) → pointed_rows x ≡ pointed_rows y → SamePhase s x (a.processes p) (a.asking p) → SamePhase t y (a.processes p) (a.asking p)
        → x ≡ y
    alike Idle Idle e h k = refl
    alike Idle (Querying row gathered) e h k = let z : ◌≡◌ {A = ℕ} 0 1 = cc in absurd (omega arith)
    alike Idle (Updating row sent) e h k = let z : ◌≡◌ {A = ℕ} 0 1 = cc in absurd (omega arith)
    alike (Querying row gathered) Idle e h k = let z : ◌≡◌ {A = ℕ} 0 1 = cc in absurd (omega arith)
    alike (Querying row gathered) (Querying row' gathered') e h k =
        let rows : row ≡ row' = cc in
        ap₂ Querying rows (ap gathered_from (tsv-once gathered.best gathered'.best (sym h.best-so-far ∙ k.best-so-far)))
    alike (Querying row gathered) (Updating row' sent) e h k = absurd (false≢true (sym k.asking ∙ h.asking))
    alike (Updating row sent) Idle e h k = let z : ◌≡◌ {A = ℕ} 0 1 = cc in absurd (omega arith)
    alike (Updating row sent) (Querying row' gathered) e h k = absurd (false≢true (sym h.asking ∙ k.asking))
    alike (Updating row sent) (Updating row' sent') e h k =
        let rows : row ≡ row' = cc in
        ap₂ Updating rows (tsv-once sent sent' (sym h.pair-sent ∙ k.pair-sent))

    -- idle, querying or updating, the row and the pair
    pub phase-once : (replica_of s p).phase ≡ (replica_of t p).phase
    phase-once =
        let h = one.processes p least here in
        let k = other.processes p least there in
        alike (replica_of s p).phase (replica_of t p).phase (sym h.waits ∙ ap (pending_of p 1) rows-once ∙ k.waits) h.phase k.phase

-- ---- which phase it is

call-outstanding : (p : ℕ) (history : List Operation) (o : Operation) → (eqb o.process p && is_open o.returned) ≡ true
    → outstanding p (history ++ (o ∷ [])) ≡ true
call-outstanding p [] o e = rw e refl
call-outstanding p (x ∷ history) o e = rw (call-outstanding p history o e) (or-true (eqb x.process p && is_open x.returned))

module _ (s : State) (p : ℕ) (least : 1 ≤ p) (most : p ≤ s.n) where
  points-nowhere : (phase : Phase) → is_idle phase ≡ is_empty (pointed_rows phase)
  points-nowhere Idle = refl
  points-nowhere (Querying row gathered) = refl
  points-nowhere (Updating row sent) = refl

  pub idle-exactly : (a : System) → Same s a → outstanding p a.history ≡ not (is_idle (replica_of s p).phase)
  idle-exactly a same =
      let h = same.processes p least most in
      ap (outstanding p) (sym same.history) ∙ outstanding-pending p 1 s.rows ∙ ap (λ l. not (is_empty l)) h.waits
      ∙ ap not (sym (points-nowhere (replica_of s p).phase))

  stage-told : (a : System) (asks : Bool) → Same s a → outstanding p a.history ≡ true → a.asking p ≡ asks
      → stage_of (replica_of s p).phase ≡ cond asks Stage.querying Stage.updating
  stage-told a asks same busy e = go (replica_of s p).phase (sym (idle-exactly a same) ∙ busy) (same.processes p least most).phase
    where
      go : (phase : Phase) → not (is_idle phase) ≡ true → SamePhase s phase (a.processes p) (a.asking p)
          → stage_of phase ≡ cond asks Stage.querying Stage.updating
      go Idle f h = absurd (false≢true f)
      go (Querying row gathered) f h = rw (sym e ∙ h.asking) refl
      go (Updating row sent) f h = rw (sym e ∙ h.asking) refl

  -- a process that has just begun a read is querying, one that has just begun a write is updating
  pub read-queries : (a : System) (x : ℕ) → Same s (taken a (Action.invoke p (Call.READ x))) → stage_of (replica_of s p).phase ≡ Stage.querying
  read-queries a x same =
      let q = (on_read a.n p (a.processes p) x).process in
      let last : asks_after (a.asking p) (bcast a.n p (Content.query q.lt q.rid x)) ≡ true =
      asks-all a.n p (a.asking p) (Content.query q.lt q.rid x) (omega (arith, same.size)) in
      stage-told _ true same (call-outstanding p a.history (called p (Call.READ x) q) (both (eq-eqb p p refl) refl)) (rw (eq-eqb p p refl) last)

  pub write-updates : (a : System) (x : ℕ) (v : ℤ) → Same s (taken a (Action.invoke p (Call.WRITE x v))) → stage_of (replica_of s p).phase ≡ Stage.updating
  write-updates a x v same =
      let q = (on_write a.n p (a.processes p) x v).process in
      let last : asks_after (a.asking p) (bcast a.n p (Content.update q.lt q.rid x q.tsv)) ≡ false =
      asks-all a.n p (a.asking p) (Content.update q.lt q.rid x q.tsv) (omega (arith, same.size)) in
      stage-told _ false same (call-outstanding p a.history (called p (Call.WRITE x v) q) (both (eq-eqb p p refl) refl)) (rw (eq-eqb p p refl) last)
