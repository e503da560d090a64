-- A row names exactly those whose replies were counted; and a completed one as many as end it, a majority, in each phase that it had.
use Rattle.std.specs.Prelude.{ℕ, ◌-◌, ◌≤◌, ◌≡◌, refl, ◌≢◌, Bool, true, false, cond, ◌||◌, ◌&&◌, List, [], eqb, leb, length}
use Rattle.std.proofs.Common.{sym, ap, ◌∙◌, inl, inr, arith, ne_eqb, leb-true}
use Rattle.std.proofs.lemmas.Bool.{false≢true}
use Rattle.words.specs.Quorum.{member, counted}
use Rattle.words.specs.Ranges.{repliers_fit}
use Rattle.words.specs.RangeLaws.{and_left, and_right, fit-inside}
use Rattle.replica.specs.declared.Phase.{Phase}
use Rattle.replica.specs.declared.Phase.TheVariants.{Idle, Querying, Updating}
use Rattle.replica.specs.declared.Replica.{Replica}
use Rattle.replica.specs.Handlers.{is_idle}
use Rattle.replica.specs.Numbers.{pointed}
use Rattle.tables.specs.declared.Kind.TheVariants.{Read}
use Rattle.tables.specs.declared.Row.{Row}
use Rattle.state.specs.declared.Event.{Event}
use Rattle.state.specs.Needed.{responses_needed, acks_needed}
use Rattle.state.specs.State.{State, fresh, replica_of, row_of}
use Rattle.state.specs.Step.{step}
use Rattle.state.specs.Counting.{Moment, Run}
use Rattle.state.specs.Counting.RunBy.{begun as fresh-run, then}
use Rattle.state.proofs.CountingLaws.{run-reached}
use Rattle.state.proofs.Keeps.{reached-well-formed}
use Rattle.state.specs.Within.{Within}
use Rattle.state.specs.WellFormed.{enough, is_write}
use Rattle.state.proofs.WellLaws.{Well, well, row-at, RowOk}
use Rattle.moves.proofs.MoveLaws.{moves}
use Rattle.moves.specs.Places.{fresh-replica}
use Rattle.moves.specs.Stages.{Stage, stage_of}
use Rattle.sc_abd.specs.Replied.{longer}
use Rattle.sc_abd.specs.Named.{CountedFor, named, Exactly, IsQuorum}
use Rattle.sc_abd.specs.Named.CountedFor.{now, earlier}
use Rattle.sc_abd.specs.NamedKept.{Known, Learns, named-empty, none_in}
use Rattle.sc_abd.specs.NamedMoves.{waits-for, unqueried, pending-answer, move-learns}

-- ---- over a run

record Exact (s : State) (run : List Moment) : Type 0 where
  known : (row j : ℕ) (stage : Stage) → 1 ≤ row → CountedFor row j stage run → Known s row j stage
  counted : (row j : ℕ) (stage : Stage) → 1 ≤ row → Known s row j stage → CountedFor row j stage run

next-exact : (s : State) (e : Event) (t : State) (run : List Moment) → Exact s run → Learns s e t → Exact t (longer s e run)
next-exact s e t run exact learns = record { known = known-then; counted = counted-then }
  where
    known-then : (row j : ℕ) (stage : Stage) → 1 ≤ row → CountedFor row j stage (longer s e run) → Known t row j stage
    known-then row j stage l (now c) = learns.new row j stage l c
    known-then row j stage l (earlier c) = learns.old row j stage l (exact.known row j stage l c)

    counted-then : (row j : ℕ) (stage : Stage) → 1 ≤ row → Known t row j stage → CountedFor row j stage (longer s e run)
    counted-then row j stage l h =
        elim (learns.only row j stage l h) [ inl k ↦ earlier (exact.counted row j stage l k) | inr c ↦ now c ]

run-well : {s : State} {run : List Moment} → Run s run → Well s
run-well {s} r = well s (reached-well-formed s (run-reached r))

run-exact : {s : State} {run : List Moment} → Run s run → Exact s run
run-exact (fresh-run n m e f) =
    record {
      known = λ row j stage l c. absurd (none-counted c);
      counted = λ row j stage l h. none-known row j stage h;
    }
  where
    none-counted : {row j : ℕ} {stage : Stage} → CountedFor row j stage [] → ⊥
    none-counted = elim [ ]

    none-known : (row j : ℕ) (stage : Stage) {A : Type 0} → Known (fresh n m) row j stage → A
    none-known row j stage (inl h) = none_in (named (row_of (fresh n m) row) stage) j (named-empty stage) h
    none-known row j stage (inr h) =
        none_in (replica_of (fresh n m) h.process).repliers j (ap (λ (r : Replica). r.repliers) (fresh-replica n m h.process)) h.waiting.counted
run-exact (then s e run r z) =
    next-exact s e (step s e).state run (run-exact r) (move-learns s (run-well r) (moves s e z))

-- ---- enough are a quorum

either_left : (a b : Bool) → (a || b) ≡ true → b ≡ false → a ≡ true
either_left true b e f = refl
either_left false b e f = absurd (false≢true (sym f ∙ e))

enough-quorum : (s : State) (least who : ℕ) → enough s least who ≡ true → IsQuorum s.n least who
enough-quorum s least who e =
    record {
      inside = fit-inside s.n who (and_left (repliers_fit s.n who) (leb least (counted who)) e);
      enough = leb-true least (counted who) (and_right (repliers_fit s.n who) (leb least (counted who)) e);
    }

-- ---- in a user's words

module _ {s : State} {run : List Moment} (r : Run s run) (row : ℕ) (there : Within row (length s.rows)) where
  -- the set is exact once nobody waits for the row in that phase
  settled : (stage : Stage) → ((p : ℕ) → Within p s.n → pointed (replica_of s p).phase ≡ row → stage_of (replica_of s p).phase ≡ stage → ⊥) → (j : ℕ)
      → Exactly (member (named (row_of s row) stage) j ≡ true) (CountedFor row j stage run)
  settled stage nobody j = (λ h. (run-exact r).counted row j stage there.least (inl h), λ c. by ((run-exact r).known row j stage there.least c))
    where
      by : Known s row j stage → member (named (row_of s row) stage) j ≡ true
      by (inl h) = h
      by (inr h) = absurd (nobody h.process h.within-n h.waiting.row_is h.waiting.stage_is)

  -- of a completed operation each process in its sets has replied to that phase's request, and nobody else was counted (of a write, nobody for a query)
  pub named-exactly : (row_of s row).answered.0 ≢ 0 → (j : ℕ)
      → Exactly (member (row_of s row).replied.query j ≡ true) (CountedFor row j Stage.querying run)
      × Exactly (member (row_of s row).replied.update j ≡ true) (CountedFor row j Stage.updating run)
  named-exactly complete j = (settled Stage.querying nobody j, settled Stage.updating nobody j)
    where
      nobody : {stage : Stage} (p : ℕ) → Within p s.n → pointed (replica_of s p).phase ≡ row → stage_of (replica_of s p).phase ≡ stage → ⊥
      nobody p actor e f =
          complete (pending-answer p row s.rows (waits-for s (run-well r) p actor row (busy (replica_of s p).phase e) e))
        where
          busy : (phase : Phase) → pointed phase ≡ row → is_idle phase ≡ false
          busy Idle e = absurd (omega (arith, there.least, e))
          busy (Querying x gathered) e = refl
          busy (Updating x sent) e = refl

  -- and of any operation whose query phase has ended
  pub query-named-exactly : (row_of s row).replied.query ≢ 0 → (j : ℕ)
      → Exactly (member (row_of s row).replied.query j ≡ true) (CountedFor row j Stage.querying run)
  query-named-exactly ended = settled Stage.querying (λ p actor e f. ended (unqueried s (run-well r) p actor row e f))

  -- a completed operation names as many as end it, a majority, in each phase that it had
  pub majorities-named : (row_of s row).answered.0 ≢ 0
      → ((row_of s row).kind ≡ Read → IsQuorum s.n (responses_needed s) (row_of s row).replied.query)
      × IsQuorum s.n (acks_needed s) (row_of s row).replied.update
  majorities-named complete = (
    λ read. enough-quorum s (responses_needed s) r'.replied.query (queried read),
    enough-quorum s (acks_needed s) r'.replied.update acked,
  )
    where
      r' : Row
      r' = row_of s row

      fits : RowOk s r'
      fits = row-at s (run-well r) (row - 1) (omega (arith, there.least, there.most))

      answered : eqb r'.answered.0 0 ≡ false
      answered = ne_eqb r'.answered.0 0 complete

      queried : r'.kind ≡ Read → enough s (responses_needed s) r'.replied.query ≡ true
      queried read =
          either_left (enough s (responses_needed s) r'.replied.query) (eqb r'.answered.0 0 && eqb r'.replied.query 0)
          (sym (ap (λ k. cond (is_write k) (eqb r'.replied.query 0)
          (enough s (responses_needed s) r'.replied.query || (eqb r'.answered.0 0 && eqb r'.replied.query 0))) read) ∙ fits.query)
          (ap (λ b. b && eqb r'.replied.query 0) answered)

      acked : enough s (acks_needed s) r'.replied.update ≡ true
      acked = sym (ap (λ b. cond b (eqb r'.replied.update 0) (enough s (acks_needed s) r'.replied.update)) answered) ∙ fits.update
