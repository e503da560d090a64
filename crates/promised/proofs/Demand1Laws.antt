-- The public functions meet demand 1.
use Rattle.std.specs.Prelude.{ℕ, ◌-◌, ◌≤◌, Bool, not, ◌&&◌, List, length, replicate}
use Rattle.std.proofs.Math.Path.{◌≡◌, refl, sym, ap}
use Rattle.std.proofs.Common.{subst, ◌∙◌, eqb-true, eq-eqb, ne_eqb}
use Rattle.std.proofs.Math.Bool.{true, false, cond}
use Rattle.std.proofs.Math.Dec.{eqb}
use Rattle.std.proofs.lemmas.Bool.{eqb-false, not-false}
use Rattle.words.specs.declared.Message.{Message}
use Rattle.words.specs.Ranges.{within}
use Rattle.tables.specs.declared.Row.{Row}
use Rattle.state.specs.declared.Bench.{Bench}
use Rattle.state.specs.declared.Event.{Event}
use Rattle.state.specs.State.{State, view, fresh, laid_messages, laid_rows}
use Rattle.state.specs.Step.{step}
use Rattle.state.specs.Tabled.{tabled, lengths_fit, bench_of}
use Rattle.state.proofs.AcceptedLaws.{passed}
use Rattle.state.proofs.Refusals.{refused-changes-nothing}
use Rattle.state.proofs.Keeps.{reached-well-formed}
use Rattle.state.specs.Reached.{Reached, start}
use Rattle.state.proofs.Sized.{reached-sized}
use Rattle.state.proofs.WellLaws.{well}
use Rattle.standing.specs.declared.Status.TheVariants.{Down}
use Rattle.standing.specs.Status.{Statuses, statuses, downs}
use Rattle.advance.specs.Good.{bench-is, messages-are, rows_are}
use Rattle.advance.proofs.TabledLaws.{view-laid, laid-tabled, tabled-well, tabled-sized, step-well, step-sized}
use Rattle.format.specs.Format.{file_refusal}
use Rattle.format.proofs.FileLaws.{Opens}
use Rattle.order.specs.Operations.{order_of}
use Rattle.bench.specs.Start.{no_bench, replied, started_by, start_reply, starts}
use Rattle.bench.specs.Reply.{step_reply, step_messages, step_rows}
use Rattle.bench.specs.Listing.{Ordered, listed_reply, unlisted, laid_numbers, list_reply, list_left}
use Rattle.schedule.specs.Opening.{opening_refusal, ran_file, run_reply, run_messages, run_rows}
use Rattle.schedule.proofs.OpeningLaws.{opens-file}
use Rattle.schedule.proofs.FileLaws.{begun-reached, file-reached}
use Rattle.promised.specs.Checks.{first_of, event_checks, step_checks, start_checks, reading_checks}
use Rattle.promised.specs.Demand1.{Given, IsRefused, Leaves, Formed, WasReached, OfStep, OfStatus, OfOrder, OfStart, OfRun, Demand1, ours}
use Rattle.promised.proofs.ChecksLaws.{event-first, run-numbers}

-- ---- step

module _ (b : Bench) (e : Event) (messages : List Message) (rows : List Row) where
  abbrev now : State
  now = view b messages rows

  abbrev next : State
  next = (step now e).state

  step-first : (ours.step b e messages rows).refusal ≡ first_of (step_checks b e messages rows)
  unfolding step_reply
  step-first = go (tabled b messages rows) refl
    where
      go : (t : Bool) → tabled b messages rows ≡ t → cond t (step now e).refusal 18 ≡ cond (not t) 18 (first_of (event_checks now e))
      go true t = event-first now (well now (tabled-well b messages rows t)) (tabled-sized b messages rows t) e
      go false t = refl

  step_kept : (ours.step b e messages rows).refusal ≡ 0 → Formed (ours.step b e messages rows)
  unfolding step_reply step_messages step_rows
  step_kept = go (tabled b messages rows) refl
    where
      go : (t : Bool) → tabled b messages rows ≡ t → cond t (step now e).refusal 18 ≡ 0
          → tabled (cond t (bench_of next) b) (cond t (laid_messages next) messages) (cond t (laid_rows next) rows) ≡ true
      go true t z = laid-tabled next (step-well now e (tabled-well b messages rows t)) (step-sized now e (tabled-sized b messages rows t))
      go false t z = absurd (eqb-false 18 0 refl z)

  step-refused : IsRefused (ours.step b e messages rows).refusal → Leaves (ours.step b e messages rows) b messages rows
  unfolding step_reply step_messages step_rows
  step-refused = go (tabled b messages rows) refl
    where
      go : (t : Bool) → tabled b messages rows ≡ t → IsRefused (cond t (step now e).refusal 18)
          → (cond t (bench_of next) b ≡ b) × (cond t (laid_messages next) messages ≡ messages) × (cond t (laid_rows next) rows ≡ rows)
      go true t n =
          let same = refused-changes-nothing now e n in (
            ap bench_of same ∙ sym (bench-is b messages rows t),
            ap laid_messages same ∙ sym (messages-are b messages rows t),
            ap laid_rows same ∙ sym (rows_are b messages rows t),
          )
      go false t n = (refl, refl, refl)

-- ---- status and order

module _ (b : Bench) (messages : List Message) (rows : List Row) where
  abbrev standing : Bool → Statuses
  standing t = cond t (statuses (view b messages rows)) (downs 18)

  status-first : (t : Bool) → (standing t).refusal ≡ cond (not t) 18 0
  unfolding statuses downs
  status-first true = refl
  status-first false = refl

  status-refused : (t : Bool) → IsRefused (standing t).refusal → (standing t).of ≡ replicate 7 Down
  unfolding statuses downs
  status-refused true n = absurd (n refl)
  status-refused false n = refl

  module _ (out : List ℕ) where
    abbrev order : List ℕ
    order = order_of (view b messages rows).rows

    abbrev listed : Bool → Bool → Ordered
    listed t long = cond (t && long) (listed_reply (length order)) unlisted

    order-first : (t long : Bool) → (listed t long).refusal ≡ cond (not t) 18 (cond (not long) 18 0)
    order-first true true = refl
    order-first true false = refl
    order-first false long = refl

    order-refused : (t long : Bool) → IsRefused (listed t long).refusal → ((listed t long).count ≡ 0) × (cond (t && long) (laid_numbers order) out ≡ out)
    order-refused true true n = absurd (n refl)
    order-refused true false n = (refl, refl)
    order-refused false long n = (refl, refl)

-- ---- start and run: a bench in a state that was reached, or none

-- what is given where the checks come to k: a bench that has got to this state and stopped by `stop`, or none
abbrev bench_or_none : Bool → ℕ → ℕ → State → List Message → List Row → Given
bench_or_none t k stop s messages rows =
    record {
      refusal = (cond t (replied stop (bench_of s)) (replied k no_bench)).refusal;
      bench = (cond t (replied stop (bench_of s)) (replied k no_bench)).bench;
      messages = cond t (laid_messages s) messages;
      rows = cond t (laid_rows s) rows;
    }

module _ (k stop : ℕ) (s : State) (messages : List Message) (rows : List Row) where
  no-bench : IsRefused k → ((bench_or_none (eqb k 0) k stop s messages rows).refusal ≡ k) × Leaves (bench_or_none (eqb k 0) k stop s messages rows) no_bench messages rows
  no-bench n = rw (ne_eqb k 0 n) (refl, (refl, refl, refl))

  some-bench : Reached s → k ≡ 0 → Formed (bench_or_none (eqb k 0) k stop s messages rows) × WasReached (bench_or_none (eqb k 0) k stop s messages rows)
  some-bench r z = rw (eq-eqb k 0 z) (laid-tabled s (reached-well-formed s r) (reached-sized s r), subst Reached (sym (view-laid s)) r)

  some-refusal : k ≡ 0 → (bench_or_none (eqb k 0) k stop s messages rows).refusal ≡ stop
  some-refusal z = rw (eq-eqb k 0 z) refl

module _ (n m : ℕ) (messages : List Message) (rows : List Row) where
  abbrev start-number : ℕ
  start-number = first_of (start_checks n m messages rows)

  start_is : ours.start n m messages rows ≡ bench_or_none (eqb start-number 0) start-number 0 (fresh n m) messages rows
  unfolding start_reply started_by starts
  start_is = go (eqb start-number 0) refl
    where
      go : (t : Bool) → eqb start-number 0 ≡ t
          → ◌≡◌ {A = Given} (record {
            refusal = start-number;
            bench = cond t (bench_of (fresh n m)) no_bench;
            messages = cond t (laid_messages (fresh n m)) messages;
            rows = cond t (laid_rows (fresh n m)) rows;
          }) (bench_or_none t start-number 0 (fresh n m) messages rows)
      go true e = ap (λ (k : ℕ). record { refusal = k; bench = bench_of (fresh n m); messages = laid_messages (fresh n m); rows = laid_rows (fresh n m) }) (eqb-true start-number 0 e)
      go false e = refl

  start-reached : start-number ≡ 0 → Reached (fresh n m)
  start-reached z =
      let lengths = passed (not (lengths_fit messages rows)) 18 (cond (not (within n 7)) 4 (cond (not (within m 16)) 5 0)) refl z in
      let few = passed (not (within n 7)) 4 (cond (not (within m 16)) 5 0) refl lengths.1 in
      let some = passed (not (within m 16)) 5 0 refl few.1 in
      start n m (not-false (within n 7) few.0) (not-false (within m 16) some.0)

  start-refused : IsRefused start-number → Leaves (ours.start n m messages rows) no_bench messages rows
  start-refused k = subst (λ (g : Given). Leaves g no_bench messages rows) (sym start_is) (no-bench start-number 0 (fresh n m) messages rows k).1

  start-kept : start-number ≡ 0 → Formed (ours.start n m messages rows) × WasReached (ours.start n m messages rows)
  start-kept z = subst (λ (g : Given). Formed g × WasReached g) (sym start_is) (some-bench start-number 0 (fresh n m) messages rows (start-reached z) z)

module _ (messages : List Message) (rows : List Row) (bytes : List ℕ) where
  abbrev reading-number : ℕ
  reading-number = first_of (reading_checks messages rows bytes)

  run_is : ours.run messages rows bytes ≡ bench_or_none (eqb reading-number 0) reading-number (ran_file bytes).refusal (ran_file bytes).state messages rows
  unfolding run_reply run_messages run_rows opening_refusal file_refusal
  run_is = refl

  run-unread : IsRefused reading-number → ((ours.run messages rows bytes).refusal ≡ reading-number) × Leaves (ours.run messages rows bytes) no_bench messages rows
  run-unread k =
      subst (λ (g : Given). (g.refusal ≡ reading-number) × Leaves g no_bench messages rows) (sym run_is)
      (no-bench reading-number (ran_file bytes).refusal (ran_file bytes).state messages rows k)

  module _ (z : reading-number ≡ 0) where
    file-opens : Opens bytes
    unfolding opening_refusal file_refusal
    file-opens = opens-file (length messages) (length rows) bytes z

    stops : (ran_file bytes).refusal ≤ 17
    unfolding ran_file
    stops =
        let r = begun-reached bytes file-opens in
        run-numbers (length bytes - 7) bytes 7 _ (reached-well-formed _ r) (reached-sized _ r)

    run-number : (ours.run messages rows bytes).refusal ≤ 17
    run-number =
        subst (λ (k : ℕ). k ≤ 17)
        (sym (ap (λ (g : Given). g.refusal) run_is ∙ some-refusal reading-number (ran_file bytes).refusal (ran_file bytes).state messages rows z)) stops

    run-kept : Formed (ours.run messages rows bytes) × WasReached (ours.run messages rows bytes)
    run-kept =
        subst (λ (g : Given). Formed g × WasReached g) (sym run_is)
        (some-bench reading-number (ran_file bytes).refusal (ran_file bytes).state messages rows (file-reached bytes file-opens) z)

-- ---- the theorem

step-meets : OfStep ours.step
step-meets = record { first = step-first; refused = step-refused; kept = step_kept }

status-meets : OfStatus ours.status
status-meets =
    record {
      first = λ b messages rows. status-first b messages rows (tabled b messages rows);
      refused = λ b messages rows. status-refused b messages rows (tabled b messages rows);
    }

order-meets : OfOrder ours.order
unfolding list_reply list_left
order-meets =
    record {
      first = λ b messages rows out. order-first b messages rows out (tabled b messages rows) (eqb (length out) 1024);
      refused = λ b messages rows out. order-refused b messages rows out (tabled b messages rows) (eqb (length out) 1024);
    }

start-meets : OfStart ours.start
unfolding start_reply started_by
start-meets = record { first = λ n m messages rows. refl; refused = start-refused; kept = start-kept }

run-meets : OfRun ours.run
run-meets =
    record {
      unread = run-unread;
      read = λ messages rows bytes z. let kept = run-kept messages rows bytes z in (run-number messages rows bytes z, kept.0, kept.1);
    }

pub ours-meets-demand1 : Demand1 ours
ours-meets-demand1 = record { start = start-meets; step = step-meets; status = status-meets; order = order-meets; run = run-meets }
