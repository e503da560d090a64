-- On a tabled bench a plan can be carried out, and gives what `step` says; a refusal leaves all as it was, as `step` does.
use Rattle.std.specs.Prelude.{ℕ, ◌≤◌, ◌≡◌, true, List, length, take, Result, Ok, Err}
use Rattle.std.proofs.Common.{arith, sym, ap, subst, ◌∙◌}
use Rattle.words.specs.declared.Message.{Message}
use Rattle.tables.specs.declared.Row.{Row}
use Rattle.state.specs.declared.Bench.{Bench}
use Rattle.state.specs.declared.Event.{Event}
use Rattle.state.specs.State.{State, view, laid_messages, laid_rows}
use Rattle.state.specs.Step.{step}
use Rattle.state.specs.Tabled.{tabled, bench_of}
use Rattle.decide.specs.declared.Plan.{Plan}
use Rattle.decide.specs.Plan.{plan_of}
use Rattle.advance.specs.Advanced.{Advanced}
use Rattle.advance.specs.Good.{held, messages-are, rows_are, bench-is, lengths, flight-count}
use Rattle.advance.specs.Steps.{Carried, Done}
use Rattle.advance.specs.StepLaws.{event-done}
use Rattle.advance.specs.Parts.{Bounded, Takes, Posts, carried_bench, carried_messages, carried_rows, left_of, posted_at, taken_off}

module _ (b : Bench) (event : Event) (messages : List Message) (rows : List Row) (t : tabled b messages rows ≡ true) where
  abbrev now : State
  now = view b messages rows

  pub bounded : Bounded b
  bounded =
      subst Bounded (sym (bench-is b messages rows t))
      (let g = held b messages rows t in record { accepted = g.accepted; sent = g.sent; delivered = g.delivered; lost = g.lost; flight = g.flight; rows = g.rows })

  pub flight-within : b.flight ≤ length messages
  flight-within = omega (arith, bounded.flight, (lengths b messages rows t).0)

  pub rows-within : b.rows ≤ length rows
  rows-within = omega (arith, bounded.rows, (lengths b messages rows t).1)

  planned : (plan : Result Plan ℕ) → plan ≡ plan_of now event → Done plan event now (step now event)
  planned plan e = subst (λ (q : Result Plan ℕ). Done q event now (step now event)) (sym e) (event-done now (held b messages rows t) event)

  module _ (plan : Plan) (e : Ok plan ≡ plan_of now event) where
    carried : Carried plan event now (step now event).state
    carried = (planned (Ok plan) e).1

    pub takes : Takes plan.taken b.flight
    takes = subst (Takes plan.taken) (flight-count b messages rows t) carried.takes

    pub posts : (left places : ℕ) → left ≡ left_of plan.taken b.flight → places ≡ length messages → Posts left plan.posted places
    posts left places e₁ e₂ =
        subst (λ (n : ℕ). Posts n plan.posted places) (ap (left_of plan.taken) (flight-count b messages rows t) ∙ sym e₁)
        (subst (Posts (left_of plan.taken (length (take b.flight messages))) plan.posted) (sym (e₂ ∙ (lengths b messages rows t).0)) carried.posts)

    pub advances : Advanced b event messages rows (record { refusal = 0; bench = carried_bench plan event b }) (carried_messages plan b.flight messages) (carried_rows plan.row rows)
    advances =
        record {
          refusal = sym (planned (Ok plan) e).0;
          bench = ap (carried_bench plan event) (bench-is b messages rows t) ∙ carried.bench;
          messages-laid =
              ap (λ (n : ℕ). carried_messages plan n messages) (sym (flight-count b messages rows t))
              ∙ ap (carried_messages plan (length (take b.flight messages))) (messages-are b messages rows t) ∙ carried.messages;
          rows-laid = ap (carried_rows plan.row) (rows_are b messages rows t) ∙ carried.rows;
        }

    -- a part after the other
    pub done : (left : ℕ) (cut laid : List Message) (written : List Row) (next : Bench) → left ≡ left_of plan.taken b.flight → cut ≡ taken_off plan.taken b.flight messages
        → laid ≡ posted_at left plan.posted cut → written ≡ carried_rows plan.row rows → next ≡ carried_bench plan event b → Advanced b event messages rows (record { refusal = 0; bench = next }) laid written
    done left cut laid written next e₁ e₂ e₃ e₄ e₅ =
        subst (λ (x : Bench). Advanced b event messages rows (record { refusal = 0; bench = x }) laid written) (sym e₅)
        (subst (λ (x : List Row). Advanced b event messages rows (record { refusal = 0; bench = carried_bench plan event b }) laid x) (sym e₄)
        (subst (λ (x : List Message). Advanced b event messages rows (record { refusal = 0; bench = carried_bench plan event b }) x (carried_rows plan.row rows)) (sym same) advances))
      where
        same : laid ≡ carried_messages plan b.flight messages
        same = e₃ ∙ ap (λ (n : ℕ). posted_at n plan.posted cut) e₁ ∙ ap (posted_at (left_of plan.taken b.flight) plan.posted) e₂

  pub refused : (number : ℕ) → Err number ≡ plan_of now event → Advanced b event messages rows (record { refusal = number; bench = b }) messages rows
  refused number e =
      let d = planned (Err number) e in
      record {
        refusal = sym d.0;
        bench = bench-is b messages rows t ∙ ap bench_of (sym d.1);
        messages-laid = messages-are b messages rows t ∙ ap laid_messages (sym d.1);
        rows-laid = rows_are b messages rows t ∙ ap laid_rows (sym d.1);
      }
