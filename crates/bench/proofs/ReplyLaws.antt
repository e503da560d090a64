-- What `advance` does, and what a refusal leaves, is what `step` replies.
use Rattle.std.specs.Prelude.{◌≡◌, refl, ℕ, Bool, cond, List}
use Rattle.std.proofs.Common.{sym, ap, ◌∙◌}
use Rattle.std.proofs.Math.Bool.{true, false}
use Rattle.words.specs.declared.Message.{Message}
use Rattle.tables.specs.declared.Row.{Row}
use Rattle.state.specs.declared.Bench.{Bench}
use Rattle.state.specs.declared.Event.{Event}
use Rattle.state.specs.Stepped.{Stepped}
use Rattle.state.specs.State.{view, laid_messages, laid_rows}
use Rattle.state.specs.Step.{Outcome, step}
use Rattle.state.specs.Tabled.{tabled, bench_of}
use Rattle.advance.specs.Advanced.{Advanced}
use Rattle.bench.specs.Start.{replied}
use Rattle.bench.specs.Reply.{unformed, step_reply, step_messages, step_rows}

-- what was replied, and what the tables hold, is what `step` says
pub record StepReplied (b : Bench) (event : Event) (messages : List Message) (rows : List Row) (r : Stepped) (messages' : List Message) (rows' : List Row) : Type 0 where
  pub reply : r ≡ step_reply b event messages rows
  pub messages-left : messages' ≡ step_messages b event messages rows
  pub rows_left : rows' ≡ step_rows b event messages rows

-- a reply, from its two parts
pub same : (r : Stepped) (refusal : ℕ) (bench : Bench) → r.refusal ≡ refusal → r.bench ≡ bench → r ≡ replied refusal bench
same r refusal bench e f = ap (λ (k : ℕ). replied k r.bench) e ∙ ap (replied refusal) f

-- what a test picks, by what the test came to
pub pick : {A : Type 0} (t u : Bool) (x y z : A) → t ≡ u → z ≡ cond u x y → z ≡ cond t x y
pick t u x y z e f = f ∙ ap (λ (v : Bool). cond v x y) (sym e)

module _ (b : Bench) (event : Event) (messages : List Message) (rows : List Row) where
  abbrev next : Outcome
  next = step (view b messages rows) event

  pub advanced-replied : tabled b messages rows ≡ true → (r : Stepped) (messages' : List Message) (rows' : List Row) → Advanced b event messages rows r messages' rows' → StepReplied b event messages rows r messages' rows'
  unfolding step_reply step_messages step_rows
  advanced-replied e r messages' rows' a =
      record {
        reply = same r _ _ (pick _ true next.refusal 18 _ e a.refusal) (pick _ true (bench_of next.state) b _ e a.bench);
        messages-left = pick _ true (laid_messages next.state) _ _ e a.messages-laid;
        rows_left = pick _ true (laid_rows next.state) _ _ e a.rows-laid;
      }

  pub refused-replied : tabled b messages rows ≡ false → (r : Stepped) → r ≡ unformed b → StepReplied b event messages rows r messages rows
  unfolding step_reply step_messages step_rows
  refused-replied e r f =
      record {
        reply = same r _ _ (pick _ false next.refusal 18 _ e (ap (λ (s : Stepped). s.refusal) f)) (pick _ false (bench_of next.state) b _ e (ap (λ (s : Stepped). s.bench) f));
        messages-left = pick _ false (laid_messages next.state) messages _ e refl;
        rows_left = pick _ false (laid_rows next.state) rows _ e refl;
      }
