-- What stops a turn, and what an event that is carried out leaves to be done; and that a run is its turns.
use Rattle.std.specs.Prelude.{ℕ, ◌≡◌, refl, Bool, true, false, cond, List, eqb}
use Rattle.std.proofs.Common.{sym, ap, subst, ◌∙◌, eq-eqb, ne_eqb}
use Rattle.words.specs.declared.refusal.Refusal.{Refusal}
use Rattle.words.specs.declared.Message.{Message}
use Rattle.words.specs.Refusals.{number}
use Rattle.words.proofs.RefusalLaws.{number-some}
use Rattle.tables.specs.declared.Row.{Row}
use Rattle.state.specs.declared.Bench.{Bench}
use Rattle.state.specs.declared.Event.{Event}
use Rattle.state.specs.Stepped.{Stepped}
use Rattle.state.specs.State.{State, view, laid_messages, laid_rows}
use Rattle.state.specs.Step.{Outcome, step}
use Rattle.state.specs.Tabled.{tabled, bench_of}
use Rattle.state.proofs.Refusals.{refused-changes-nothing}
use Rattle.format.specs.Parse.{Parse, Next, Refused, End}
use Rattle.format.specs.Format.{event_at}
use Rattle.advance.specs.Advanced.{Advanced}
use Rattle.advance.specs.Good.{messages-are, rows_are, bench-is}
use Rattle.advance.proofs.TabledLaws.{tabled-well, tabled-sized, holds-tabled, holds-view, stays-tabled}
use Rattle.schedule.specs.Run.{Ran, stopped, turned, ran}
use Rattle.schedule.specs.EventLaws.{Onward, onward}
use Rattle.schedule.specs.Turns.{RanOn, Goes, Stops}
use Rattle.schedule.proofs.RunLaws.{run-turn, run-well-formed, run-sized}

-- ---- one turn

module _ (b : Bench) (bytes : List ℕ) (at : ℕ) (messages : List Message) (rows : List Row) where
  abbrev s : State
  s = view b messages rows

  by_parse : (parse : Parse) → parse ≡ event_at bytes at → ran bytes at s ≡ turned s (λ j t. ran bytes j t) parse
  by_parse parse e = run-turn bytes at s ∙ ap (turned s (λ j t. ran bytes j t)) (sym e)

  pub stops-unread : (k : ℕ) → Refused k ≡ event_at bytes at → Stops b bytes at messages rows k messages rows
  stops-unread k e = record { run = by_parse (Refused k) e; messages-stay = refl; rows-stay = refl }

  pub stops-ended : End ≡ event_at bytes at → Stops b bytes at messages rows 0 messages rows
  stops-ended e = record { run = by_parse End e; messages-stay = refl; rows-stay = refl }

  module _ (h : tabled b messages rows ≡ true) (event : Event) (at' : ℕ) (f : Next event at' ≡ event_at bytes at) (messages' : List Message) (rows' : List Row) where
    abbrev after : Outcome
    after = step s event

    abbrev rest : Bool → Ran
    rest t = cond t (ran bytes at' after.state) (stopped after.refusal s)

    pub stops-refused : (e : Refusal) → Advanced b event messages rows (record { refusal = number e; bench = b }) messages' rows' → Stops b bytes at messages rows (number e) messages' rows'
    stops-refused e a =
        let same : after.state ≡ s = refused-changes-nothing s event (λ z. number-some e (a.refusal ∙ z)) in
        let none : eqb after.refusal 0 ≡ false = ne_eqb after.refusal 0 (λ z. number-some e (a.refusal ∙ z)) in
        record {
          run = by_parse (Next event at') f ∙ ap rest none ∙ ap (λ (k : ℕ). stopped k s) (sym a.refusal);
          messages-stay = a.messages-laid ∙ ap laid_messages same ∙ sym (messages-are b messages rows h);
          rows-stay = a.rows-laid ∙ ap laid_rows same ∙ sym (rows_are b messages rows h);
        }

    pub goes : (b' : Bench) → Advanced b event messages rows (record { refusal = 0; bench = b' }) messages' rows' → Goes b bytes at messages rows b' at' messages' rows'
    goes b' a =
        let on : Onward bytes at (Next event at') = subst (Onward bytes at) (sym f) (onward bytes at) in
        let now : view b' messages' rows' ≡ after.state = holds-view after.state b' messages' rows' (a.bench, a.messages-laid, a.rows-laid) in
        record {
          tables = stays-tabled b event messages rows (record { refusal = 0; bench = b' }) messages' rows' h a;
          rest = by_parse (Next event at') f ∙ ap rest (eq-eqb after.refusal 0 (sym a.refusal)) ∙ ap (ran bytes at') (sym now);
          further = on.0;
          within = on.1;
        }

-- ---- the loop: the bench is tabled, and what is still to be done is the whole run

pub record Going (bytes : List ℕ) (b : Bench) (at : ℕ) (messages : List Message) (rows : List Row) (all : Ran) : Type 0 where
  pub tables : tabled b messages rows ≡ true
  pub rest : ran bytes at (view b messages rows) ≡ all

module _ (bytes : List ℕ) (b : Bench) (at : ℕ) (messages : List Message) (rows : List Row) (all : Ran) (g : Going bytes b at messages rows all) where
  pub goes-on : (b' : Bench) (at' : ℕ) (messages' : List Message) (rows' : List Row) → Goes b bytes at messages rows b' at' messages' rows' → Going bytes b' at' messages' rows' all
  goes-on b' at' messages' rows' t = record { tables = t.tables; rest = sym t.rest ∙ g.rest }

  stopped_there : (k : ℕ) (messages' : List Message) (rows' : List Row) → Stops b bytes at messages rows k messages' rows' → stopped k (view b messages rows) ≡ all
  stopped_there k messages' rows' t = sym t.run ∙ g.rest

pub ends : (b : Bench) (bytes : List ℕ) (at : ℕ) (messages : List Message) (rows : List Row) (b' : Bench) (at' : ℕ) (messages' : List Message) (rows' : List Row)
    → Going bytes b' at' messages' rows' (ran bytes at (view b messages rows)) → (k : ℕ) (left_messages : List Message) (left_rows : List Row)
    → Stops b' bytes at' messages' rows' k left_messages left_rows → RanOn b bytes at messages rows (record { refusal = k; bench = b' }) left_messages left_rows
ends b bytes at messages rows b' at' messages' rows' g k left_messages left_rows t =
    record {
      refusal = ap (λ (x : Ran). x.refusal) is;
      bench = bench-is b' messages' rows' g.tables ∙ ap (λ (x : Ran). bench_of x.state) is;
      messages-laid = t.messages-stay ∙ messages-are b' messages' rows' g.tables ∙ ap (λ (x : Ran). laid_messages x.state) is;
      rows-laid = t.rows-stay ∙ rows_are b' messages' rows' g.tables ∙ ap (λ (x : Ran). laid_rows x.state) is;
    }
  where
    is : stopped k (view b' messages' rows') ≡ ran bytes at (view b messages rows)
    is = stopped_there bytes b' at' messages' rows' (ran bytes at (view b messages rows)) g k left_messages left_rows t

-- ---- what is tabled, stays so over a run

pub ran-tabled : (b : Bench) (bytes : List ℕ) (at : ℕ) (messages : List Message) (rows : List Row) (r : Stepped) (messages' : List Message) (rows' : List Row)
    → tabled b messages rows ≡ true → RanOn b bytes at messages rows r messages' rows' → tabled r.bench messages' rows' ≡ true
ran-tabled b bytes at messages rows r messages' rows' t e =
    holds-tabled (ran bytes at (view b messages rows)).state r.bench messages' rows' (e.bench, e.messages-laid, e.rows-laid)
    (run-well-formed bytes at (view b messages rows) (tabled-well b messages rows t)) (run-sized bytes at (view b messages rows) (tabled-sized b messages rows t))

-- and what it holds is the state that the run came to
pub ran-view : (b : Bench) (bytes : List ℕ) (at : ℕ) (messages : List Message) (rows : List Row) (r : Stepped) (messages' : List Message) (rows' : List Row)
    → RanOn b bytes at messages rows r messages' rows' → view r.bench messages' rows' ≡ (ran bytes at (view b messages rows)).state
ran-view b bytes at messages rows r messages' rows' e =
    holds-view (ran bytes at (view b messages rows)).state r.bench messages' rows' (e.bench, e.messages-laid, e.rows-laid)
