-- A well-formed state that the tables have room for is tabled in its bench and its two tables, which hold it; so what is tabled stays so, event by event.
use Rattle.std.specs.Prelude.{ℕ, zero, suc, ◌-◌, ◌≤◌, ◌≡◌, refl, Bool, true, false, ◌&&◌, List, ◌++◌, eqb, length, drop, replicate}
use Rattle.std.proofs.Common.{sym, ap, subst, ◌∙◌, arith, length-append, eq-eqb, le-leb, eqb-true}
use Rattle.std.proofs.Math.Dec.{leb}
use Rattle.std.proofs.lemmas.List.{length-replicate}
use Rattle.std.proofs.Math.Seq.{take-append_seam, drop-append_seam}
use Rattle.std.proofs.lemmas.Bool.{eqb-false}
use Rattle.words.specs.declared.Message.{Message}
use Rattle.words.specs.RangeLaws.{and_right}
use Rattle.tables.specs.declared.Row.{Row}
use Rattle.tables.specs.Tables.{empty_message, empty_row}
use Rattle.state.specs.declared.Bench.{Bench}
use Rattle.state.specs.declared.Event.{Event}
use Rattle.state.specs.Stepped.{Stepped}
use Rattle.state.specs.State.{State, view, laid_messages, laid_rows}
use Rattle.state.specs.Step.{step}
use Rattle.state.specs.Tabled.{tabled, lengths_fit, is_empty_message, is_empty_row, bench_of}
use Rattle.state.specs.WellFormed.{every, well_formed}
use Rattle.state.proofs.EveryLaws.{both}
use Rattle.state.proofs.Keeps.{keeps}
use Rattle.state.proofs.Refusals.{refused-changes-nothing}
use Rattle.state.proofs.Sized.{Sized, keeps-sized}
use Rattle.advance.specs.Advanced.{Advanced}
use Rattle.advance.specs.Good.{held}

laid-length : {A : Type 0} (most : ℕ) (d : A) (xs : List A) → length xs ≤ most → length (xs ++ replicate (most - length xs) d) ≡ most
laid-length most d xs l = omega (arith, length-append xs (replicate (most - length xs) d), length-replicate (most - length xs) d)

every-replicate : {A : Type 0} (p : A → Bool) (d : A) → p d ≡ true → (k : ℕ) → every p (replicate k d) ≡ true
every-replicate p d e zero = refl
every-replicate p d e (suc k) = both e (every-replicate p d e k)

behind : {A : Type 0} (p : A → Bool) (d : A) → p d ≡ true → (xs : List A) (k : ℕ) → every p (drop (length xs) (xs ++ replicate k d)) ≡ true
behind p d e xs k = rw (drop-append_seam xs (replicate k d)) (every-replicate p d e k)

-- the tables hold the state
pub view-laid : (s : State) → view (bench_of s) (laid_messages s) (laid_rows s) ≡ s
view-laid s = rw (take-append_seam s.flight (replicate (512 - length s.flight) empty_message), take-append_seam s.rows (replicate (1024 - length s.rows) empty_row)) refl

pub laid-tabled : (s : State) → well_formed s ≡ true → Sized s → tabled (bench_of s) (laid_messages s) (laid_rows s) ≡ true
unfolding tabled
laid-tabled s w z =
    both
    (both
    (both
    (both
    (both
    (both (eq-eqb (length (laid_messages s)) 512 (laid-length 512 empty_message s.flight z.flight))
    (eq-eqb (length (laid_rows s)) 1024 (laid-length 1024 empty_row s.rows z.rows)))
    (le-leb (length s.flight) 512 z.flight))
    (le-leb (length s.rows) 1024 z.rows))
    (behind is_empty_message empty_message refl s.flight (512 - length s.flight)))
    (behind is_empty_row empty_row refl s.rows (1024 - length s.rows)))
    (ap well_formed (view-laid s) ∙ w)

-- ---- what is tabled

module _ (b : Bench) (messages : List Message) (rows : List Row) (t : tabled b messages rows ≡ true) where
  pub tabled-well : well_formed (view b messages rows) ≡ true
  unfolding tabled
  tabled-well =
      and_right
      (lengths_fit messages rows && leb b.flight 512 && leb b.rows 1024 && every is_empty_message (drop b.flight messages) && every is_empty_row (drop b.rows rows))
      (well_formed (view b messages rows)) t

  pub tabled-sized : Sized (view b messages rows)
  tabled-sized = record { flight = (held b messages rows t).flight; rows = (held b messages rows t).rows }

-- ---- an event, accepted or refused

pub step-well : (s : State) (e : Event) → well_formed s ≡ true → well_formed (step s e).state ≡ true
step-well s e w = go (eqb (step s e).refusal 0) refl
  where
    go : (b : Bool) → eqb (step s e).refusal 0 ≡ b → well_formed (step s e).state ≡ true
    go true is = keeps s e w (eqb-true (step s e).refusal 0 is)
    go false is = ap well_formed (refused-changes-nothing s e (eqb-false (step s e).refusal 0 is)) ∙ w

pub step-sized : (s : State) (e : Event) → Sized s → Sized (step s e).state
step-sized s e z = go (eqb (step s e).refusal 0) refl
  where
    go : (b : Bool) → eqb (step s e).refusal 0 ≡ b → Sized (step s e).state
    go true is = keeps-sized s e z (eqb-true (step s e).refusal 0 is)
    go false is = subst Sized (sym (refused-changes-nothing s e (eqb-false (step s e).refusal 0 is))) z

-- what a bench and its tables are, if they are a state's
abbrev pub Holds : State → Bench → List Message → List Row → Type 0
Holds s b messages rows = (b ≡ bench_of s) × (messages ≡ laid_messages s) × (rows ≡ laid_rows s)

pub holds-tabled : (s : State) (b : Bench) (messages : List Message) (rows : List Row) → Holds s b messages rows → well_formed s ≡ true → Sized s → tabled b messages rows ≡ true
holds-tabled s b messages rows h w z = rw (h.0, h.1, h.2) (laid-tabled s w z)

pub holds-view : (s : State) (b : Bench) (messages : List Message) (rows : List Row) → Holds s b messages rows → view b messages rows ≡ s
holds-view s b messages rows h = rw (h.0, h.1, h.2) (view-laid s)

pub stays-tabled : (b : Bench) (event : Event) (messages : List Message) (rows : List Row) (r : Stepped) (messages' : List Message) (rows' : List Row)
    → tabled b messages rows ≡ true → Advanced b event messages rows r messages' rows' → tabled r.bench messages' rows' ≡ true
stays-tabled b event messages rows r messages' rows' t a =
    holds-tabled (step (view b messages rows) event).state r.bench messages' rows' (a.bench, a.messages-laid, a.rows-laid)
    (step-well (view b messages rows) event (tabled-well b messages rows t)) (step-sized (view b messages rows) event (tabled-sized b messages rows t))

-- and holds the state that follows
pub view-follows : (b : Bench) (event : Event) (messages : List Message) (rows : List Row) (r : Stepped) (messages' : List Message) (rows' : List Row)
    → Advanced b event messages rows r messages' rows' → view r.bench messages' rows' ≡ (step (view b messages rows) event).state
view-follows b event messages rows r messages' rows' a =
    holds-view (step (view b messages rows) event).state r.bench messages' rows' (a.bench, a.messages-laid, a.rows-laid)
