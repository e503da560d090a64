-- What demand 1 comes to, of any functions that meet it: 18 is given exactly when the state is not well formed or a lent table has another length than stated; and every refusal is a
-- number of document 01's list, of which 18 is the last.
use Rattle.std.specs.Prelude.{ℕ, ◌≤◌, ◌≡◌, refl, Bool, true, false, not, ◌&&◌, ◌↔◌, List, [], ◌∷◌, eqb, length}
use Rattle.std.proofs.Common.{sym, subst, ◌∙◌, true≢false, arith, eqb-true}
use Rattle.std.proofs.lemmas.Bool.{eqb-false}
use Rattle.words.specs.declared.Message.{Message}
use Rattle.words.specs.Ranges.{within}
use Rattle.tables.specs.declared.Row.{Row}
use Rattle.state.specs.declared.Bench.{Bench}
use Rattle.state.specs.declared.Event.{Event}
use Rattle.state.specs.State.{view}
use Rattle.state.specs.Tabled.{tabled, lengths_fit}
use Rattle.promised.specs.Checks.{Check, first_of, event_checks, file_checks, reading_checks}
use Rattle.promised.specs.Demand1.{Functions, Demand1}
use Rattle.promised.proofs.ChecksLaws.{first-most, event-numbers}

-- 18 exactly when not ok, and never more
pub record Eighteen (number : ℕ) (ok : Bool) : Type 0 where
  pub exactly : (number ≡ 18) ↔ (ok ≡ false)
  pub most : number ≤ 18

-- where 18 stands first, and none of the others is 18
eighteen-first : (ok : Bool) (later : List Check) → first_of later ≤ 17 → (number : ℕ) → number ≡ first_of ((18, not ok) ∷ later) → Eighteen number ok
eighteen-first ok later below number e = subst (λ (k : ℕ). Eighteen k ok) (sym e) (go ok)
  where
    go : (t : Bool) → Eighteen (first_of ((18, not t) ∷ later)) t
    go true = record { exactly = (λ z. absurd (omega (arith, z, below)), λ q. absurd (true≢false q)); most = omega (arith, below) }
    go false = record { exactly = (λ z. refl, λ q. refl); most = omega arith }

none : first_of [] ≤ 17
none = omega arith

module _ (fs : Functions) (d : Demand1 fs) where
  pub step-eighteen : (b : Bench) (e : Event) (messages : List Message) (rows : List Row) → Eighteen (fs.step b e messages rows).refusal (tabled b messages rows)
  step-eighteen b e messages rows =
      eighteen-first (tabled b messages rows) (event_checks (view b messages rows) e) (event-numbers (view b messages rows) e) (fs.step b e messages rows).refusal
      (d.step.first b e messages rows)

  pub status-eighteen : (b : Bench) (messages : List Message) (rows : List Row) → Eighteen (fs.status b messages rows).refusal (tabled b messages rows)
  status-eighteen b messages rows = eighteen-first (tabled b messages rows) [] none (fs.status b messages rows).refusal (d.status.first b messages rows)

  pub order-eighteen : (b : Bench) (messages : List Message) (rows : List Row) (out : List ℕ)
      → Eighteen (fs.order b messages rows out).refusal (tabled b messages rows && eqb (length out) 1024)
  order-eighteen b messages rows out =
      eighteen-first (tabled b messages rows && eqb (length out) 1024) [] none (fs.order b messages rows out).refusal
      (d.order.first b messages rows out ∙ one (tabled b messages rows) (eqb (length out) 1024))
    where
      -- two checks of one number
      one : (t long : Bool) → first_of ((18, not t) ∷ (18, not long) ∷ []) ≡ first_of ((18, not (t && long)) ∷ [])
      one true long = refl
      one false long = refl

  module _ (n m : ℕ) (messages : List Message) (rows : List Row) where
    abbrev sizes : List Check
    sizes = (4, not (within n 7)) ∷ (5, not (within m 16)) ∷ []

    pub start-eighteen : Eighteen (fs.start n m messages rows).refusal (lengths_fit messages rows)
    start-eighteen =
        eighteen-first (lengths_fit messages rows) sizes (first-most 17 sizes refl) (fs.start n m messages rows).refusal (d.start.first n m messages rows)

  module _ (messages : List Message) (rows : List Row) (bytes : List ℕ) where
    abbrev number : ℕ
    number = first_of (reading_checks messages rows bytes)

    reading : Eighteen number (lengths_fit messages rows)
    reading = eighteen-first (lengths_fit messages rows) (file_checks bytes) (first-most 17 (file_checks bytes) refl) number refl

    -- a file that is read is not refused by 18, whatever its events
    pub run-eighteen : Eighteen (fs.run messages rows bytes).refusal (lengths_fit messages rows)
    run-eighteen = go (eqb number 0) refl
      where
        go : (t : Bool) → eqb number 0 ≡ t → Eighteen (fs.run messages rows bytes).refusal (lengths_fit messages rows)
        go true is =
            let z = eqb-true number 0 is in
            let k = (d.run.read messages rows bytes z).0 in
            record { exactly = (λ f. absurd (omega (arith, f, k)), λ q. absurd (omega (arith, z, reading.exactly.1 q))); most = omega (arith, k) }
        go false is = subst (λ (k : ℕ). Eighteen k (lengths_fit messages rows)) (sym (d.run.unread messages rows bytes (eqb-false number 0 is)).0) reading
