-- What the checks of `start` give, and what an accepted start says of the two lengths; and what `start` replies and leaves, from what its checks gave.
use Rattle.std.proofs.Common.{eqb-true, ne_eqb, ◌∙◌, true≢false}
use Rattle.std.specs.Prelude.{◌≡◌, refl, ℕ, Result, Ok, Err, Bool, cond, not, ◌&&◌, List, length, replicate}
use Rattle.std.proofs.Math.Path.{sym, ap}
use Rattle.std.proofs.Math.Bool.{true, false}
use Rattle.std.proofs.Math.Dec.{eqb}
use Rattle.words.specs.declared.Message.{Message}
use Rattle.words.specs.declared.refusal.Refusal.{Refusal}
use Rattle.words.specs.Refusals.{number}
use Rattle.words.proofs.RefusalLaws.{number-some}
use Rattle.words.specs.Ranges.{within}
use Rattle.words.specs.RangeLaws.{and_left, and_right}
use Rattle.tables.specs.declared.Row.{Row}
use Rattle.tables.specs.Tables.{empty_message, empty_row}
use Rattle.state.specs.declared.Bench.{Bench}
use Rattle.state.specs.Stepped.{Stepped}
use Rattle.state.specs.State.{State, fresh}
use Rattle.state.specs.Step.{check}
use Rattle.state.specs.Tabled.{bench_of}
use Rattle.bench.specs.Start.{no_bench, replied, started, started_by, start_refusal, starts, start_reply}

-- ---- the first check that holds, from what the three tests say

abbrev first_of : Bool → Bool → Bool → ℕ
first_of tables n m = check (not tables) 18 (check (not n) 4 (check (not m) 5 0))

module _ (a b c : Bool) where
  pub first-18 : a ≡ false → 18 ≡ first_of a b c
  first-18 p = sym (ap (λ (x : Bool). first_of x b c) p)

  pub first-4 : a ≡ true → b ≡ false → 4 ≡ first_of a b c
  first-4 p q = sym (ap (λ (x : Bool). first_of x b c) p ∙ ap (λ (y : Bool). first_of true y c) q)

  pub first-5 : a ≡ true → b ≡ true → c ≡ false → 5 ≡ first_of a b c
  first-5 p q r = sym (ap (λ (x : Bool). first_of x b c) p ∙ ap (λ (y : Bool). first_of true y c) q ∙ ap (λ (z : Bool). first_of true true z) r)

  pub first-0 : a ≡ true → b ≡ true → c ≡ true → 0 ≡ first_of a b c
  first-0 p q r = sym (ap (λ (x : Bool). first_of x b c) p ∙ ap (λ (y : Bool). first_of true y c) q ∙ ap (λ (z : Bool). first_of true true z) r)

-- none holds only where the tables have their lengths
first-tables : (a b c : Bool) → eqb (first_of a b c) 0 ≡ true → a ≡ true
first-tables true b c e = refl
first-tables false b c e = absurd (true≢false (sym e))

-- ---- the reply, from the number that the checks gave

module _ (checked k : ℕ) (e : checked ≡ k) (s : State) where
  tested : (t : Bool) → eqb checked 0 ≡ t → cond (eqb k 0) (bench_of s) no_bench ≡ cond t (bench_of s) no_bench
  tested t p = ap (λ (u : Bool). cond u (bench_of s) no_bench) (ap (λ (j : ℕ). eqb j 0) (sym e) ∙ p)

  pub accepted-reply : eqb checked 0 ≡ true → (bench : Bench) → bench ≡ bench_of s → replied 0 bench ≡ started_by k s
  unfolding started_by
  accepted-reply p bench f = ap (λ (j : ℕ). replied j bench) (sym (eqb-true checked 0 p) ∙ e) ∙ ap (replied k) (f ∙ sym (tested true p))

  pub refused-reply : eqb checked 0 ≡ false → (bench : Bench) → bench ≡ bench_of (fresh 0 0) → replied checked bench ≡ started_by k s
  unfolding started_by
  refused-reply p bench f = ap (λ (j : ℕ). replied j bench) e ∙ ap (replied k) (f ∙ sym (tested false p))

-- ---- the tables: an accepted start has them of the two lengths

module _ (n m messages rows : ℕ) where
  lengths : starts n m messages rows ≡ true → (eqb messages 512 && eqb rows 1024) ≡ true
  unfolding starts
  lengths e = first-tables (eqb messages 512 && eqb rows 1024) (within n 7) (within m 16) e

  pub messages-length : starts n m messages rows ≡ true → messages ≡ 512
  messages-length e = eqb-true messages 512 (and_left (eqb messages 512) (eqb rows 1024) (lengths e))

  pub rows-length : starts n m messages rows ≡ true → rows ≡ 1024
  rows-length e = eqb-true rows 1024 (and_right (eqb messages 512) (eqb rows 1024) (lengths e))

same-cleared : {A : Type 0} (x : A) (t : Bool) (l most : ℕ) (ys : List A) → (t ≡ true → l ≡ most) → cond t (replicate l x) ys ≡ cond t (replicate most x) ys
same-cleared x true l most ys h = ap (λ (k : ℕ). replicate k x) (h refl)
same-cleared x false l most ys h = refl

module _ (n m : ℕ) (messages : List Message) (rows : List Row) (t : Bool) (e : t ≡ starts n m (length messages) (length rows)) where
  pub messages-cleared : (zs : List Message) → zs ≡ cond t (replicate (length messages) empty_message) messages → zs ≡ cond (starts n m (length messages) (length rows)) (replicate 512 empty_message) messages
  messages-cleared zs f =
      f ∙ same-cleared empty_message t (length messages) 512 messages (λ p. messages-length n m (length messages) (length rows) (sym e ∙ p))
      ∙ ap (λ (u : Bool). cond u (replicate 512 empty_message) messages) e

  pub rows-cleared : (zs : List Row) → zs ≡ cond t (replicate (length rows) empty_row) rows → zs ≡ cond (starts n m (length messages) (length rows)) (replicate 1024 empty_row) rows
  rows-cleared zs f =
      f ∙ same-cleared empty_row t (length rows) 1024 rows (λ p. rows-length n m (length messages) (length rows) (sym e ∙ p))
      ∙ ap (λ (u : Bool). cond u (replicate 1024 empty_row) rows) e

-- ---- what is replied, and what the tables then hold

cleared : {A : Type 0} (x : A) (t : Bool) (l most : ℕ) (ys zs : List A) → t ≡ true → (t ≡ true → l ≡ most) → zs ≡ replicate l x → zs ≡ cond t (replicate most x) ys
cleared x t l most ys zs e h f = f ∙ ap (λ (k : ℕ). replicate k x) (h e) ∙ sym (ap (λ (u : Bool). cond u (replicate most x) ys) e)

kept : {A : Type 0} (t : Bool) (xs ys : List A) → t ≡ false → ys ≡ cond t xs ys
kept t xs ys e = sym (ap (λ (u : Bool). cond u xs ys) e)

module _ (n m : ℕ) (messages : List Message) (rows : List Row) where
  abbrev refusal : ℕ
  refusal = start_refusal n m (length messages) (length rows)

  abbrev has_started : Bool
  has_started = starts n m (length messages) (length rows)

  -- what `start` promises
  pub record Started (r : Result Bench Refusal) (messages' : List Message) (rows' : List Row) : Type 0 where
    pub reply : started r ≡ start_reply n m (length messages) (length rows)
    pub messages-left : messages' ≡ cond has_started (replicate 512 empty_message) messages
    pub rows_left : rows' ≡ cond has_started (replicate 1024 empty_row) rows

  abbrev reply : ℕ → Stepped
  reply k = replied k (cond (eqb k 0) (bench_of (fresh n m)) no_bench)

  pub was-started : 0 ≡ refusal → (b : Bench) → b ≡ bench_of (fresh n m) → (messages' : List Message) → messages' ≡ replicate (length messages) empty_message
      → (rows' : List Row) → rows' ≡ replicate (length rows) empty_row → Started (Ok b) messages' rows'
  unfolding starts start_reply started_by
  was-started e b f messages' g rows' h =
      let t : has_started ≡ true = sym (ap (λ (k : ℕ). eqb k 0) e) in
      record {
        reply = ap (replied 0) f ∙ ap reply e;
        messages-left = cleared empty_message has_started (length messages) 512 messages messages' t (messages-length n m (length messages) (length rows)) g;
        rows_left = cleared empty_row has_started (length rows) 1024 rows rows' t (rows-length n m (length messages) (length rows)) h;
      }

  pub was-refused : (e : Refusal) → number e ≡ refusal → Started (Err e) messages rows
  unfolding starts start_reply started_by
  was-refused e f =
      let none : eqb (number e) 0 ≡ false = ne_eqb (number e) 0 (number-some e) in
      let t : has_started ≡ false = sym (ap (λ (k : ℕ). eqb k 0) f) ∙ none in
      record {
        reply = sym (ap (λ (u : Bool). replied (number e) (cond u (bench_of (fresh n m)) no_bench)) none) ∙ ap reply f;
        messages-left = kept has_started (replicate 512 empty_message) messages t;
        rows_left = kept has_started (replicate 1024 empty_row) rows t;
      }
