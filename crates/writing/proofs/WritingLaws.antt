-- What the writer replies and leaves, from the size of the file alone: a file that no number refuses has room, and its head and its events, written one after the other,
-- are the whole file.
use Rattle.std.specs.Prelude.{ℕ, ◌+◌, ◌-◌, ◌≤◌, ◌≡◌, refl, Bool, true, false, not, eqb, ltb, Err}
use Rattle.std.proofs.Math.Path.{sym, ap}
use Rattle.std.proofs.Common.{◌∙◌, true≢false, arith, length-append, ltb-false, ne_eqb}
use Rattle.std.proofs.Math.Bool.{cond}
use mathlib.Core.List.{List, [], ◌∷◌, ◌++◌, append_assoc}
use Rattle.std.proofs.Math.ListN.{length}
use Rattle.words.specs.declared.refusal.Refusal.{Refusal}
use Rattle.words.specs.Ranges.{within}
use Rattle.words.specs.Refusals.{number}
use Rattle.words.proofs.RefusalLaws.{number-some}
use Rattle.tables.specs.Tables.{laid_at}
use Rattle.text.specs.Written.{Wrote}
use Rattle.text.specs.WrittenLaws.{and_next}
use Rattle.text.specs.LaidLaws.{laid-length}
use Rattle.state.specs.declared.Event.{Event}
use Rattle.writing.specs.Bytes.{word_bytes, events_bytes, behind_length, file_bytes}
use Rattle.writing.specs.Writing.{write_refusal, filed, filed_as, write_reply, write_left}
use Rattle.writing.proofs.SizeLaws.{word_size, file-size}

pub replies : (n m : ℕ) (events : List Event) (room size : ℕ) → size ≡ 7 + length (events_bytes events) → write_reply n m events room ≡ filed (write_refusal n m size room) size
unfolding write_reply
replies n m events room size e = ap (λ (k : ℕ). filed (write_refusal n m k room) k) (file-size n m events ∙ sym e)

-- what a file that is written has
pub record Passed (n m size room : ℕ) : Type 0 where
  pub none : eqb (write_refusal n m size room) 0 ≡ true
  pub processes : within n 7 ≡ true
  pub registers : within m 16 ≡ true
  pub short : size ≤ 65536
  pub fits : size ≤ room

none : (a b c d : Bool) → eqb (cond (not a) 4 (cond (not b) 5 (cond c 1 (cond d 19 0)))) 0 ≡ true → (a ≡ true) × ((b ≡ true) × ((c ≡ false) × (d ≡ false)))
none false b c d e = absurd (true≢false (sym e))
none true false c d e = absurd (true≢false (sym e))
none true true true d e = absurd (true≢false (sym e))
none true true false true e = absurd (true≢false (sym e))
none true true false false e = (refl, (refl, (refl, refl)))

pub passed : (n m size room : ℕ) → eqb (write_refusal n m size room) 0 ≡ true → Passed n m size room
unfolding write_refusal
passed n m size room e =
    let held = none (within n 7) (within m 16) (ltb 65536 size) (ltb room size) e in
    record {
      none = e;
      processes = held.0;
      registers = held.1.0;
      short = ltb-false 65536 size held.1.1.0;
      fits = ltb-false room size held.1.1.1;
    }

pub passes : (n m size room : ℕ) → 0 ≡ write_refusal n m size room → Passed n m size room
passes n m size room e = passed n m size room (ap (λ k. eqb k 0) (sym e))

some-number : (refusal : Refusal) → eqb (number refusal) 0 ≡ false
some-number refusal = ne_eqb (number refusal) 0 (number-some refusal)

pub refuses : (n m size room : ℕ) (refusal : Refusal) → number refusal ≡ write_refusal n m size room
    → (filed_as (Err refusal) ≡ filed (write_refusal n m size room) size) × (eqb (write_refusal n m size room) 0 ≡ false)
refuses n m size room refusal e = (
  ap (λ (t : Bool). record { refusal = number refusal; size = cond t size 0 }) (sym (some-number refusal)) ∙ ap (λ k. filed k size) e,
  sym (ap (λ k. eqb k 0) e) ∙ some-number refusal,
)

pub head-size : (size n m : ℕ) → length (word_bytes (size - 4) ++ (1 ∷ (n ∷ (m ∷ [])))) ≡ 7
head-size size n m = omega (arith, length-append (word_bytes (size - 4)) (1 ∷ (n ∷ (m ∷ []))), word_size (size - 4))

module _ (n m : ℕ) (events : List Event) (out : List ℕ) (size : ℕ) (sized : size ≡ 7 + length (events_bytes events)) where
  head-is : (word_bytes (size - 4) ++ (1 ∷ (n ∷ (m ∷ [])))) ++ events_bytes events ≡ file_bytes n m events
  unfolding file_bytes
  head-is = append_assoc (word_bytes (size - 4)) (1 ∷ (n ∷ (m ∷ []))) (events_bytes events) ∙ ap (λ (k : ℕ). word_bytes k ++ behind_length n m events) behind
    where
      behind : size - 4 ≡ length (behind_length n m events)
      behind = omega (arith, sized)

  by-test : (t : Bool) → eqb (write_refusal n m size (length out)) 0 ≡ t → write_left n m events out ≡ cond t (laid_at 0 (file_bytes n m events) out) out
  unfolding write_left
  by-test t e =
      ap (λ (k : ℕ). cond (eqb (write_refusal n m k (length out)) 0) (laid_at 0 (file_bytes n m events) out) out) (file-size n m events ∙ sym sized)
      ∙ ap (λ (u : Bool). cond u (laid_at 0 (file_bytes n m events) out) out) e

  pub leaves : Passed n m size (length out) → (us vs : List ℕ) (a e : ℕ) → Wrote 0 (word_bytes (size - 4) ++ (1 ∷ (n ∷ (m ∷ [])))) 7 out us a
      → Wrote a (events_bytes events) (length (events_bytes events)) us vs e → vs ≡ write_left n m events out
  leaves p us vs a e w v = (and_next w v).lays ∙ ap (λ (file : List ℕ). laid_at 0 file out) head-is ∙ sym (by-test true p.none)

  pub leaves_all : eqb (write_refusal n m size (length out)) 0 ≡ false → out ≡ write_left n m events out
  leaves_all e = sym (by-test false e)

-- the output stays as long as it was
pub left-length : (n m : ℕ) (events : List Event) (out : List ℕ) → length (write_left n m events out) ≡ length out
left-length n m events out = go (eqb (write_refusal n m size (length out)) 0) refl
  where
    size : ℕ
    size = 7 + length (events_bytes events)

    go : (t : Bool) → eqb (write_refusal n m size (length out)) 0 ≡ t → length (write_left n m events out) ≡ length out
    go true e =
        let room : 0 + length (file_bytes n m events) ≤ length out = omega (arith, file-size n m events, (passed n m size (length out) e).fits) in
        ap length (by-test n m events out size refl true e) ∙ laid-length 0 (file_bytes n m events) out room
    go false e = ap length (by-test n m events out size refl false e)
