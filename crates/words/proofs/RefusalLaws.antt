-- Each refusal has a number of its own, and none has 0: a contract that names the number names the refusal.
use Rattle.std.specs.Prelude.{ℕ, ◌-◌, ◌≡◌, refl, List, [], ◌∷◌, get_or, Result, Ok, Err}
use Rattle.std.proofs.Common.{sym, ap, ◌∙◌}
use Rattle.std.proofs.Math.Nat.{suc-ne-zero}
use Rattle.words.specs.declared.refusal.Refusal.{Refusal}
use Rattle.words.specs.declared.refusal.Refusal.TheVariants.{WrongSize, WrongLength, WrongVersion, NoProcesses, NoRegisters, Unknown, Cut, NoProcess, NoRegister, Crashed, Pending, NoMessage, RecipientCrashed, BothUp, NoRoom, NoRow, Full, NotFormed, ShortOutput}
use Rattle.words.specs.Refusals.{number, refusal_number}

-- in the order of their numbers
in_order : List Refusal
in_order =
    WrongSize ∷ WrongLength ∷ WrongVersion ∷ NoProcesses ∷ NoRegisters ∷ Unknown ∷ Cut ∷ NoProcess ∷ NoRegister ∷ Crashed ∷ Pending ∷ NoMessage ∷ RecipientCrashed ∷ BothUp ∷ NoRoom ∷ NoRow ∷ Full ∷ NotFormed ∷ ShortOutput ∷
    []

back : ℕ → Refusal
back n = get_or in_order (n - 1) WrongSize

-- a number leads back to its refusal
back-number : (e : Refusal) → back (number e) ≡ e
unfolding in_order back
back-number WrongSize = refl
back-number WrongLength = refl
back-number WrongVersion = refl
back-number NoProcesses = refl
back-number NoRegisters = refl
back-number Unknown = refl
back-number Cut = refl
back-number NoProcess = refl
back-number NoRegister = refl
back-number Crashed = refl
back-number Pending = refl
back-number NoMessage = refl
back-number RecipientCrashed = refl
back-number BothUp = refl
back-number NoRoom = refl
back-number NoRow = refl
back-number Full = refl
back-number NotFormed = refl
back-number ShortOutput = refl

pub number-once : (d e : Refusal) → number d ≡ number e → d ≡ e
number-once d e same = sym (back-number d) ∙ ap back same ∙ back-number e

pub number-some : (e : Refusal) → number e ≡ 0 → ⊥
number-some WrongSize e = suc-ne-zero _ e
number-some WrongLength e = suc-ne-zero _ e
number-some WrongVersion e = suc-ne-zero _ e
number-some NoProcesses e = suc-ne-zero _ e
number-some NoRegisters e = suc-ne-zero _ e
number-some Unknown e = suc-ne-zero _ e
number-some Cut e = suc-ne-zero _ e
number-some NoProcess e = suc-ne-zero _ e
number-some NoRegister e = suc-ne-zero _ e
number-some Crashed e = suc-ne-zero _ e
number-some Pending e = suc-ne-zero _ e
number-some NoMessage e = suc-ne-zero _ e
number-some RecipientCrashed e = suc-ne-zero _ e
number-some BothUp e = suc-ne-zero _ e
number-some NoRoom e = suc-ne-zero _ e
number-some NoRow e = suc-ne-zero _ e
number-some Full e = suc-ne-zero _ e
number-some NotFormed e = suc-ne-zero _ e
number-some ShortOutput e = suc-ne-zero _ e

-- nor do two results of a check have one
pub check-once : (x y : Result (Unit {0}) Refusal) → refusal_number x ≡ refusal_number y → x ≡ y
check-once (Ok a) (Ok b) same = refl
check-once (Ok a) (Err e) same = absurd (number-some e (sym same))
check-once (Err d) (Ok a) same = absurd (number-some d same)
check-once (Err d) (Err e) same = ap Err (number-once d e same)
