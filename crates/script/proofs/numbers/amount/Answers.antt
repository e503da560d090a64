-- With a sign, or without.
use Rattle.std.proofs.Common.{◌≡◌, ℕ, ◌-◌, List, [], ◌∷◌, ◌∙◌, rules, Some, Ok, Err, pos, negsuc}
use Rattle.std.proofs.lemmas.Bool.Decides.{Decides-eqb}
use Rattle.std.proofs.lemmas.Slice.Eq.{strip_prefix_is}
use Rattle.script.specs.Numbers.{amount_of}
use Rattle.script.proofs.NumberLaws.{positive-by, negative-by, zero-below, some-below, amount-minus, amount-plus}
use Rattle.script.proofs.numbers.amount.Goals as goal

pub returns-in_err-figure : goal.returns-in_err-figure
returns-in_err-figure c =
    let plain : (rest : List ℕ) → c.args.word.now ≡ 45 ∷ rest → ⊥ = rw c.in_default.is at (strip_prefix_is Decides-eqb c.args.word.now (45 ∷ []) c.strip_prefix.result c.strip_prefix.ensures.cases) in
    let is : Err c.in_err-figure.field-0.0 ≡ amount_of c.args.word.now = positive-by c.args.word.now (Err c.in_err-figure.field-0.0) c.in_err-figure.ensures.value ∙ amount-plus c.args.word.now plain in
    search rules

pub returns-in_default : goal.returns-in_default
returns-in_default c =
    let plain : (rest : List ℕ) → c.args.word.now ≡ 45 ∷ rest → ⊥ = rw c.in_default.is at (strip_prefix_is Decides-eqb c.args.word.now (45 ∷ []) c.strip_prefix.result c.strip_prefix.ensures.cases) in
    let is : Ok (pos c.in_ok-figure.field-0) ≡ amount_of c.args.word.now = positive-by c.args.word.now (Ok c.in_ok-figure.field-0) c.in_ok-figure.ensures.value ∙ amount-plus c.args.word.now plain in
    search rules

pub returns-in_err-n : goal.returns-in_err-n
returns-in_err-n c =
    let front : c.args.word.now ≡ 45 ∷ c.in-Some.digits.now = strip_prefix_is Decides-eqb c.args.word.now (45 ∷ []) (Some c.in-Some.digits) c.in-Some.ensures.cases in
    let is : Err c.in_err-n.field-0.0 ≡ amount_of c.args.word.now = negative-by c.in-Some.digits.now (Err c.in_err-n.field-0.0) c.in_err-n.ensures.value ∙ amount-minus c.args.word.now c.in-Some.digits.now front in
    search rules

pub returns-then-n-eq0 : goal.returns-then-n-eq0
returns-then-n-eq0 c =
    let front : c.args.word.now ≡ 45 ∷ c.in-Some.digits.now = strip_prefix_is Decides-eqb c.args.word.now (45 ∷ []) (Some c.in-Some.digits) c.in-Some.ensures.cases in
    zero-below c.in_ok-n.n c.if-n-eq0.true ∙ negative-by c.in-Some.digits.now (Ok c.in_ok-n.n) c.in_ok-n.ensures.value ∙ amount-minus c.args.word.now c.in-Some.digits.now front

pub returns : goal.returns
returns c =
    let front : c.args.word.now ≡ 45 ∷ c.in-Some.digits.now = strip_prefix_is Decides-eqb c.args.word.now (45 ∷ []) (Some c.in-Some.digits) c.in-Some.ensures.cases in
    let is : Ok (negsuc (c.in_ok-n.n - 1)) ≡ amount_of c.args.word.now =
    some-below c.in_ok-n.n c.if-n-eq0.false ∙ negative-by c.in-Some.digits.now (Ok c.in_ok-n.n) c.in_ok-n.ensures.value ∙ amount-minus c.args.word.now c.in-Some.digits.now front in
    search rules
