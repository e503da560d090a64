use Rattle.std.proofs.Common.{◌≡◌, true, false, leb, ap, sym, ◌∙◌}
use Rattle.words.specs.Quorum.{majority_of, counted, joined}
use Rattle.replica.specs.Handlers.{response_counted}
use Rattle.std.proofs.lemmas.Bool.{cond-true, cond-false}
use Rattle.replica.proofs.Replica.response_counted.Goals as goal

pub returns-then-is_majority : goal.returns-then-is_majority
unfolding response_counted
returns-then-is_majority c =
    let a = c.args in
    let m : leb (majority_of a.n) (counted (joined a.self.repliers a.sender.from.0)) ≡ true = ap (λ s. leb (majority_of a.n) (counted s)) (sym c.with-repliers.ensures) ∙ sym c.is_majority.ensures ∙ c.if-is_majority.true in
    rw (c.broadcast.ensures, c.with-repliers.ensures, c.after_receiving-self.ensures) (sym (cond-true _ _ _ m))

pub returns-else-is_majority : goal.returns-else-is_majority
unfolding response_counted
returns-else-is_majority c =
    let a = c.args in
    let m : leb (majority_of a.n) (counted (joined a.self.repliers a.sender.from.0)) ≡ false = ap (λ s. leb (majority_of a.n) (counted s)) (sym c.with-repliers.ensures) ∙ sym c.is_majority.ensures ∙ c.if-is_majority.false in
    rw (c.sending.ensures, c.with-repliers.ensures, c.after_receiving-self.ensures) (sym (cond-false _ _ _ m))
