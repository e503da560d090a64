-- A word, and what is behind it.
use Rattle.std.proofs.Common.{◌≡◌, [], ◌∷◌, ◌∙◌, sym, ap, rules, length, not, Some}
use Rattle.std.specs.List.{position}
use Rattle.std.specs.Option.{unwrap_or}
use Rattle.std.proofs.lemmas.List.Quantifiers.{position-Some}
use Rattle.script.specs.Lines.{is_blank, words}
use Rattle.script.proofs.LineLaws.{no_words, next-word, next-behind}
use Rattle.script.proofs.marks.WordsIterator.next.Goals as goal

-- the words before, and those that are left
stepped : (c : goal.After-rest-2-1) → words c.args.self.now.rest.now ≡ c.split_at-2.result.0.now ∷ words c.split_at-2.result.1.now
stepped c =
    let line = c.args.self.now.rest.now in
    let found : position (λ b. not (is_blank b)) line ≡ Some c.in_ok-start.start = sym c.word_of.ensures ∙ c.in_ok-start.was in
    let rest = c.split_at.ensures.back in
    rw (c.split_at-2.ensures.front, c.split_at-2.ensures.back, rest)
    (next-word line c.in_ok-start.start c.unwrap_or-end.result found (position-Some (λ b. not (is_blank b)) line c.in_ok-start.start 0 found).0
    (c.unwrap_or-end.ensures ∙ ap (λ o. unwrap_or o (length c.split_at.result.1.now)) c.blank_of.ensures ∙ ap (λ l. unwrap_or (position is_blank l) (length l)) rest))

pub returns-in_err-start-clause-steps : goal.returns-in_err-start-clause-steps
returns-in_err-start-clause-steps c =
    let e : words c.args.self.now.rest.now ≡ [] = no_words c.args.self.now.rest.now (sym c.word_of.ensures ∙ c.in_err-start.was) in
    search rules

pub returns-clause-steps : goal.returns-clause-steps
returns-clause-steps c =
    let line = c.args.self.now.rest.now in
    let found : position (λ b. not (is_blank b)) line ≡ Some c.in_ok-start.start = sym c.word_of.ensures ∙ c.in_ok-start.was in
    let rest = c.split_at.ensures.back in (
      stepped c,
      rw (c.split_at-2.ensures.back, rest)
          (next-behind line c.in_ok-start.start c.unwrap_or-end.result found
          (c.unwrap_or-end.ensures ∙ ap (λ o. unwrap_or o (length c.split_at.result.1.now)) c.blank_of.ensures ∙ ap (λ l. unwrap_or (position is_blank l) (length l)) rest)),
    )

pub returns-clause-goes : goal.returns-clause-goes
returns-clause-goes c =
    let e = stepped c in
    search rules
