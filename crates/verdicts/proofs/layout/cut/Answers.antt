use Rattle.std.proofs.Common.{sym, ◌∙◌, arith, refl}
use Rattle.verdicts.proofs.CutLaws.{cut-is}
use Rattle.verdicts.proofs.PassLaws.{sized-short, sized-cut, sized-whole}
use Rattle.verdicts.proofs.layout.cut.Goals as goal

pub returns-then-size-lt-SHORTEST : goal.returns-then-size-lt-SHORTEST
returns-then-size-lt-SHORTEST c = sym (sized-short c.args.bytes.now c.if-size-lt-SHORTEST.true)

pub returns-then-size-at : goal.returns-then-size-at
returns-then-size-at c = sym (sized-cut c.args.bytes.now c.half_at-count.result c.half_at-count.ensures c.if-size-at.true)

pub returns-then-not-whole : goal.returns-then-not-whole
returns-then-not-whole c =
    sym
    (sized-whole c.args.bytes.now c.word_at.result c.half_at-count.result c.half_at-numbers.result
    c.word_at.ensures c.half_at-count.ensures c.half_at-numbers.ensures c.if-size-lt-SHORTEST.false c.if-size-at.false) ∙ c.if-not-whole.true

pub returns : goal.returns
returns c =
    let whole =
    sym
    (sized-whole c.args.bytes.now c.word_at.result c.half_at-count.result c.half_at-numbers.result
    c.word_at.ensures c.half_at-count.ensures c.half_at-numbers.ensures c.if-size-lt-SHORTEST.false c.if-size-at.false) ∙ c.if-not-whole.false in
    cut-is c.args.bytes.now c.as_chunks.result.0.now c.as_chunks-2.result.0.now c.half_at-count.result _ _ c.half_at-count.ensures whole (omega arith) refl
    c.as_chunks.ensures.front c.as_chunks-2.ensures.front
