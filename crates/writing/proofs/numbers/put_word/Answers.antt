use Rattle.std.proofs.Common.{◌∙◌, ap, length, arith}
use Rattle.text.specs.PagedLaws.{adds_text}
use Rattle.writing.proofs.BigEndianLaws.{word_is}
use Rattle.writing.proofs.numbers.put_word.Goals as goal

pub returns : goal.returns
returns c =
    let text = c.to_be_bytes.ensures ∙ word_is c.args.k c.ranges.k.fits in
    adds_text text (omega (arith, ap length c.to_be_bytes.ensures)) c.put_bytes.ensures
