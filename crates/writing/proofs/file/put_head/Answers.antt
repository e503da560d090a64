use Rattle.text.specs.PagedLaws.{adds_next}
use Rattle.writing.proofs.file.put_head.Goals as goal

pub returns : goal.returns
returns c = adds_next c.put_word.ensures c.put_bytes.ensures
