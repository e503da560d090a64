use Rattle.std.proofs.Common.{ap, sym, arith}
use Rattle.text.specs.PagedLaws.{adds_next, adds_text}
use Rattle.inflight.specs.Flight.{body_text}
use Rattle.inflight.proofs.lines.put_body.Goals as goal

pub returns-in-Response : goal.returns-in-Response
returns-in-Response c = adds_text (ap body_text (sym c.in-Response.is)) (omega arith) (adds_next c.put_str.ensures c.put_pair.ensures)

pub returns-in-Update : goal.returns-in-Update
returns-in-Update c =
    adds_text (ap body_text (sym c.in-Update.is)) (omega arith) (adds_next c.put_register-in-Update.ensures c.put_pair-in-Update.ensures)
