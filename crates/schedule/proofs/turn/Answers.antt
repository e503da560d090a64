-- The end stops the run, and so does a refusal; behind an event that is carried out it goes on.
use Rattle.std.proofs.lemmas.Result.{err_from_is_err_and}
use Rattle.schedule.proofs.TurnLaws.{stops-unread, stops-ended, stops-refused, goes}
use Rattle.schedule.proofs.turn.Goals as goal

pub returns-in_err-event : goal.returns-in_err-event
returns-in_err-event c =
    let a = c.args in
    let p = err_from_is_err_and c.from_residual.result c.from_residual.ensures.1 in
    rw (p.1, p.2) (stops-unread a.bench a.bytes.now a.at a.messages.now a.rows.now _ c.in_err-event.ensures)

pub returns-in_default : goal.returns-in_default
returns-in_default c =
    let a = c.args in
    stops-ended a.bench a.bytes.now a.at a.messages.now a.rows.now (rw c.in_default.is at c.in_ok-event.ensures)

pub returns-in_err-next : goal.returns-in_err-next
returns-in_err-next c =
    let a = c.args in
    let p = err_from_is_err_and c.from_residual-in_err-next.result c.from_residual-in_err-next.ensures.1 in
    rw (p.1, p.2)
    (stops-refused a.bench a.bytes.now a.at a.messages.now a.rows.now c.requires c.in-Some.event c.in-Some.behind (rw c.in-Some.is at c.in_ok-event.ensures)
    c.advance.new.messages c.advance.new.rows _ c.in_err-next.ensures)

pub returns : goal.returns
returns c =
    let a = c.args in
    goes a.bench a.bytes.now a.at a.messages.now a.rows.now c.requires c.in-Some.event c.in-Some.behind (rw c.in-Some.is at c.in_ok-event.ensures)
    c.advance.new.messages c.advance.new.rows c.in_ok-next.next c.in_ok-next.ensures
