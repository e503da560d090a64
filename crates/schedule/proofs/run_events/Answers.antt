-- A turn, and what stops the run, are the laws of `Going`.
use Rattle.std.proofs.Common.{refl, arith}
use Rattle.state.specs.State.{view}
use Rattle.schedule.specs.Run.{ran}
use Rattle.schedule.proofs.TurnLaws.{goes-on, ends}
use Rattle.schedule.proofs.run_events.Goals as goal

pub loop-next-init : goal.loop-next-init
loop-next-init c = record { tables = c.requires; rest = refl }

pub turn-requires : goal.turn-requires
turn-requires c = c.loop-next.invariant.tables

pub loop-next-smaller : goal.loop-next-smaller
loop-next-smaller c = let t = rw c.in-Ok-Some.field-0-is at c.in-Ok-Some.ensures in omega (arith, t.further, t.within)

pub loop-next-preserved : goal.loop-next-preserved
loop-next-preserved c =
    let a = c.args in
    let l = c.loop-next in
    goes-on a.bytes.now l.bench l.at l.messages l.rows (ran a.bytes.now a.at (view a.bench a.messages.now a.rows.now)) l.invariant c.in-Ok-Some.next c.in-Ok-Some.behind c.turn.new.messages c.turn.new.rows
    (rw c.in-Ok-Some.field-0-is at c.in-Ok-Some.ensures)

pub returns-in-Ok-None : goal.returns-in-Ok-None
returns-in-Ok-None c =
    let a = c.args in
    let l = c.loop-next in
    ends a.bench a.bytes.now a.at a.messages.now a.rows.now l.bench l.at l.messages l.rows l.invariant 0 c.turn.new.messages c.turn.new.rows (rw c.in-Ok-None.field-0-is at c.in-Ok-None.ensures)

pub returns-in-Err : goal.returns-in-Err
returns-in-Err c =
    let a = c.args in
    let l = c.loop-next in
    ends a.bench a.bytes.now a.at a.messages.now a.rows.now l.bench l.at l.messages l.rows l.invariant _ c.turn.new.messages c.turn.new.rows c.in-Err.ensures
