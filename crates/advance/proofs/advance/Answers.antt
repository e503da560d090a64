-- That a plan can be carried out on a tabled bench, and gives what `step` says, is the law `Advances`.
use Rattle.std.specs.Prelude.{length}
use Rattle.std.proofs.Common.{sym}
use Rattle.std.proofs.lemmas.Result.{err_from_is_err_and}
use Rattle.words.specs.Refusals.{number}
use Rattle.advance.specs.Good.{flight-count, rows-count, held}
use Rattle.advance.proofs.Advances.{bounded, flight-within, rows-within, refused, takes, posts, done}
use Rattle.advance.proofs.advance.Goals as goal

pub slice_bounds-view-end : goal.slice_bounds-view-end
slice_bounds-view-end c = let a = c.args in flight-within a.bench a.event a.messages.now a.rows.now c.requires

pub slice_bounds-view-end-2 : goal.slice_bounds-view-end-2
slice_bounds-view-end-2 c = let a = c.args in sym (flight-count a.bench a.messages.now a.rows.now c.requires)

pub slice_bounds-view-end-3 : goal.slice_bounds-view-end-3
slice_bounds-view-end-3 c = let a = c.args in rows-within a.bench a.event a.messages.now a.rows.now c.requires

pub slice_bounds-view-end-4 : goal.slice_bounds-view-end-4
slice_bounds-view-end-4 c = let a = c.args in sym (rows-count a.bench a.messages.now a.rows.now c.requires)

pub invariant_of-view : goal.invariant_of-view
invariant_of-view c = let a = c.args in let h = held a.bench a.messages.now a.rows.now c.requires in record { messages_numbered = h.sent; rows_numbered = h.rows }

pub returns-in_err-plan : goal.returns-in_err-plan
returns-in_err-plan c =
    let a = c.args in
    let p = err_from_is_err_and c.from_residual.result c.from_residual.ensures.1 in
    rw (p.1, p.2) (refused a.bench a.event a.messages.now a.rows.now c.requires (number c.in_err-plan.field-0.0) c.in_err-plan.ensures)

pub take-left-requires : goal.take-left-requires
take-left-requires c =
    let a = c.args in
    (takes a.bench a.event a.messages.now a.rows.now c.requires c.in_ok-plan.plan c.in_ok-plan.ensures, flight-within a.bench a.event a.messages.now a.rows.now c.requires)

pub post-requires : goal.post-requires
post-requires c =
    let a = c.args in
    posts a.bench a.event a.messages.now a.rows.now c.requires c.in_ok-plan.plan c.in_ok-plan.ensures c.take-left.result (length c.take-left.new.messages) c.take-left.ensures.0 c.take-left.auto.messages

pub moved-requires : goal.moved-requires
moved-requires c = let a = c.args in (bounded a.bench a.event a.messages.now a.rows.now c.requires, c.take-left.ensures.0)

pub returns : goal.returns
returns c =
    let a = c.args in
    done a.bench a.event a.messages.now a.rows.now c.requires c.in_ok-plan.plan c.in_ok-plan.ensures c.take-left.result c.take-left.new.messages c.post.new.messages c.write.new.rows c.moved.result
    c.take-left.ensures.0 c.take-left.ensures.1 c.post.ensures c.write.ensures c.moved.ensures
