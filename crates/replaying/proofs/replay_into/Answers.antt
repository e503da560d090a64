-- A file that starts a bench is reported; one that does not prints its number.
use Rattle.std.proofs.Common.{length, length-take, replicate, arith}
use Rattle.std.proofs.lemmas.List.{length-replicate}
use Rattle.schedule.specs.Turns.{stepped_by}
use Rattle.replaying.proofs.ReplayedLaws.{begun, order-asks, report-asks, text-written, text-refused}
use Rattle.replaying.proofs.replay_into.Goals as goal

pub fill_order-count-requires : goal.fill_order-count-requires
fill_order-count-requires c =
    let bytes = c.args.bytes.now in
    let rows = c.run_history.new.rows in
    let ran = stepped_by c.in-Ok.ran in
    let g = c.in-Ok.ensures in
    let s = begun bytes (replicate 1024 c.default-rows.result) (length-replicate 1024 c.default-rows.result) ran g.reply.0 rows g.reply.1 g.opens in
    order-asks bytes ran rows s (length c.args.listing.now) c.requires.1

pub put_report-requires : goal.put_report-requires
put_report-requires c =
    let bytes = c.args.bytes.now in
    let rows = c.run_history.new.rows in
    let ran = stepped_by c.in-Ok.ran in
    let g = c.in-Ok.ensures in
    let s = begun bytes (replicate 1024 c.default-rows.result) (length-replicate 1024 c.default-rows.result) ran g.reply.0 rows g.reply.1 g.opens in
    report-asks bytes ran rows s (length c.args.out.now) c.requires.0 _ (omega (arith, length-take c.fill_order-count.result c.fill_order-count.new.out, c.fill_order-count.auto.out, c.requires.1))

pub returns-in-Ok : goal.returns-in-Ok
returns-in-Ok c =
    let bytes = c.args.bytes.now in
    let rows = c.run_history.new.rows in
    let ran = stepped_by c.in-Ok.ran in
    let g = c.in-Ok.ensures in
    let s = begun bytes (replicate 1024 c.default-rows.result) (length-replicate 1024 c.default-rows.result) ran g.reply.0 rows g.reply.1 g.opens in
    text-written bytes ran rows s c.fill_order-count.result c.fill_order-count.new.out c.fill_order-count.ensures.0 c.fill_order-count.ensures.1
    c.args.out.now c.put_report.new.out c.put_report.result c.put_report.ensures

pub returns-in-Err : goal.returns-in-Err
returns-in-Err c =
    let g = c.in-Err.ensures in
    text-refused c.args.bytes.now (replicate 1024 c.default-rows.result) (length-replicate 1024 c.default-rows.result) _ g.reply.0 c.run_history.new.rows g.reply.1 g.opens
    c.args.out.now c.refusal_text.new.out c.refusal_text.result c.refusal_text.ensures
