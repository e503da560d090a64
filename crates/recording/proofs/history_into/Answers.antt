-- The run of a schedule that starts a bench leaves the table of which the file is made; of any other the run says the number that refuses it.
use Rattle.std.proofs.Common.{sym, length, refl, replicate, arith, length-take, length-take-le}
use Rattle.std.proofs.lemmas.List.{length-replicate}
use Rattle.schedule.specs.Turns.{stepped_by}
use Rattle.replaying.proofs.ReplayedLaws.{begun, unbegun, number-given, order-asks, rows_few}
use Rattle.recording.proofs.RecordingLaws.{used-rows_fit, file-written, file-refused}
use Rattle.recording.proofs.history_into.Goals as goal

pub fill_order-count-requires : goal.fill_order-count-requires
fill_order-count-requires c =
    let bytes = c.args.bytes.now in
    let rows = c.run_history.new.rows in
    let ran = stepped_by c.in-Ok.ran in
    let g = c.in-Ok.ensures in
    let s = begun bytes (replicate 1024 c.default-rows.result) (length-replicate 1024 c.default-rows.result) ran g.reply.0 rows g.reply.1 g.opens in
    order-asks bytes ran rows s (length c.args.listing.now) c.requires.1

pub slice_bounds-rows-end : goal.slice_bounds-rows-end
slice_bounds-rows-end c =
    let bytes = c.args.bytes.now in
    let rows = c.run_history.new.rows in
    let ran = stepped_by c.in-Ok.ran in
    let g = c.in-Ok.ensures in
    let s = begun bytes (replicate 1024 c.default-rows.result) (length-replicate 1024 c.default-rows.result) ran g.reply.0 rows g.reply.1 g.opens in
    used-rows_fit bytes ran rows s

pub slice_bounds-put_history-end : goal.slice_bounds-put_history-end
slice_bounds-put_history-end c =
    let bytes = c.args.bytes.now in
    let rows = c.run_history.new.rows in
    let ran = stepped_by c.in-Ok.ran in
    let g = c.in-Ok.ensures in
    let s = begun bytes (replicate 1024 c.default-rows.result) (length-replicate 1024 c.default-rows.result) ran g.reply.0 rows g.reply.1 g.opens in
    sym (length-take-le ran.bench.rows rows (used-rows_fit bytes ran rows s))

pub put_history-requires : goal.put_history-requires
put_history-requires c =
    let bytes = c.args.bytes.now in
    let rows = c.run_history.new.rows in
    let ran = stepped_by c.in-Ok.ran in
    let g = c.in-Ok.ensures in
    let s = begun bytes (replicate 1024 c.default-rows.result) (length-replicate 1024 c.default-rows.result) ran g.reply.0 rows g.reply.1 g.opens in
    let filled = c.fill_order-count in
    (c.requires.0, (omega (arith, length-take ran.bench.rows rows, rows_few bytes ran rows s), omega (arith, length-take filled.result filled.new.out)))

pub returns-in-Ok : goal.returns-in-Ok
returns-in-Ok c =
    let bytes = c.args.bytes.now in
    let rows = c.run_history.new.rows in
    let ran = stepped_by c.in-Ok.ran in
    let g = c.in-Ok.ensures in
    let s = begun bytes (replicate 1024 c.default-rows.result) (length-replicate 1024 c.default-rows.result) ran g.reply.0 rows g.reply.1 g.opens in
    let filled = c.fill_order-count in
    file-written bytes ran rows s ran.bench.rows refl filled.result filled.new.out filled.ensures.0 filled.ensures.1 c.args.out.now c.put_history.new.out c.put_history.result c.put_history.ensures

pub returns-in-Err : goal.returns-in-Err
returns-in-Err c =
    let bytes = c.args.bytes.now in
    let made = replicate 1024 c.default-rows.result in
    let long = length-replicate 1024 c.default-rows.result in
    let rows = c.run_history.new.rows in
    let g = c.in-Err.ensures in
    let none = unbegun bytes made long _ g.reply.0 rows g.reply.1 g.opens in
    file-refused bytes _ (number-given bytes made long _ g.reply.0 rows g.reply.1 none) none c.args.out.now c.refusal_text.new.out c.refusal_text.result c.refusal_text.ensures
