use Rattle.std.proofs.Common.{◌≡◌, ◌∙◌, ap, sym, length, arith, rules, Err}
use Rattle.writing.specs.Writing.{filed, filed_as, write_reply, write_left}
use Rattle.writing.proofs.WritingLaws.{head-size, replies, passes, refuses, leaves, leaves_all}
use Rattle.writing.proofs.write.Goals as goal

pub returns-in_err-may_write : goal.returns-in_err-may_write
returns-in_err-may_write c =
    let n = c.args.n in
    let m = c.args.m in
    let events = c.args.events.now in
    let out = c.args.out.now in
    let size = c.file_size-size.result in
    let r = refuses n m size (length out) c.in_err-may_write.field-0.0 c.in_err-may_write.ensures in
    let reply : filed_as (Err c.in_err-may_write.field-0.0) ≡ write_reply n m events (length out) = r.0 ∙ sym (replies n m events (length out) size c.file_size-size.ensures) in
    let left : out ≡ write_left n m events out = leaves_all n m events out size c.file_size-size.ensures r.1 in
    search rules

pub put_head-requires : goal.put_head-requires
put_head-requires c =
    let p = passes c.args.n c.args.m c.file_size-size.result (length c.args.out.now) c.in_ok-may_write.ensures in
    (omega (arith, p.fits, c.file_size-size.ensures), (omega (arith, c.file_size-size.ensures), p.short))

pub put_events-requires : goal.put_events-requires
put_events-requires c =
    let p = passes c.args.n c.args.m c.file_size-size.result (length c.args.out.now) c.in_ok-may_write.ensures in
    omega (arith, p.fits, c.file_size-size.ensures, c.put_head.ensures.wrote.ends, c.put_head.ensures.long, head-size c.file_size-size.result c.args.n c.args.m)

pub returns : goal.returns
returns c =
    let n = c.args.n in
    let m = c.args.m in
    let events = c.args.events.now in
    let out = c.args.out.now in
    let size = c.file_size-size.result in
    let p = passes n m size (length out) c.in_ok-may_write.ensures in
    let reply = ap (λ k. filed k size) c.in_ok-may_write.ensures ∙ sym (replies n m events (length out) size c.file_size-size.ensures) in
    let left : c.put_events.new.page.bytes.now ≡ write_left n m events out =
    leaves n m events out size c.file_size-size.ensures p c.put_head.new.page.bytes.now c.put_events.new.page.bytes.now c.put_head.new.page.used c.put_events.new.page.used c.put_head.ensures.wrote c.put_events.ensures.wrote in
    search rules
