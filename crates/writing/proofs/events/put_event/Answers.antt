use Rattle.std.proofs.Common.{sym, ap, ◌∙◌, length, arith, rules, w64}
use Rattle.std.proofs.lemmas.Int.{to_z-of_z}
use Rattle.text.specs.PagedLaws.{adds_next, adds_text}
use Rattle.format.specs.Kinds.{first_byte}
use Rattle.writing.specs.Bytes.{value_bytes}
use Rattle.writing.proofs.SizeLaws.{word_size, value_size}
use Rattle.writing.proofs.EventLaws.{rest_bytes, numbered, room_first, room_rest, added}
use Rattle.writing.proofs.events.put_event.Goals as goal

pub put_byte-requires : goal.put_byte-requires
put_byte-requires c = room_first c.args.event c.args.page.now c.requires

pub put_bytes-requires : goal.put_bytes-requires
put_bytes-requires c = omega (arith, room_rest c.args.event c.args.page.now c.from-2.result c.put_byte.new.self c.put_byte.ensures c.requires, ap length (ap rest_bytes c.in-Read.is))

pub returns-in-Read : goal.returns-in-Read
returns-in-Read c = added c.args.event c.args.page.now c.from-2.result c.put_byte.new.self c.put_byte.ensures c.put_bytes.new.self (c.from-2.ensures ∙ ap first_byte c.from.ensures) (adds_text (sym (ap rest_bytes c.in-Read.is)) (omega (arith, ap length (ap rest_bytes c.in-Read.is))) c.put_bytes.ensures)

pub put_byte-requires-in-Crash : goal.put_byte-requires-in-Crash
put_byte-requires-in-Crash c = omega (arith, room_rest c.args.event c.args.page.now c.from-2.result c.put_byte.new.self c.put_byte.ensures c.requires, ap length (ap rest_bytes c.in-Crash.is))

pub returns-in-Crash : goal.returns-in-Crash
returns-in-Crash c = added c.args.event c.args.page.now c.from-2.result c.put_byte.new.self c.put_byte.ensures c.put_byte-in-Crash.new.self (c.from-2.ensures ∙ ap first_byte c.from.ensures) (adds_text (sym (ap rest_bytes c.in-Crash.is)) (omega (arith, ap length (ap rest_bytes c.in-Crash.is))) c.put_byte-in-Crash.ensures)

pub put_word-requires : goal.put_word-requires
put_word-requires c = omega (arith, room_rest c.args.event c.args.page.now c.from-2.result c.put_byte.new.self c.put_byte.ensures c.requires, ap length (numbered c.args.event c.in-Deliver.k c.in-Deliver.is), word_size c.in-Deliver.k)

pub returns-in-Deliver : goal.returns-in-Deliver
returns-in-Deliver c =
    let rest = numbered c.args.event c.in-Deliver.k c.in-Deliver.is in
    added c.args.event c.args.page.now c.from-2.result c.put_byte.new.self c.put_byte.ensures c.put_word.new.page (c.from-2.ensures ∙ ap first_byte c.from.ensures) (adds_text (sym rest) (omega (arith, ap length rest, word_size c.in-Deliver.k)) c.put_word.ensures)

pub put_bytes-requires-in-Write : goal.put_bytes-requires-in-Write
put_bytes-requires-in-Write c = omega (arith, room_rest c.args.event c.args.page.now c.from-2.result c.put_byte.new.self c.put_byte.ensures c.requires, ap length (ap rest_bytes c.in-Write.is))

pub put_value-requires : goal.put_value-requires
put_value-requires c = omega (arith, room_rest c.args.event c.args.page.now c.from-2.result c.put_byte.new.self c.put_byte.ensures c.requires, ap length (ap rest_bytes c.in-Write.is), c.put_bytes-in-Write.ensures.wrote.ends, c.put_bytes-in-Write.ensures.long, value_size c.in-Write.v)

pub returns-in-Write : goal.returns-in-Write
returns-in-Write c =
    let rest = ap rest_bytes c.in-Write.is in
    let value = adds_text {k = 8} (ap value_bytes (to_z-of_z w64 c.in-Write.v (record { sfits = search rules }))) (omega arith) c.put_value.ensures in
    added c.args.event c.args.page.now c.from-2.result c.put_byte.new.self c.put_byte.ensures c.put_value.new.page (c.from-2.ensures ∙ ap first_byte c.from.ensures) (adds_text (sym rest) (omega (arith, ap length rest, value_size c.in-Write.v)) (adds_next c.put_bytes-in-Write.ensures value))
