use Rattle.std.proofs.Common.{sym, ap, ◌∙◌, length, ℤ, w64, arith, rules}
use Rattle.std.proofs.lemmas.Int.{to_z-of_z}
use Rattle.text.specs.PagedLaws.{adds_text}
use Rattle.state.specs.declared.Event.{Event}
use Rattle.state.specs.declared.Event.TheVariants.{Write}
use Rattle.writing.specs.Bytes.{event_bytes}
use Rattle.writing.proofs.SizeLaws.{read-size, write-size, deliver-size, crash-size, lose-size}
use Rattle.showing.specs.Shown.{event_line}
use Rattle.showing.proofs.lines.put_event_line.Goals as goal

pub put_two-requires : goal.put_two-requires
put_two-requires c = omega (arith, ap (λ (e : Event). length (event_bytes e)) c.in-Read.is ∙ read-size c.in-Read.p c.in-Read.x)

pub put_write-requires : goal.put_write-requires
put_write-requires c = omega (arith, ap (λ (e : Event). length (event_bytes e)) c.in-Write.is ∙ write-size c.in-Write.p c.in-Write.x c.in-Write.v)

pub put_one-requires : goal.put_one-requires
put_one-requires c = omega (arith, ap (λ (e : Event). length (event_bytes e)) c.in-Deliver.is ∙ deliver-size c.in-Deliver.k)

pub put_one-requires-in-Crash : goal.put_one-requires-in-Crash
put_one-requires-in-Crash c = omega (arith, ap (λ (e : Event). length (event_bytes e)) c.in-Crash.is ∙ crash-size c.in-Crash.p)

pub put_one-requires-in-Lose : goal.put_one-requires-in-Lose
put_one-requires-in-Lose c = omega (arith, ap (λ (e : Event). length (event_bytes e)) c.in-Lose.is ∙ lose-size c.in-Lose.k)

pub returns-in-Read : goal.returns-in-Read
unfolding event_line
returns-in-Read c =
    adds_text (sym (ap event_line c.in-Read.is)) (omega (arith, ap (λ (e : Event). length (event_bytes e)) c.in-Read.is ∙ read-size c.in-Read.p c.in-Read.x)) c.put_two.ensures

pub returns-in-Write : goal.returns-in-Write
unfolding event_line
returns-in-Write c =
    adds_text (ap (λ (v : ℤ). event_line (Write c.in-Write.p c.in-Write.x v)) (to_z-of_z w64 c.in-Write.v (record { sfits = search rules })) ∙ sym (ap event_line c.in-Write.is))
    (omega (arith, ap (λ (e : Event). length (event_bytes e)) c.in-Write.is ∙ write-size c.in-Write.p c.in-Write.x c.in-Write.v)) c.put_write.ensures

pub returns-in-Deliver : goal.returns-in-Deliver
unfolding event_line
returns-in-Deliver c =
    adds_text (sym (ap event_line c.in-Deliver.is)) (omega (arith, ap (λ (e : Event). length (event_bytes e)) c.in-Deliver.is ∙ deliver-size c.in-Deliver.k)) c.put_one.ensures

pub returns-in-Crash : goal.returns-in-Crash
unfolding event_line
returns-in-Crash c =
    adds_text (sym (ap event_line c.in-Crash.is)) (omega (arith, ap (λ (e : Event). length (event_bytes e)) c.in-Crash.is ∙ crash-size c.in-Crash.p)) c.put_one-in-Crash.ensures

pub returns-in-Lose : goal.returns-in-Lose
unfolding event_line
returns-in-Lose c =
    adds_text (sym (ap event_line c.in-Lose.is)) (omega (arith, ap (λ (e : Event). length (event_bytes e)) c.in-Lose.is ∙ lose-size c.in-Lose.k)) c.put_one-in-Lose.ensures
