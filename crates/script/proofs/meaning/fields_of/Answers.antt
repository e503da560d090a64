-- What is taken, and what follows it.
use Rattle.std.proofs.Common.{◌≡◌, ◌∙◌, ap, rules, Err, w64, SFits}
use Rattle.std.proofs.lemmas.Int.{to_z-of_z}
use Rattle.state.specs.declared.Event.TheVariants.{Read, Write, Deliver, Crash, Lose}
use Rattle.script.specs.declared.Head.{Head}
use Rattle.script.specs.declared.Line.TheVariants.{Bench, Does}
use Rattle.script.specs.Lines.{words}
use Rattle.script.specs.Meaning.{value_then, end_then, fields_of}
use Rattle.script.proofs.meaning.fields_of.Goals as goal

pub returns-in_err-n-in-Bench : goal.returns-in_err-n-in-Bench
unfolding fields_of
returns-in_err-n-in-Bench c =
    let wrong : fields_of c.args.head (words c.args.fields.now.rest.now) ≡ Err c.in_err-n-in-Bench.field-0.0 =
    ap (λ (h : Head). fields_of h (words c.args.fields.now.rest.now)) c.in-Bench.is ∙ c.in_err-n-in-Bench.ensures (λ q rest. end_then rest (Bench q.0 q.1)) in
    search rules

pub returns-in_ok-n-in-Bench : goal.returns-in_ok-n-in-Bench
unfolding fields_of
returns-in_ok-n-in-Bench c =
    ap (λ (h : Head). fields_of h (words c.args.fields.now.rest.now)) c.in-Bench.is ∙ c.in_ok-n-in-Bench.ensures (λ q rest. end_then rest (Bench q.0 q.1))

pub returns-in_err-p-in-Read : goal.returns-in_err-p-in-Read
unfolding fields_of
returns-in_err-p-in-Read c =
    let wrong : fields_of c.args.head (words c.args.fields.now.rest.now) ≡ Err c.in_err-p-in-Read.field-0.0 =
    ap (λ (h : Head). fields_of h (words c.args.fields.now.rest.now)) c.in-Read.is ∙ c.in_err-p-in-Read.ensures (λ q rest. end_then rest (Does (Read (record { 0 = q.0 }) q.1))) in
    search rules

pub returns-in_ok-p-in-Read : goal.returns-in_ok-p-in-Read
unfolding fields_of
returns-in_ok-p-in-Read c =
    ap (λ (h : Head). fields_of h (words c.args.fields.now.rest.now)) c.in-Read.is ∙ c.in_ok-p-in-Read.ensures (λ q rest. end_then rest (Does (Read (record { 0 = q.0 }) q.1)))

pub returns-in_err-p-in-Write : goal.returns-in_err-p-in-Write
unfolding fields_of
returns-in_err-p-in-Write c =
    let wrong : fields_of c.args.head (words c.args.fields.now.rest.now) ≡ Err c.in_err-p-in-Write.field-0.0 =
    ap (λ (h : Head). fields_of h (words c.args.fields.now.rest.now)) c.in-Write.is ∙ c.in_err-p-in-Write.ensures (λ q rest. value_then rest (λ v last. end_then last (Does (Write (record { 0 = q.0 }) q.1 v)))) in
    search rules

pub returns-in_err-v-in-Write : goal.returns-in_err-v-in-Write
unfolding fields_of
returns-in_err-v-in-Write c =
    let wrong : fields_of c.args.head (words c.args.fields.now.rest.now) ≡ Err c.in_err-v-in-Write.field-0.0 =
    ap (λ (h : Head). fields_of h (words c.args.fields.now.rest.now)) c.in-Write.is ∙ c.in_ok-p-in-Write.ensures (λ q rest. value_then rest (λ v last. end_then last (Does (Write (record { 0 = q.0 }) q.1 v))))
    ∙ c.in_err-v-in-Write.ensures (λ v last. end_then last (Does (Write (record { 0 = c.in_ok-p-in-Write.p }) c.in_ok-p-in-Write.x v))) in
    search rules

pub returns-in_ok-v-in-Write : goal.returns-in_ok-v-in-Write
unfolding fields_of
returns-in_ok-v-in-Write c =
    let held = rw c.in_ok-v-in-Write.was at c.value.type_inv in
    let fits : SFits w64 c.in_ok-v-in-Write.v = search rules in
    rw (to_z-of_z w64 c.in_ok-v-in-Write.v fits)
    (ap (λ (h : Head). fields_of h (words c.args.fields.now.rest.now)) c.in-Write.is ∙ c.in_ok-p-in-Write.ensures (λ q rest. value_then rest (λ v last. end_then last (Does (Write (record { 0 = q.0 }) q.1 v))))
    ∙ c.in_ok-v-in-Write.ensures (λ v last. end_then last (Does (Write (record { 0 = c.in_ok-p-in-Write.p }) c.in_ok-p-in-Write.x v))))

pub returns-in_err-word-in-Deliver : goal.returns-in_err-word-in-Deliver
unfolding fields_of
returns-in_err-word-in-Deliver c =
    let wrong : fields_of c.args.head (words c.args.fields.now.rest.now) ≡ Err c.in_err-word-in-Deliver.field-0.0 =
    ap (λ (h : Head). fields_of h (words c.args.fields.now.rest.now)) c.in-Deliver.is ∙ c.in_err-word-in-Deliver.ensures (λ k rest. end_then rest (Does (Deliver k))) in
    search rules

pub returns-in_ok-word-in-Deliver : goal.returns-in_ok-word-in-Deliver
unfolding fields_of
returns-in_ok-word-in-Deliver c =
    ap (λ (h : Head). fields_of h (words c.args.fields.now.rest.now)) c.in-Deliver.is ∙ c.in_ok-word-in-Deliver.ensures (λ k rest. end_then rest (Does (Deliver k)))

pub returns-in_err-byte-in-Crash : goal.returns-in_err-byte-in-Crash
unfolding fields_of
returns-in_err-byte-in-Crash c =
    let wrong : fields_of c.args.head (words c.args.fields.now.rest.now) ≡ Err c.in_err-byte-in-Crash.field-0.0 =
    ap (λ (h : Head). fields_of h (words c.args.fields.now.rest.now)) c.in-Crash.is ∙ c.in_err-byte-in-Crash.ensures (λ p rest. end_then rest (Does (Crash (record { 0 = p })))) in
    search rules

pub returns-in_ok-byte-in-Crash : goal.returns-in_ok-byte-in-Crash
unfolding fields_of
returns-in_ok-byte-in-Crash c =
    ap (λ (h : Head). fields_of h (words c.args.fields.now.rest.now)) c.in-Crash.is ∙ c.in_ok-byte-in-Crash.ensures (λ p rest. end_then rest (Does (Crash (record { 0 = p }))))

pub returns-in_err-word-in-Lose : goal.returns-in_err-word-in-Lose
unfolding fields_of
returns-in_err-word-in-Lose c =
    let wrong : fields_of c.args.head (words c.args.fields.now.rest.now) ≡ Err c.in_err-word-in-Lose.field-0.0 =
    ap (λ (h : Head). fields_of h (words c.args.fields.now.rest.now)) c.in-Lose.is ∙ c.in_err-word-in-Lose.ensures (λ k rest. end_then rest (Does (Lose k))) in
    search rules

pub returns-in_ok-word-in-Lose : goal.returns-in_ok-word-in-Lose
unfolding fields_of
returns-in_ok-word-in-Lose c =
    ap (λ (h : Head). fields_of h (words c.args.fields.now.rest.now)) c.in-Lose.is ∙ c.in_ok-word-in-Lose.ensures (λ k rest. end_then rest (Does (Lose k)))
