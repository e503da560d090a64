-- The history is 1,024 rows long.
use Rattle.std.proofs.Common.{replicate, ◌∙◌, ap, ℕ, length}
use Rattle.std.proofs.lemmas.List.{length-replicate}
use Rattle.schedule.specs.Opening.{opens}
use Rattle.schedule.specs.Turns.{replied_by}
use Rattle.inflight.proofs.FlightLaws.{messages-reply, messages-left}
use Rattle.inflight.proofs.run_messages.Goals as goal

pub returns-clause-reply : goal.returns-clause-reply
returns-clause-reply c =
    let none = c.default-rows.result in
    let bytes = c.args.bytes.now in
    let ms = c.args.messages.now in (
      messages-reply bytes ms (replicate 1024 none) (length-replicate 1024 none) (replied_by c.run.result) c.run.ensures.reply.0,
      messages-left bytes ms (replicate 1024 none) (length-replicate 1024 none) c.run.new.messages c.run.ensures.reply.1.0,
    )

pub returns-clause-opens : goal.returns-clause-opens
returns-clause-opens c =
    c.run.ensures.opens ∙ ap (λ (k : ℕ). opens (length c.args.messages.now) k c.args.bytes.now) (length-replicate 1024 c.default-rows.result)
