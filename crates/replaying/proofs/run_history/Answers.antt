-- The table of messages has 512 places.
use Rattle.std.proofs.Common.{replicate, ◌∙◌, ap, ℕ, length}
use Rattle.std.proofs.lemmas.List.{length-replicate}
use Rattle.schedule.specs.Opening.{opens}
use Rattle.schedule.specs.Turns.{replied_by}
use Rattle.schedule.proofs.FileLaws.{Played}
use Rattle.replaying.proofs.ReplayedLaws.{history-reply, history-left}
use Rattle.replaying.proofs.run_history.Goals as goal

pub returns-clause-reply : goal.returns-clause-reply
returns-clause-reply c =
    let bytes = c.args.bytes.now in
    let messages = replicate 512 c.default-messages.result in
    let long = length-replicate 512 c.default-messages.result in
    let run = c.run.ensures.reply in
    let p : Played bytes messages c.args.rows.now (replied_by c.run.result) c.run.new.messages c.run.new.rows = record { reply = run.0; messages-left = run.1.0; rows_left = run.1.1 } in (
      history-reply bytes messages long c.args.rows.now (replied_by c.run.result) c.run.new.messages c.run.new.rows p,
      history-left bytes messages long c.args.rows.now (replied_by c.run.result) c.run.new.messages c.run.new.rows p,
    )

pub returns-clause-opens : goal.returns-clause-opens
returns-clause-opens c =
    c.run.ensures.opens ∙ ap (λ (k : ℕ). opens k (length c.args.rows.now) c.args.bytes.now) (length-replicate 512 c.default-messages.result)
