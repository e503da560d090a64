use Rattle.std.proofs.Common.{rules, tests, ap, ◌∙◌, drop}
use Rattle.std.proofs.lemmas.Iterator.{YieldsList-from_slice}
use Rattle.std.proofs.lemmas.Iterator.Search.{all_from_yields_List}
use Rattle.state.specs.Tabled.{is_empty_message}
use Rattle.judge.specs.Scans.{limited, risen}
use Rattle.judge.specs.ScanLaws.{every-all}
use Rattle.judge.specs.TabledLaws.{messages-are}
use Rattle.judge.proofs.messages.messages_fit.Goals as goal

pub returns : goal.returns
returns c = messages-are (limited c.args.l) c.args.flight c.args.t.now _ _ (search rules) (search rules) (c.all_rise.ensures ∙ ap (risen (limited c.args.l) 0) c.split_at.ensures.front)
    (all_from_yields_List is_empty_message _ _ c.all.result c.all.ensures.ran (YieldsList-from_slice (drop c.args.flight c.args.t.now) (cc)) (λ x b q k. search (rules, tests)) ∙ every-all is_empty_message (drop c.args.flight c.args.t.now))
