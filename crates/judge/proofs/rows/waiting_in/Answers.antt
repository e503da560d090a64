use Rattle.std.proofs.Common.{rules, tests, sym, ap, ◌∙◌, drop, replicate}
use Rattle.std.proofs.lemmas.Iterator.{YieldsList-from_slice}
use Rattle.std.proofs.lemmas.Iterator.Search.{all_from_yields_List}
use Rattle.state.specs.Tabled.{is_empty_row}
use Rattle.judge.specs.declared.Waiting.TheVariants.{Nothing}
use Rattle.judge.specs.Scans.{limited, scanned}
use Rattle.judge.specs.ScanLaws.{every-all}
use Rattle.judge.specs.TabledLaws.{rows_are}
use Rattle.judge.proofs.rows.waiting_in.Goals as goal

pub returns-then-all : goal.returns-then-all
returns-then-all c = rows_are (limited c.args.l) c.args.used c.args.t.now _ (search rules) (search rules)
    (sym (all_from_yields_List is_empty_row _ _ c.all.result c.all.ensures.ran (YieldsList-from_slice (drop c.args.used c.args.t.now) (cc)) (λ x b q k. search (rules, tests)) ∙ every-all is_empty_row (drop c.args.used c.args.t.now)) ∙ c.if-all.true)
    (c.waiting_of.ensures ∙ ap (scanned (limited c.args.l) (replicate 7 Nothing) 1) c.split_at.ensures.front)
