-- Each turn fills one more place.
use Rattle.std.proofs.Common.{rules, arith, ◌≡◌, ◌∙◌, ap, ltb}
use Rattle.std.proofs.lemmas.List.{get_or_default}
use Rattle.std.proofs.lemmas.List.Edits.{fill_by_more}
use Rattle.std.proofs.lemmas.List.FromFn.{fill_by_all}
use Rattle.replica.specs.declared.Replica.{Replica}
use Rattle.state.specs.State.{fresh_replica}
use Rattle.standing.specs.declared.Status.TheVariants.{Down}
use Rattle.standing.specs.Status.{standing_of, standing_at}
use Rattle.standing.proofs.standings_of.Goals as goal

pub loop-at-preserved : goal.loop-at-preserved
loop-at-preserved c =
    let l = c.loop-at in
    let enough = c.enough_up-enough.result in
    let here = standing_at c.args.b enough in
    let placed : c.standing_of.result ≡ here l.at =
    c.standing_of.ensures
    ∙ ap (λ (r : Replica). standing_of r (ltb l.at c.args.b.n) enough) (get_or_default c.args.b.replicas l.at _ fresh_replica (omega (arith, c.loop-at-test.true))) in
    record {
      long = search rules;
      filled = rw placed (fill_by_more here l.standings l.at Down (omega (arith, l.invariant.long, c.loop-at-test.true)) l.invariant.filled);
    }

pub returns : goal.returns
returns c =
    let l = c.loop-at in
    rw (← c.enough_up-enough.ensures)
    (fill_by_all (standing_at c.args.b c.enough_up-enough.result) l.standings 7 Down l.invariant.long (λ k h. l.invariant.filled k (omega (arith, h, c.loop-at-test.false))))
