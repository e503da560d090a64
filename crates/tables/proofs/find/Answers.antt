use Rattle.std.proofs.Common.{rules, tests, ◌∙◌, eqb, take}
use Rattle.std.proofs.lemmas.Iterator.{YieldsList-from_slice}
use Rattle.std.proofs.lemmas.Iterator.Search.{position_from_yields_List}
use Rattle.words.specs.declared.Message.{Message}
use Rattle.tables.proofs.Seeking.{seek_is}
use Rattle.tables.proofs.find.Goals as goal

pub returns : goal.returns
returns c = position_from_yields_List (λ (m : Message). eqb m.number c.args.k) _ _ c.position.result c.position.ensures.ran (YieldsList-from_slice (take c.args.n c.args.t.now) (cc)) (λ x b q k. search (rules, tests)) ∙ seek_is c.args.k (take c.args.n c.args.t.now)
