use Rattle.std.proofs.Common.{◌∙◌, rules, set, ap}
use Rattle.xdg_pgraph.proofs.Classing.{take_set}
use Rattle.xdg_pgraph.proofs.allowances.Row.put.Goals as goal

pub returns : goal.returns
returns c = take_set c.self.inside.classes c.self.inside.count c.args.at c.args.class (search rules) ∙ ap (λ classes. set classes c.args.at c.args.class) (search rules)
