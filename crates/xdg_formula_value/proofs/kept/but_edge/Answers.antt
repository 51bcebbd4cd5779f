use Rattle.xdg_formula_value.proofs.Keeping.{but_daughter}
use Rattle.xdg_formula_value.proofs.kept.but_edge.Goals as goal

pub returns : goal.returns
returns c = λ x there. but_daughter c.args.row c.remove.new.self c.args.edge c.args.dim.0 c.args.mother.0 c.args.label.0 x c.remove.ensures.members there
