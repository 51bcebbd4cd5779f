use Rattle.xdg_problem.specs.Boxes.{attr_decision}
use Rattle.xdg_formula_value.proofs.Told.{only_told, gone_told}
use Rattle.xdg_formula_value.proofs.atoms.attr_told.Goals as goal

pub returns-then-truth-clause-exact : goal.returns-then-truth-clause-exact
returns-then-truth-clause-exact c = only_told c.args.store.now.now (attr_decision c.args.store.now.parts c.args.dim.0 c.args.node.0 c.args.attr.0) c.args.value c.args.truth c.is_only.result c.if-truth.true c.is_only.ensures.exact

pub returns-clause-exact : goal.returns-clause-exact
returns-clause-exact c = gone_told c.args.store.now.now (attr_decision c.args.store.now.parts c.args.dim.0 c.args.node.0 c.args.attr.0) c.args.value c.args.truth c.attr_in.result c.if-truth.false c.attr_in.ensures.exact
