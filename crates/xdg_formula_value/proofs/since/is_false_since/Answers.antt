use Rattle.xdg_formula_value.proofs.Under.{leads_start}
use Rattle.xdg_formula_value.proofs.since.is_false_since.Goals as goal

pub false_under-requires-clause-leads : goal.false_under-requires-clause-leads
false_under-requires-clause-leads c = leads_start c.args.store.now.parts c.args.formula.now c.empty.result c.removed_since.ensures.known.problem.some
