use Rattle.xdg_problem.specs.Claims.{claim}
use Rattle.xdg_problem.specs.Truths.{stands}
use Rattle.xdg_formula_value.proofs.Concerning.{attr_found}
use Rattle.xdg_problem.proofs.Bindings.{nodes_unbound}
use Rattle.xdg_formula_value.proofs.about.found_attr.Goals as goal

pub found_named-requires-clause-nodes : goal.found_named-requires-clause-nodes
found_named-requires-clause-nodes c = nodes_unbound c.args.store.now.parts (stands c.none_bound.result) c.none_bound.ensures c.turns.ensures.known.problem.some

pub returns-else-not-is_attr : goal.returns-else-not-is_attr
returns-else-not-is_attr c = attr_found c.args.store.now.parts c.args.store.now.now (claim c.args.formula.now) c.args.truth c.args.free c.args.names c.args.decision c.args.name c.args.dim.0 c.args.attr.0 c.in-Attr.on c.in-Attr.node c.in-Attr.which (stands c.none_bound.result) c.found_named.result c.in-Attr.is c.none_bound.ensures c.found_named.ensures
