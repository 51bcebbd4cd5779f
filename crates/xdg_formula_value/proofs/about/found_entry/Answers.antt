use Rattle.xdg_problem.specs.Claims.{claim}
use Rattle.xdg_problem.specs.Truths.{stands}
use Rattle.xdg_formula_value.proofs.Concerning.{entry_found}
use Rattle.xdg_problem.proofs.Bindings.{nodes_unbound}
use Rattle.xdg_formula_value.proofs.about.found_entry.Goals as goal

pub found_named-requires-clause-nodes : goal.found_named-requires-clause-nodes
found_named-requires-clause-nodes c = nodes_unbound c.args.store.now.parts (stands c.none_bound.result) c.none_bound.ensures c.turns.ensures.known.problem.some

pub returns-in-Entry : goal.returns-in-Entry
returns-in-Entry c = entry_found c.args.store.now.parts c.args.store.now.now (claim c.args.formula.now) c.args.truth c.args.free c.args.names c.args.decision c.args.name c.in-Entry.node (stands c.none_bound.result) c.found_named.result c.in-Entry.is c.none_bound.ensures c.found_named.ensures
