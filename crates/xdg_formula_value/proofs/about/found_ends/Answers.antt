use Rattle.std.proofs.Common.{arith}
use Rattle.xdg_problem.specs.Claims.{claim}
use Rattle.xdg_problem.specs.Truths.{stands}
use Rattle.xdg_formula_value.proofs.Concerning.{ends_second, ends_both}
use Rattle.xdg_problem.proofs.Bindings.{nodes_inside, nodes_unbound}
use Rattle.xdg_formula_value.proofs.about.found_ends.Goals as goal

pub found_named-requires-clause-nodes : goal.found_named-requires-clause-nodes
found_named-requires-clause-nodes c = (let l = c.requires.place.mother in nodes_unbound c.args.store.now.parts (stands c.none_bound.result) c.none_bound.ensures (omega (arith, l)))

pub returns-then-not-is_named : goal.returns-then-not-is_named
returns-then-not-is_named c = ends_second c.args.store.now.parts c.args.store.now.now (claim c.args.formula.now) c.args.truth c.args.free c.args.names c.args.mother c.args.daughter c.args.edge.mother.0 c.args.edge.daughter.0 (stands c.none_bound.result) c.found_named.result c.none_bound.ensures c.found_named.ensures

pub found_named-requires-2-clause-nodes : goal.found_named-requires-2-clause-nodes
found_named-requires-2-clause-nodes c = (let l = c.requires.place.mother in nodes_inside c.args.store.now.parts (stands c.none_bound-2.result) (stands c.bind-here.result) c.args.mother c.args.edge.mother.0 c.bind-here.ensures (nodes_unbound c.args.store.now.parts (stands c.none_bound-2.result) c.none_bound-2.ensures (omega (arith, l))) l)

pub returns : goal.returns
returns c = ends_both c.args.store.now.parts c.args.store.now.now (claim c.args.formula.now) c.args.truth c.args.free c.args.names c.args.mother c.args.daughter c.args.edge.mother.0 c.args.edge.daughter.0 c.fewer.result (stands c.none_bound-2.result) (stands c.bind-here.result) c.found_named-2.result c.none_bound-2.ensures c.bind-here.ensures c.fewer.ensures.members (c.is_named.ensures c.if-not-is_named.false).1 c.found_named-2.ensures
