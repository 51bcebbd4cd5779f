use Rattle.std.proofs.Common.{ap, arith, length}
use Rattle.xdg_problem.specs.Claims.{claim}
use Rattle.xdg_formula_value.specs.Lost.{AgreeBut}
use Rattle.xdg_problem.specs.Truths.{stands}
use Rattle.xdg_formula_value.proofs.Finding.{finds_on, found_whole, found_single, found_double, nodes_start, nodes_turn, nodes_end}
use Rattle.xdg_problem.proofs.Bindings.{nodes_inside}
use Rattle.xdg_formula_value.proofs.lost.+freeing.Goals as goal

pub returns-in-None : goal.returns-in-None
returns-in-None t c = found_whole c.args.store.now.parts c.args.store.now.now (claim c.args.formula.now) c.args.truth c.args.free (stands c.args.binding.now) c.makes.result c.in-None.ensures.value c.requires.nodes c.makes.ensures

pub returns-in_default : goal.returns-in_default
returns-in_default t c = found_single c.args.store.now.parts c.args.store.now.now (claim c.args.formula.now) c.args.truth c.args.free c.fewer-rest.result (stands c.args.binding.now) c.in-Some.name.0 c.found_one.result c.fewer-rest.ensures.members c.in_default.ensures.value c.requires.nodes c.found_one.ensures

pub returns-then-len-eq0 : goal.returns-then-len-eq0
returns-then-len-eq0 t c = found_double c.args.store.now.parts c.args.store.now.now (claim c.args.formula.now) c.args.truth c.args.free c.fewer-rest.result c.fewer-last.result (stands c.args.binding.now) c.in-Some.name.0 c.in-Some-first.other.0 c.found_two.result c.fewer-rest.ensures.members c.fewer-last.ensures.members
    (let count = c.len.ensures.value in let none = c.if-len-eq0.true in omega (arith, count, none)) c.requires.nodes c.found_two.ensures

pub loop-node-init : goal.loop-node-init
loop-node-init t c = nodes_start c.args.store.now.parts c.args.store.now.now (claim c.args.formula.now) c.args.truth c.args.free (stands c.args.binding.now) c.in-Some.name.0

pub found-requires : goal.found-requires
found-requires t c = (let fewer = ap length (c.in-Some.ensures.value.0) in let rest = ap length c.fewer-rest.ensures.value in omega (arith, fewer, rest), (c.requires.paths, (c.requires.is_of, nodes_inside c.args.store.now.parts (stands c.args.binding.now) (stands c.bind-here.result) c.in-Some.name.0 c.loop-node.node c.bind-here.ensures c.requires.nodes (let count = c.node_count-node-end.ensures.size in let less = c.loop-node-test.true in omega (arith, count, less)))))

pub returns-then-found : goal.returns-then-found
returns-then-found t c = finds_on c.args.store.now.parts c.args.store.now.now (claim c.args.formula.now) c.args.truth (AgreeBut c.args.free (stands c.args.binding.now)) (AgreeBut c.fewer-rest.result (stands c.bind-here.result)) c.found.result c.if-found.true c.found.ensures

pub loop-node-preserved : goal.loop-node-preserved
loop-node-preserved t c = nodes_turn c.args.store.now.parts c.args.store.now.now (claim c.args.formula.now) c.args.truth c.args.free c.fewer-rest.result (stands c.args.binding.now) (stands c.bind-here.result) c.in-Some.name.0 c.loop-node.node c.found.result c.fewer-rest.ensures.members c.bind-here.ensures c.loop-node.invariant c.if-found.false c.found.ensures

pub returns-after-loop-node : goal.returns-after-loop-node
returns-after-loop-node t c = (let past = c.loop-node-test.false in let count = c.node_count-node-end.ensures.size in nodes_end c.args.store.now.parts c.args.store.now.now (claim c.args.formula.now) c.args.truth c.args.free (stands c.args.binding.now) c.in-Some.name.0 c.loop-node.node (omega (arith, past, count)) c.loop-node.invariant)
