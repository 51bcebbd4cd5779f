use Rattle.std.proofs.Common.{[], arith}
use Rattle.xdg_formula_value.specs.declared.pair.Pair.TheVariants as pairs
use Rattle.xdg_formula_value.proofs.Paired.{after_row, before_row, of_pair, pair_dim}
use Rattle.xdg_formula_value.proofs.pair.related.Goals as goal

pub far-requires-clause-dim : goal.far-requires-clause-dim
far-requires-clause-dim c = (let within = pair_dim c.args.which c.args.way c.args.store.now.parts c.args.store.now.now c.args.node.0 [] c.args.pair c.in-Path.dim c.in-Path.is c.requires.pair in let few = c.turns.ensures.known.problem.dims_most in omega (arith, within, few))

pub far-requires-in-Up-clause-dim : goal.far-requires-in-Up-clause-dim
far-requires-in-Up-clause-dim c = (let within = pair_dim c.args.which c.args.way c.args.store.now.parts c.args.store.now.now c.args.node.0 [] c.args.pair c.in-Path.dim c.in-Path.is c.requires.pair in let few = c.turns.ensures.known.problem.dims_most in omega (arith, within, few))

pub returns-in-Down-way : goal.returns-in-Down-way
returns-in-Down-way c = of_pair c.args.which c.args.way c.args.store.now.parts c.args.store.now.now c.args.node.0 c.opposite.result c.args.pair pairs.Left c.in-Left.is (after_row c.args.which c.args.way c.args.store.now.parts c.args.store.now.now c.args.node.0 c.opposite.result c.up_to.result c.in-Down-way.is c.turns.ensures.known.problem.most c.up_to.ensures c.opposite.ensures)

pub returns-in-Up-way : goal.returns-in-Up-way
returns-in-Up-way c = of_pair c.args.which c.args.way c.args.store.now.parts c.args.store.now.now c.args.node.0 c.nodes_before.result c.args.pair pairs.Left c.in-Left.is (before_row c.args.which c.args.way c.args.store.now.parts c.args.store.now.now c.args.node.0 c.nodes_before.result c.in-Up-way.is c.nodes_before.ensures)
