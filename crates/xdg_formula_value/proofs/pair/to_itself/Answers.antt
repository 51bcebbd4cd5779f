use Rattle.std.proofs.Common.{ap, arith}
use Rattle.xdg_problem.specs.Places.{nodes}
use Rattle.xdg_formula_value.specs.Pairs.{Relates}
use Rattle.xdg_formula_value.proofs.Paired.{at_itself}
use Rattle.xdg_formula_value.proofs.Rowed.{first_more, first_none, first_row}
use Rattle.xdg_formula_value.proofs.pair.to_itself.Goals as goal
use Rattle.xdg_facts.specs.Rises.{has}

pub loop-node-init : goal.loop-node-init
loop-node-init c = first_none (λ v. Relates c.args.pair c.args.which c.args.store.now.parts c.args.store.now.now v v) c.empty-row.result (λ v. ap (λ s. has s v) c.empty-row.ensures.value)

pub loop-node-preserved : goal.loop-node-preserved
loop-node-preserved c = first_more c.loop-node.node (λ v. Relates c.args.pair c.args.which c.args.store.now.parts c.args.store.now.now v v) c.contains-there.result c.loop-node.row c.kept-row.result c.loop-node.invariant
    (at_itself c.args.which c.args.store.now.parts c.args.store.now.now c.args.pair c.loop-node.node c.related.result c.contains-there.result (let t = c.loop-node-test.true in let e = c.node_count-node-end.ensures.size in omega (arith, t, e)) c.contains-there.ensures.value c.related.ensures)
    c.kept-row.ensures

pub returns : goal.returns
returns c = first_row (nodes c.args.store.now.parts) c.loop-node.node (λ v. Relates c.args.pair c.args.which c.args.store.now.parts c.args.store.now.now v v) c.loop-node.row (let t = c.loop-node-test.false in let e = c.node_count-node-end.ensures.size in omega (arith, t, e)) c.loop-node.invariant
