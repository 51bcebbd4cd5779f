use Rattle.std.proofs.Common.{ℕ, arith, ap, cond, not}
use Rattle.xdg_judge.proofs.Tallies.{root_next}
use Rattle.xdg_judge.proofs.counts.count_roots.Goals as goal
use Rattle.xdg_judge.proofs.counts.count_roots.Goals.{then-not-has_mother, else-not-has_mother}

pub loop-node-preserved : goal.loop-node-preserved
loop-node-preserved c =
    let next = λ (added : ℕ). root_next c.loop-node.node c.args.dim c.loop-node.count added c.args.edges.now c.has_mother.result c.has_mother.ensures in
    elim c.if-not-has_mother.branch [
      | then-not-has_mother w ↦ (let step = next 1 (ap (λ b. cond (not b) 1 0) w.if-not-has_mother.true) c.loop-node.invariant.0 in omega (arith, step), omega arith)
      | else-not-has_mother w ↦ (let step = next 0 (ap (λ b. cond (not b) 1 0) w.if-not-has_mother.false) c.loop-node.invariant.0 in omega (arith, step), omega arith)
    ]
