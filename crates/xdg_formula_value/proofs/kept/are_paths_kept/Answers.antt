use Rattle.std.proofs.Common.{arith}
use Rattle.xdg_propcore.specs.Standing.{box_at}
use Rattle.xdg_formula_value.proofs.Keeping.{keep_more, keep_start, paths_stay}
use Rattle.xdg_formula_value.proofs.kept.are_paths_kept.Goals as goal

pub loop-decision-init : goal.loop-decision-init
loop-decision-init c = keep_start c.args.store.now.parts (box_at c.args.store.now c.args.since) c.args.store.now.now c.removed_since-decision-items.result.now c.args.dim.0

pub loop-decision-preserved : goal.loop-decision-preserved
loop-decision-preserved c = keep_more c.args.store.now.parts (box_at c.args.store.now c.args.since) c.args.store.now.now c.removed_since-decision-items.result.now c.args.dim.0 c.loop-decision.decision-index _ c.loop-decision-test.true c.loop-decision.invariant (c.keeps_path.ensures c.if-not-keeps_path.false)

pub returns : goal.returns
returns c = λ so. (let past = c.loop-decision-test.false in let known = c.removed_since-decision-items.ensures.known in
    paths_stay c.args.store.now.parts known.problem (box_at c.args.store.now c.args.since) c.args.store.now.now c.requires.earlier.is known.is_box c.requires.earlier.inside c.removed_since-decision-items.result.now c.removed_since-decision-items.ensures.names c.args.dim.0 c.loop-decision.decision-index (omega (arith, past)) c.loop-decision.invariant)
