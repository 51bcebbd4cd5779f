use Rattle.std.proofs.Common.{arith}
use Rattle.xdg_propcore.specs.Standing.{box_at}
use Rattle.xdg_formula_value.proofs.Keeping.{lasts_by, none_more}
use Rattle.xdg_formula_value.proofs.kept.lasting_by.Goals as goal

pub loop-decision-preserved : goal.loop-decision-preserved
loop-decision-preserved c = λ x there. (let it = c.but-row.ensures x there in let before = c.loop-decision.invariant x it.0 in
    (before.0, none_more c.removed_since-decision-items.result.now c.args.dim.0 c.args.mother.0 c.args.label.0 c.loop-decision.decision-index x _ c.loop-decision-test.true before.1 it.1))

pub returns : goal.returns
returns c = λ x there. (let past = c.loop-decision-test.false in let known = c.daughters_by-row.ensures.known in let it = c.loop-decision.invariant x there in
    lasts_by c.args.store.now.parts known.problem (box_at c.args.store.now c.args.since) c.args.store.now.now c.requires.earlier.is known.is_box c.requires.earlier.inside c.removed_since-decision-items.result.now c.removed_since-decision-items.ensures.names c.args.which c.args.dim.0
    c.args.mother.0 c.args.label.0 c.loop-decision.decision-index x (omega (arith, past)) it.0 it.1)
