use Rattle.std.proofs.Common.{◌∙◌, refl, arith}
use Rattle.xdg_rules.specs.Rules.{OneLabel}
use Rattle.xdg_pgraph.proofs.Beside.{LabelsBelow, label_more, labels_all}
use Rattle.xdg_pgraph.proofs.Ruled.{part_none}
use Rattle.xdg_pgraph.proofs.label.one_label.Goals as goal

pub loop-mother-init : goal.loop-mother-init
loop-mother-init c = (part_none OneLabel (LabelsBelow 0) c.args.plane.now.dim.0 c.args.pass.now c.args.store.now (λ group on quiet d v x h. (let l = x.1 in omega (arith, l))), refl, c.requires.known)

pub loop-mother-preserved : goal.loop-mother-preserved
loop-mother-preserved c = (
  label_more c.args.plane.now.dim.0 c.args.pass.now c.loop-mother.pass c.one_label_from.new.pass c.args.store.now c.loop-mother.store c.one_label_from.new.store c.loop-mother.mother
      c.loop-mother.invariant.0 c.one_label_from.ensures.runs,
  c.one_label_from.ensures.parts ∙ c.loop-mother.invariant.1,
  c.one_label_from.ensures.known,
)

pub returns-clause-runs : goal.returns-clause-runs
returns-clause-runs c = labels_all c.args.plane.now c.args.pass.now c.loop-mother.pass c.args.store.now c.loop-mother.store c.requires.plane c.loop-mother.mother
    (let t = c.loop-mother-test.false in omega (arith, t)) c.loop-mother.invariant.0
