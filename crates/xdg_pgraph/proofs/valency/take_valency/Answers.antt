use Rattle.xdg_propcore.proofs.Turns.{below_next, quiet_later}
use Rattle.xdg_pgraph.specs.Bundles.{IsLabelDone, AreLabelsDone}
use Rattle.xdg_pgraph.specs.Untouched.{AreOthersDone}
use Rattle.xdg_pgraph.proofs.valency.take_valency.Goals as goal

pub loop-label-preserved : goal.loop-label-preserved
loop-label-preserved c =
    below_next c.args.group.now (λ parts label. IsLabelDone parts c.args.group.now label) c.loop-label.label c.args.pass.now c.args.store.now c.loop-label.pass c.loop-label.store c.take_label.new.pass c.take_label.new.store c.loop-label.invariant c.take_label.ensures

pub take_label-requires-clause-others : goal.take_label-requires-clause-others
take_label-requires-clause-others c =
    quiet_later c.args.group.now (λ parts box. AreOthersDone c.args.touched.now parts c.args.group.now box)
    (AreLabelsDone c.loop-label.label c.args.store.now.parts c.args.group.now) c.args.pass.now c.args.store.now c.loop-label.pass c.loop-label.store c.requires.others c.loop-label.invariant
