use Rattle.xdg_propcore.proofs.Sweeping.{sweeps_next}
use Rattle.xdg_propcore.proofs.Turns.{quiet_later}
use Rattle.xdg_pgraph.specs.declared.bundle.Way.TheVariants as ways
use Rattle.xdg_pgraph.specs.Bundles.{IsLabelDone, IsWayDone}
use Rattle.xdg_pgraph.specs.Untouched.{AreOthersDone}
use Rattle.xdg_pgraph.proofs.valency.take_label.Goals as goal

pub returns : goal.returns
returns c = sweeps_next c.args.group.now (IsWayDone ways.Out c.args.store.now.parts c.args.group.now c.args.label) (IsLabelDone c.args.store.now.parts c.args.group.now c.args.label) (λ parts. IsWayDone ways.In parts c.args.group.now c.args.label) c.args.pass.now c.args.store.now c.take_way.new.pass c.take_way.new.store c.take_way-2.new.pass c.take_way-2.new.store c.take_way.ensures c.take_way-2.ensures (λ box out into. (out, into))

pub take_way-requires-2-clause-others : goal.take_way-requires-2-clause-others
take_way-requires-2-clause-others c =
    quiet_later c.args.group.now (λ parts box. AreOthersDone c.args.touched.now parts c.args.group.now box)
    (IsWayDone ways.Out c.args.store.now.parts c.args.group.now c.args.label) c.args.pass.now c.args.store.now c.take_way.new.pass c.take_way.new.store c.requires.others c.take_way.ensures
