use Rattle.std.proofs.Common.{◌≤◌, arith, subst}
use Rattle.xdg_problem.specs.Places.{nodes}
use Rattle.xdg_graph.specs.Edges.{edge_labels}
use Rattle.xdg_propcore.proofs.Sweeping.{sweeps_skip}
use Rattle.xdg_pagree.specs.Places.{AreLabelsDone, AreMothersDone, AreNodesDone}
use Rattle.xdg_propcore.proofs.Turns.{below_first, below_next}
use Rattle.xdg_pagree.proofs.AtNodes.{labels_last}
use Rattle.xdg_pagree.proofs.nodes.sweep_labels.Goals as goal

pub loop-number-init : goal.loop-number-init
loop-number-init c = below_first c.args.group.now (λ parts label. AreMothersDone parts c.args.group.now label) c.args.pass.now c.args.store.now c.requires.known

pub loop-number-preserved : goal.loop-number-preserved
loop-number-preserved c = below_next c.args.group.now (λ parts label. AreMothersDone parts c.args.group.now label) c.loop-number.number c.args.pass.now
    c.args.store.now c.loop-number.pass c.loop-number.store c.sweep_label.new.pass c.sweep_label.new.store c.loop-number.invariant c.sweep_label.ensures

pub returns : goal.returns
returns c = sweeps_skip c.args.group.now (AreLabelsDone c.loop-number.number c.args.store.now.parts c.args.group.now) (AreNodesDone (nodes c.args.store.now.parts) c.args.store.now.parts c.args.group.now) c.args.pass.now c.args.store.now c.loop-number.pass c.loop-number.store c.loop-number.invariant
    (labels_last c.loop-number.number c.args.store.now.parts c.args.group.now c.loop-number.store.now
    (subst (λ d. edge_labels c.args.store.now.parts d ≤ c.loop-number.number) c.dim_of-dim.ensures (let test = c.loop-number-test.false in let end = c.loop-number.auto.number-end in let count = c.labels_of-number-end.ensures.count in omega (arith, test, end, count)))
    c.requires.principle)
