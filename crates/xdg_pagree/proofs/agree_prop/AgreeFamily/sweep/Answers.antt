use Rattle.xdg_problem.specs.Places.{nodes}
use Rattle.xdg_rules.specs.Rules.{IsClosedFor}
use Rattle.xdg_propcore.proofs.Sweeping.{sweeps_skip}
use Rattle.xdg_pagree.specs.Places.{AreNodesDone}
use Rattle.xdg_pagree.proofs.Closing.{closed_by_nodes}
use Rattle.xdg_pagree.proofs.agree_prop.AgreeFamily.sweep.Goals as goal

pub returns : goal.returns
returns c = sweeps_skip c.args.group.now (AreNodesDone (nodes c.args.store.now.parts) c.args.store.now.parts c.args.group.now) (IsClosedFor c.args.store.now.parts c.args.group.now) c.args.pass.now c.args.store.now c.sweep_nodes.new.pass c.sweep_nodes.new.store c.sweep_nodes.ensures
    (closed_by_nodes c.args.store.now.parts c.args.group.now c.sweep_nodes.new.store.now c.requires.family)
