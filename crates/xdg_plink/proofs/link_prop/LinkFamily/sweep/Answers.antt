use Rattle.std.proofs.Common.{refl}
use Rattle.xdg_problem.specs.Arguments.{second_dim}
use Rattle.xdg_rules.specs.Rules.{IsClosedFor}
use Rattle.xdg_propcore.proofs.Sweeping.{sweeps_start}
use Rattle.xdg_plink.specs.Ways.{Keeps, way_of}
use Rattle.xdg_plink.proofs.Closing.{closed_free}
use Rattle.xdg_plink.proofs.Swept.{says_as, swept}
use Rattle.xdg_plink.proofs.link_prop.LinkFamily.sweep.Goals as goal

pub returns-then-is_empty : goal.returns-then-is_empty
returns-then-is_empty c = sweeps_start c.args.group.now (IsClosedFor c.args.store.now.parts c.args.group.now) c.args.pass.now c.args.store.now c.requires.known (closed_free c.near_since-near.result c.args.store.now.parts c.args.group.now c.args.store.now.now c.requires.known.is_box c.requires.family c.near_since-near.ensures (c.if-is_empty.ensures refl))

pub returns : goal.returns
returns c = swept c.args.group.now c.table_for-table.result c.args.pass.now c.take_all.new.pass c.args.store.now c.take_all.new.store c.requires.family
    (says_as (λ w edges t. Keeps w edges t) c.args.store.now.parts c.args.store.now.now c.way_of.result (way_of c.args.group.now.principle) c.dim_of.result.0 (second_dim c.args.group.now) c.table_for-table.result c.way_of.ensures c.dim_of.ensures c.table_for-table.ensures.keeps)
    c.take_all.ensures
