use Rattle.std.proofs.Common.{ℕ}
use Rattle.xdg_nodeset.specs.Tables.{InTable}
use Rattle.xdg_porder.specs.Items.{MayFollow, MayStand}
use Rattle.xdg_porder.proofs.Settling.{below_of}
use Rattle.xdg_porder.proofs.yields.stands_below.Goals as goal
use Rattle.xdg_facts.proofs.Gathering.{both_exact}

pub returns : goal.returns
returns c = both_exact (MayStand c.args.store.now.parts c.args.group.now c.args.store.now.now c.args.u.0 c.args.label.0)
    (λ x. (v : ℕ) × MayFollow c.args.store.now.parts c.args.group.now c.args.store.now.now c.args.u.0 c.args.label.0 v × InTable c.args.table.now v x) c.may_items.result c.all_below-below.result
    c.union.result c.may_items.ensures (below_of (MayFollow c.args.store.now.parts c.args.group.now c.args.store.now.now c.args.u.0 c.args.label.0) c.args.table.now c.may_follow.result
    c.all_below-below.result c.may_follow.ensures.exact c.all_below-below.ensures) c.union.ensures.members
