use Rattle.std.proofs.Common.{◌≡◌, ◌↔◌, true, subst}
use Rattle.xdg_porder.specs.Items.{MayOwn, MayFollow}
use Rattle.xdg_porder.proofs.Following.{items_exact}
use Rattle.xdg_porder.proofs.items.may_items.Goals as goal

pub returns : goal.returns
returns c = items_exact (MayOwn c.args.store.now.parts c.args.group.now c.args.store.now.now c.args.u.0 c.args.label.0) (MayFollow c.args.store.now.parts c.args.group.now c.args.store.now.now c.args.u.0 c.args.label.0) c.may_own-own.result c.args.u.0 c.may_follow.result c.with_node.result (subst (λ l. (c.may_own-own.result ≡ true) ↔ MayOwn c.args.store.now.parts c.args.group.now c.args.store.now.now c.args.u.0 l) c.from.ensures c.may_own-own.ensures) c.may_follow.ensures.exact c.with_node.ensures
