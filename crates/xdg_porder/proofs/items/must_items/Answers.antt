use Rattle.std.proofs.Common.{◌≡◌, ◌↔◌, true, subst}
use Rattle.xdg_porder.specs.Items.{MustOwn, MustFollow}
use Rattle.xdg_porder.proofs.Following.{items_exact}
use Rattle.xdg_porder.proofs.items.must_items.Goals as goal

pub returns : goal.returns
returns c = items_exact (MustOwn c.args.store.now.parts c.args.group.now c.args.store.now.now c.args.u.0 c.args.label.0) (MustFollow c.args.store.now.parts c.args.group.now c.args.store.now.now c.args.u.0 c.args.label.0) c.must_own-own.result c.args.u.0 c.must_follow.result c.with_node.result (subst (λ l. (c.must_own-own.result ≡ true) ↔ MustOwn c.args.store.now.parts c.args.group.now c.args.store.now.now c.args.u.0 l) c.from.ensures c.must_own-own.ensures) c.must_follow.ensures.exact c.with_node.ensures
