use Rattle.std.proofs.Common.{◌<◌, length, subst, arith}
use Rattle.xdg_names.specs.Walks.{IsClosingGroup}
use Rattle.xdg_names.proofs.Closed.{closing_starts, closing_goes, closing_ends, inside}
use Rattle.xdg_names.proofs.walk.close.Goals as goal

pub close-init : goal.close-init
close-init c = closing_starts _ _ _ _ _ _ c.requires.are c.requires.on

pub index_mut-requires : goal.index_mut-requires
index_mut-requires c =
    let v = subst (λ s. IsClosingGroup (length c.args.marks.now.items) c.args.first c.args.given c.args.marks.now.items c.args.order.now.items c.close.marks.items s c.close.order.items) c.in-Some.ensures.items c.close.invariant in
    let w : c.in-Some.last < length c.close.marks.items = inside _ _ _ _ _ _ _ _ _ v c.requires.least c.requires.most in
    omega (arith, c.close.marks.ok)

pub returns-then-last-first : goal.returns-then-last-first
returns-then-last-first c =
    let v = subst (λ s. IsClosingGroup (length c.args.marks.now.items) c.args.first c.args.given c.args.marks.now.items c.args.order.now.items c.close.marks.items s c.close.order.items) c.in-Some.ensures.items c.close.invariant in
    rw c.in_ok-push.ensures.items (closing_ends _ _ _ _ _ _ _ _ _ v c.requires.least c.requires.most c.if-last-first.true)

pub close-preserved : goal.close-preserved
close-preserved c =
    let v = subst (λ s. IsClosingGroup (length c.args.marks.now.items) c.args.first c.args.given c.args.marks.now.items c.args.order.now.items c.close.marks.items s c.close.order.items) c.in-Some.ensures.items c.close.invariant in
    rw c.in_ok-push.ensures.items (closing_goes _ _ _ _ _ _ _ _ _ v c.requires.least c.requires.most c.if-last-first.false)
