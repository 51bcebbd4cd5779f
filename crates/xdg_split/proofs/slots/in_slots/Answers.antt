use Rattle.std.proofs.Common.{Some, All, IfOk, sym, subst}
use Rattle.std.specs.List.{AllZip}
use Rattle.std.proofs.lemmas.List.Elements.{All-pop}
use Rattle.std.proofs.lemmas.Result.{IfOk-at_ok}
use Rattle.xdg_split.specs.Slots.{Fits, IsPlaced}
use Rattle.xdg_split.proofs.Slotted.{empty_fit}
use Rattle.xdg_split.proofs.slots.in_slots.Goals as goal

pub loop-share-init : goal.loop-share-init
loop-share-init g c = (c.requires, subst (AllZip Fits c.args.jobs.now) (sym c.in_ok-slots.ensures) (empty_fit c.args.jobs.now))

pub loop-share-preserved : goal.loop-share-preserved
loop-share-preserved g c =
    let popped = All-pop (λ share. IfOk share (λ found. All (IsPlaced c.args.jobs.now) found)) c.loop-share.shares.items c.pop.new.self.items (Some c.in-Some.share) c.in-Some.ensures.items c.loop-share.invariant.0 in
    (popped.0, c.put_all.ensures c.args.jobs.now (IfOk-at_ok (λ found. All (IsPlaced c.args.jobs.now) found) c.in_ok-share.was popped.1) c.loop-share.invariant.1)
