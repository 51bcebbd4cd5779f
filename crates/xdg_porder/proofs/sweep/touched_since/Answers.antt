use Rattle.std.proofs.Common.{subst}
use Rattle.xdg_propcore.specs.Standing.{box_at}
use Rattle.xdg_propcore.specs.Touching.{HasTouched}
use Rattle.xdg_porder.proofs.Others.{others_none, others_stay}
use Rattle.xdg_porder.proofs.sweep.touched_since.Goals as goal

pub returns-in-Some : goal.returns-in-Some
returns-in-Some c =
    let held = c.requires.held c.in-Some.mark c.in-Some.is in
    others_stay c.union.result c.gather.new.self c.args.store.now.parts c.args.group.now (box_at c.args.store.now c.in-Some.mark) c.args.store.now.now c.requires.at.0.known.problem held.is c.requires.at.0.group_is c.requires.at.1 held.inside
    (subst (λ d. HasTouched c.args.store.now.parts d (box_at c.args.store.now c.in-Some.mark) c.args.store.now.now c.gather.new.self) c.dim_of.ensures c.gather.ensures.touched) c.union.ensures.members held.calm

pub returns-in-None : goal.returns-in-None
returns-in-None c = others_none c.all.result.mothers c.args.store.now.parts c.args.group.now c.args.store.now.now c.requires.at.0.known.problem c.all.ensures.mothers

pub gather-requires : goal.gather-requires
gather-requires c = (c.requires.held c.in-Some.mark c.in-Some.is).within
