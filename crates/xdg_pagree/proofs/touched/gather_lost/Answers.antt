use Rattle.std.proofs.Common.{subst}
use Rattle.xdg_propcore.specs.Standing.{box_at}
use Rattle.xdg_propcore.specs.Touching.{HasTouched}
use Rattle.xdg_pagree.proofs.Others.{others_stay}
use Rattle.xdg_pagree.proofs.touched.gather_lost.Goals as goal

pub gather-requires : goal.gather-requires
gather-requires c = (c.requires.held c.in-Some.mark c.in-Some.is).within

pub returns-in-Some : goal.returns-in-Some
returns-in-Some c =
    let held = c.requires.held c.in-Some.mark c.in-Some.is in
    others_stay c.args.store.now.parts c.args.group.now c.requires.group c.requires.family (box_at c.args.store.now c.in-Some.mark) c.args.store.now.now held.is c.requires.known.is_box held.inside c.gather.new.self
    (subst (λ d. HasTouched c.args.store.now.parts d (box_at c.args.store.now c.in-Some.mark) c.args.store.now.now c.gather.new.self) c.dim_of.ensures c.gather.ensures.touched) held.calm
