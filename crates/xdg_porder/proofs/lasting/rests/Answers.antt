use Rattle.xdg_propcore.specs.Standing.{box_at}
use Rattle.xdg_porder.proofs.MaysStay.{rested}
use Rattle.xdg_porder.proofs.lasting.rests.Goals as goal

pub removed_since-requires : goal.removed_since-requires
removed_since-requires c = (c.requires.held c.in-Some.mark c.in-Some.is).within

pub returns-in-Some : goal.returns-in-Some
returns-in-Some c t =
    let s = c.args.store.now in
    let held = c.requires.held c.in-Some.mark c.in-Some.is in
    rested s.parts c.args.group.now c.requires.ready.known.problem c.requires.projective (box_at s c.in-Some.mark) s.now c.requires.ready.known.is_box held.inside c.dim_of.result.0 c.dim_of.ensures
    c.removed_since.result.now c.removed_since.ensures.names (c.all_may.ensures.0 t) held.calm
