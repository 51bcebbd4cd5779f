use Rattle.std.proofs.Common.{subst}
use Rattle.xdg_propcore.specs.Standing.{box_at}
use Rattle.xdg_propcore.specs.Touching.{HasTouched}
use Rattle.xdg_pgraph.proofs.Others.{others_none, others_stay}
use Rattle.xdg_pgraph.proofs.graph_prop.take_counts.Goals as goal

pub gather-requires : goal.gather-requires
gather-requires c = (c.requires.held c.in-Some.mark c.in-Some.is).within

pub take_valency-requires-clause-others : goal.take_valency-requires-clause-others
take_valency-requires-clause-others c quiet =
    let held = c.requires.held c.in-Some.mark c.in-Some.is in
    others_stay c.gather.new.self c.args.store.now.parts c.args.group.now (box_at c.args.store.now c.in-Some.mark) c.args.store.now.now c.requires.principle held.inside
    (subst (λ d. HasTouched c.args.store.now.parts d (box_at c.args.store.now c.in-Some.mark) c.args.store.now.now c.gather.new.self) c.requires.dim c.gather.ensures.touched) held.calm

pub take_valency-requires-in-None-clause-others : goal.take_valency-requires-in-None-clause-others
take_valency-requires-in-None-clause-others c quiet = others_none c.all-touched.result c.args.store.now.parts c.args.group.now c.args.store.now.now c.requires.known.problem c.all-touched.ensures
