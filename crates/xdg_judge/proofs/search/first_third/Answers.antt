use Rattle.std.proofs.Common.{refl}
use Rattle.xdg_judge.specs.Searching.{tuple_for}
use Rattle.xdg_judge.specs.Verdicts.{AsksHere}
use Rattle.xdg_judge.proofs.search.first_third.Goals as goal
use Rattle.xdg_facts.proofs.Numbers.{all_next}

pub loop-y-preserved : goal.loop-y-preserved
loop-y-preserved c = all_next (λ y. AsksHere c.args.view.now.parts.now c.args.view.now.group.now c.args.view.now.analysis.now c.args.condition (tuple_for c.args.condition c.args.u c.args.x y)) c.loop-y.y c.loop-y.invariant (c.if-not-passes.ensures.0 refl)
