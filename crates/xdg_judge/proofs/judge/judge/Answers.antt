use Rattle.std.proofs.Common.{arith, take, get_or, subst}
use Rattle.std.proofs.lemmas.List.{get_or_default}
use Rattle.std.proofs.lemmas.List.Elements.{All-more}
use Rattle.xdg_problem.specs.declared.conditions.Condition.TheVariants as conditions
use Rattle.xdg_judge.specs.Verdicts.{IsKeptHere, tuple_of}
use Rattle.xdg_judge.proofs.Judging.{first_broken, all_kept}
use Rattle.xdg_judge.proofs.judge.judge.Goals as goal

pub returns-in-Some : goal.returns-in-Some
returns-in-Some c =
    let list = take c.conditions_of-count.result.0 c.conditions_of-count.result.1 in
    let newest = get_or list c.loop-condition.condition-index conditions.Cycle in
    let at = get_or_default list c.loop-condition.condition-index conditions.Cycle newest c.loop-condition-test.true in
    first_broken c.args.view.now.parts.now c.args.view.now.group.now c.args.view.now.analysis.now list c.loop-condition.condition-index newest (tuple_of c.in-Some.tuple) c.conditions_of-count.ensures.listed c.loop-condition-test.true at c.loop-condition.invariant c.in-Some.ensures

pub loop-condition-preserved : goal.loop-condition-preserved
loop-condition-preserved c =
    let list = take c.conditions_of-count.result.0 c.conditions_of-count.result.1 in
    let newest = get_or list c.loop-condition.condition-index conditions.Cycle in
    let at = get_or_default list c.loop-condition.condition-index conditions.Cycle newest c.loop-condition-test.true in
    All-more (IsKeptHere c.args.view.now.parts.now c.args.view.now.group.now c.args.view.now.analysis.now) list c.loop-condition.condition-index newest c.loop-condition-test.true c.loop-condition.invariant (subst (IsKeptHere c.args.view.now.parts.now c.args.view.now.group.now c.args.view.now.analysis.now) at c.in_default.ensures)

pub returns : goal.returns
returns c = all_kept c.args.view.now.parts.now c.args.view.now.group.now c.args.view.now.analysis.now (take c.conditions_of-count.result.0 c.conditions_of-count.result.1) c.loop-condition.condition-index c.conditions_of-count.ensures.listed c.loop-condition.invariant (let h = c.loop-condition-test.false in omega (arith, h))
