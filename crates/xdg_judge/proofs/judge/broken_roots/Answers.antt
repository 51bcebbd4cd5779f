use Rattle.std.proofs.Common.{sym, subst}
use Rattle.xdg_problem.specs.declared.conditions.Condition.TheVariants as conditions
use Rattle.xdg_judge.specs.Verdicts.{IsLeastBroken}
use Rattle.xdg_judge.proofs.Judging.{roots_broken, roots_counted}
use Rattle.xdg_judge.proofs.judge.broken_roots.Goals as goal

pub returns : goal.returns
returns c =
    subst (IsLeastBroken c.args.view.now.parts.now c.args.view.now.group.now c.args.view.now.analysis.now conditions.Roots) (sym c.one.ensures)
    (roots_broken c.args.view.now.parts.now c.args.view.now.group.now c.args.view.now.analysis.now c.count_roots-count.result
    (roots_counted c.args.view.now.parts.now c.args.view.now.group.now c.args.view.now.analysis.now c.count_roots-count.result c.len.result c.args.view.now.first_dim c.edges.result.now c.count_roots-count.ensures.value c.len.ensures c.requires.view.first_is c.edges.ensures.value)
    c.if-count-eq1.false)
