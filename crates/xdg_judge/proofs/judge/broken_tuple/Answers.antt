use Rattle.std.proofs.Common.{sym, subst}
use Rattle.xdg_judge.specs.Verdicts.{IsLeastBroken}
use Rattle.xdg_judge.proofs.Judging.{condition_kept, condition_broken}
use Rattle.xdg_judge.proofs.judge.broken_tuple.Goals as goal

pub returns-in-None : goal.returns-in-None
returns-in-None c = condition_kept c.args.view.now.parts.now c.args.view.now.group.now c.args.view.now.analysis.now c.args.condition c.len-size.result c.second_size-middle.result c.third_size-last.result c.requires.searched c.len-size.ensures c.second_size-middle.ensures c.third_size-last.ensures c.in-None.ensures

pub returns-in-Some : goal.returns-in-Some
returns-in-Some c =
    subst (IsLeastBroken c.args.view.now.parts.now c.args.view.now.group.now c.args.view.now.analysis.now c.args.condition) (sym c.tuple_for.ensures)
    (condition_broken c.args.view.now.parts.now c.args.view.now.group.now c.args.view.now.analysis.now c.args.condition c.len-size.result c.second_size-middle.result c.third_size-last.result c.in-Some.u c.in-Some.x c.in-Some.y c.requires.searched c.len-size.ensures c.second_size-middle.ensures c.third_size-last.ensures c.in-Some.ensures)
