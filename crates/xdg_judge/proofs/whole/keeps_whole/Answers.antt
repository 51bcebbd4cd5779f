use Rattle.xdg_judge.proofs.Bounds.{bound_told}
use Rattle.xdg_judge.proofs.whole.keeps_whole.Goals as goal

pub returns-in-Bound : goal.returns-in-Bound
returns-in-Bound c = bound_told c.args.view.now.parts.now c.args.view.now.group.now c.args.view.now.analysis.now c.in-Bound.costs c.in-Bound.bound c.cost_of.result c.requires.fits c.in-Bound.is c.cost_of.ensures
