use Rattle.xdg_problem.proofs.PlaceSteps.{mothers_step}
use Rattle.xdg_problem.proofs.places.push_mothers.Goals as goal

pub loop-mother-preserved : goal.loop-mother-preserved
loop-mother-preserved c = mothers_step c.args.dim c.args.nodes c.args.labels c.loop-mother.mother c.args.out.now c.loop-mother.out c.push_labels.new.out c.loop-mother.invariant c.in_ok-push_labels.ensures
