use Rattle.xdg_problem.proofs.PlaceSteps.{labels_step}
use Rattle.xdg_problem.proofs.places.push_labels.Goals as goal

pub loop-label-preserved : goal.loop-label-preserved
loop-label-preserved c = labels_step c.args.dim c.args.nodes c.args.mother c.loop-label.label c.args.out.now c.loop-label.out c.push_out.new.out c.loop-label.invariant c.in_ok-push_out.ensures
