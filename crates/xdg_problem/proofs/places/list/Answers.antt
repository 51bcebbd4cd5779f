use Rattle.xdg_problem.proofs.PlaceSteps.{has_places}
use Rattle.xdg_problem.proofs.places.list.Goals as goal

pub returns-in_err-push_mothers-clause-exact : goal.returns-in_err-push_mothers-clause-exact
returns-in_err-push_mothers-clause-exact c = has_places c.args.parts.now

pub returns-clause-exact : goal.returns-clause-exact
returns-clause-exact c = has_places c.args.parts.now
