use Rattle.std.proofs.Common.{◌∙◌}
use Rattle.xdg_problem.proofs.FurtherLawful.{bound_problem}
use Rattle.xdg_problem.proofs.problem.Problem.with_bound.Goals as goal

pub of-requires : goal.of-requires
of-requires c = bound_problem c.args.self.now c.in_ok-parts.parts c.add_bound.new.parts c.args.costs.now c.args.bound c.parts.ensures.kept (c.in_ok-parts.ensures ∙ c.parts.ensures.same) c.in_ok-add_bound.ensures
