use Rattle.xdg_problem.proofs.FurtherLawful.{rules_problem}
use Rattle.xdg_problem.proofs.problem.Problem.with_rules.Goals as goal

pub of-requires : goal.of-requires
of-requires c = rules_problem c.args.self c.into_parts-parts.result c.add_rules.new.parts c.args.formulas c.into_parts-parts.ensures.kept c.requires c.into_parts-parts.ensures.same c.in_ok-add_rules.ensures
