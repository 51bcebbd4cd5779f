use Rattle.std.proofs.Common.{subst}
use Rattle.xdg_inputs.specs.Runs.{Leaves}
use Rattle.xdg_problem.specs.declared.analysis.Analysis.{Analysis}
use Rattle.xdg_inputs.proofs.Following.{ruled_leaves}
use Rattle.xdg_searches.specs.Outcomes.{SearchedBehind}
use Rattle.xdg_searches.proofs.resume.resume_found.Goals as goal

pub returns-in-Ok-clause-leaves : goal.returns-in-Ok-clause-leaves
returns-in-Ok-clause-leaves g c =
    ruled_leaves c.args.expanded.now c.requires.lexicon c.args.rules.now.rules c.args.found.problem (SearchedBehind c.args.options.now c.args.found.analysis) c.in-Ok.ruled.problem c.search.result _ _ c.in-Ok.ensures.ruled c.in-Ok.ensures.keeps
    (subst (λ (a : Analysis). Leaves (SearchedBehind c.args.options.now a c.in-Ok.ruled.problem) c.search.result (g.K.Sink.held c.args.out.now) (g.K.Sink.held c.search.new.out)) c.in-Ok.ensures.same c.search.ensures.leaves)
