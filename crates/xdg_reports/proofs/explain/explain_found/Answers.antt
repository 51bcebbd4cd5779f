use Rattle.std.proofs.Common.{subst}
use Rattle.xdg_inputs.specs.Answers.{grammar_in}
use Rattle.xdg_inputs.specs.Runs.{Leaves}
use Rattle.xdg_problem.specs.declared.analysis.Analysis.{Analysis}
use Rattle.xdg_inputs.proofs.Following.{ruled_leaves}
use Rattle.xdg_inputs.proofs.Ruling.{rules_few}
use Rattle.xdg_reports.specs.Outcomes.{Judged}
use Rattle.xdg_reports.proofs.explain.explain_found.Goals as goal

pub judge-requires-clause-few : goal.judge-requires-clause-few
judge-requires-clause-few g c = rules_few (grammar_in c.args.expanded.now) c.args.rules.now.rules c.args.found.problem c.in-Ok.ruled.problem c.in-Ok.ensures.keeps

pub returns-in-Ok-clause-leaves : goal.returns-in-Ok-clause-leaves
returns-in-Ok-clause-leaves g c =
    ruled_leaves c.args.expanded.now c.requires.lexicon c.args.rules.now.rules c.args.found.problem (Judged c.args.rules.now c.args.found.analysis) c.in-Ok.ruled.problem c.judge.result _ _ c.in-Ok.ensures.ruled c.in-Ok.ensures.keeps
    (subst (λ (a : Analysis). Leaves (Judged c.args.rules.now a c.in-Ok.ruled.problem) c.judge.result (g.K.Sink.held c.args.out.now) (g.K.Sink.held c.judge.new.out)) c.in-Ok.ensures.same c.judge.ensures.leaves)
