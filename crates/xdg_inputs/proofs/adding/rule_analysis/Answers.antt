use Rattle.std.proofs.Common.{refl}
use Rattle.xdg_inputs.specs.Answers.{grammar_in}
use Rattle.xdg_inputs.proofs.Ruling.{ruled_fits}
use Rattle.xdg_inputs.proofs.adding.rule_analysis.Goals as goal

pub returns-clause-fits : goal.returns-clause-fits
returns-clause-fits c =
    ruled_fits (grammar_in c.args.expanded.now) c.args.rules.now.rules c.args.judgeable.problem c.in_ok-problem.problem c.args.judgeable.analysis c.args.judgeable.analysis c.in_ok-problem.ensures.keeps refl c.requires.fits
