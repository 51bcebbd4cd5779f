use Rattle.xdg_inputs.specs.Answers.{meaning_of}
use Rattle.xdg_corpus.proofs.Grouping.{asks, is_job}
use Rattle.xdg_corpus.proofs.group.job_of.Goals as goal

pub of-requires : goal.of-requires
of-requires c = is_job (meaning_of c.args.expanded.now) c.args.options.now _ c.in-Ok.propagators c.in_ok-problem.problem c.requires.range c.in-Ok.ensures.stand

pub returns-clause-found : goal.returns-clause-found
returns-clause-found c = asks (meaning_of c.args.expanded.now) c.args.options.now c.args.line.now c.in_ok-problem.problem c.of.result c.in_ok-problem.ensures.found c.of.ensures
