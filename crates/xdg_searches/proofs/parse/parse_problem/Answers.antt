use Rattle.xdg_inputs.proofs.Following.{ruled_leaves}
use Rattle.xdg_searches.specs.Outcomes.{Parsed}
use Rattle.xdg_searches.proofs.parse.parse_problem.Goals as goal

pub returns-in-Ok-clause-leaves : goal.returns-in-Ok-clause-leaves
returns-in-Ok-clause-leaves g c =
    ruled_leaves c.args.expanded.now c.requires.lexicon c.args.rules.now.rules c.args.problem (Parsed c.args.options.now) c.in-Ok.ruled c.search_asked.result _ _ c.in-Ok.ensures.ruled c.in-Ok.ensures.keeps c.search_asked.ensures.leaves
