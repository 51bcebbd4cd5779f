use Rattle.xdg_inputs.proofs.Wording.{built_accepted, built_stops}
use Rattle.xdg_inputs.proofs.words.problem_from.Goals as goal

pub returns-clause-found : goal.returns-clause-found
returns-clause-found c =
    built_accepted c.args.expanded.now c.requires.lexicon c.args.segment c.args.text.now c.in-Ok.words c.build.result c.in-Ok.ensures.words c.build.ensures.compiled c.build.ensures.sentence c.build.ensures.keeps

pub returns-clause-refused : goal.returns-clause-refused
returns-clause-refused c = built_stops c.args.expanded.now c.requires.lexicon c.args.segment c.args.text.now c.in-Ok.words c.build.result c.in-Ok.ensures.words c.build.ensures.refused
