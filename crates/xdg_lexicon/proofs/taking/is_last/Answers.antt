use Rattle.xdg_lexicon.proofs.Taken.{not_last}
use Rattle.xdg_lexicon.proofs.taking.is_last.Goals as goal

pub returns-in-Some-clause-others : goal.returns-in-Some-clause-others
returns-in-Some-clause-others c = not_last c.args.said.now c.in-Some.field-0-1.now c.in-Some.last.now c.args.key c.in-Some.ensures.cases.0
