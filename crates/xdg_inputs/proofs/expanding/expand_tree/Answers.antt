use Rattle.xdg_inputs.proofs.ClassCount.{as_many_classes}
use Rattle.xdg_inputs.proofs.OneMeaning.{check_tells, expand_tells, made_tells, types_only_tell, check_only_tell, expand_only_tell, made_only}
use Rattle.xdg_inputs.proofs.expanding.expand_tree.Goals as goal

pub returns-in-Err-clause-only : goal.returns-in-Err-clause-only
returns-in-Err-clause-only c = types_only_tell c.args.tree c.in-Err.stop c.in-Err.ensures.only

pub returns-in-Err-check-clause-tells : goal.returns-in-Err-check-clause-tells
returns-in-Err-check-clause-tells c = check_tells c.args.tree c.in-Ok.table c.in-Err-check.stop c.in-Ok.ensures.tells c.in-Err-check.ensures.tells

pub returns-in-Err-check-clause-only : goal.returns-in-Err-check-clause-only
returns-in-Err-check-clause-only c = check_only_tell c.args.tree c.in-Ok.table c.in-Err-check.stop c.in-Ok.ensures.only c.in-Err-check.ensures.only

pub returns-in-Ok-lexicon-clause-tells : goal.returns-in-Ok-lexicon-clause-tells
returns-in-Ok-lexicon-clause-tells c = made_tells c.args.tree c.in-Ok.table c.in-Ok-check.checked c.in-Ok-lexicon.lexicon.entries c.in-Ok.ensures.tells c.in-Ok-check.ensures.tells c.in-Ok-lexicon.ensures.tells

pub returns-in-Ok-lexicon-clause-only : goal.returns-in-Ok-lexicon-clause-only
returns-in-Ok-lexicon-clause-only c = made_only c.args.tree c.in-Ok.table c.in-Ok-check.checked c.in-Ok.ensures.only c.in-Ok-check.ensures.only c.in-Ok-lexicon.lexicon c.in-Ok-lexicon.ensures.only

pub returns-in-Ok-lexicon-clause-classes : goal.returns-in-Ok-lexicon-clause-classes
returns-in-Ok-lexicon-clause-classes c = as_many_classes c.args.tree c.in-Ok.table c.in-Ok-check.checked c.in-Ok-check.ensures.tells

pub returns-in-Err-lexicon-clause-tells : goal.returns-in-Err-lexicon-clause-tells
returns-in-Err-lexicon-clause-tells c = expand_tells c.args.tree c.in-Ok.table c.in-Ok-check.checked c.in-Err-lexicon.stop c.in-Ok.ensures.tells c.in-Ok-check.ensures.tells c.in-Err-lexicon.ensures.tells

pub returns-in-Err-lexicon-clause-only : goal.returns-in-Err-lexicon-clause-only
returns-in-Err-lexicon-clause-only c = expand_only_tell c.args.tree c.in-Ok.table c.in-Ok-check.checked c.in-Ok.ensures.only c.in-Ok-check.ensures.only c.in-Err-lexicon.stop c.in-Err-lexicon.ensures.only
