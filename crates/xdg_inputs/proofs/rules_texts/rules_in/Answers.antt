use Rattle.xdg_inputs.proofs.Telling.{right_only, right_tells, unread_only, unread_tells, wrong_only, wrong_tells}
use Rattle.xdg_inputs.proofs.rules_texts.rules_in.Goals as goal

pub returns-in-Err-clause-tells : goal.returns-in-Err-clause-tells
returns-in-Err-clause-tells c = unread_tells c.args.types.now c.args.text.now c.in-Err.stop c.in-Err.ensures.tells

pub returns-in-Err-clause-only : goal.returns-in-Err-clause-only
returns-in-Err-clause-only c = unread_only c.args.types.now c.args.text.now c.in-Err.stop c.in-Err.ensures.only

pub returns-in-Ok-check_rules-clause-tells : goal.returns-in-Ok-check_rules-clause-tells
returns-in-Ok-check_rules-clause-tells c = right_tells c.args.types.now c.args.text.now c.in-Ok.rules c.in-Ok.ensures.tells c.in-Ok.ensures.only c.in-Ok-check_rules.ensures.tells

pub returns-in-Ok-check_rules-clause-only : goal.returns-in-Ok-check_rules-clause-only
returns-in-Ok-check_rules-clause-only c = right_only c.args.types.now c.args.text.now c.in-Ok.rules c.in-Ok.ensures.tells c.in-Ok.ensures.only c.in-Ok-check_rules.ensures.tells

pub returns-in-Err-check_rules-clause-tells : goal.returns-in-Err-check_rules-clause-tells
returns-in-Err-check_rules-clause-tells c = wrong_tells c.args.types.now c.args.text.now c.in-Ok.rules c.in-Ok.ensures.tells c.in-Ok.ensures.only c.in-Err-check_rules.stop c.in-Err-check_rules.ensures.tells

pub returns-in-Err-check_rules-clause-only : goal.returns-in-Err-check_rules-clause-only
returns-in-Err-check_rules-clause-only c = wrong_only c.args.types.now c.args.text.now c.in-Ok.rules c.in-Ok.ensures.tells c.in-Ok.ensures.only c.in-Err-check_rules.stop c.in-Err-check_rules.ensures.only
