use Rattle.std.proofs.Common.{subst}
use Rattle.xdg_check.specs.Answers.{Tells}
use Rattle.xdg_check.proofs.Only.{only_answer}
use Rattle.xdg_check.proofs.passes.check.Goals as goal

pub returns-clause-tells : goal.returns-clause-tells
returns-clause-tells c = subst (λ statements. Tells statements c.args.table c.check_statements.result) c.as_slice.ensures c.check_statements.ensures.tells

pub returns-clause-only : goal.returns-clause-only
returns-clause-only c = λ answer is. only_answer c.args.grammar.now.statements c.args.table answer c.check_statements.result is (returns-clause-tells c)
