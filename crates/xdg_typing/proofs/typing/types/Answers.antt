use Rattle.std.proofs.Common.{subst}
use Rattle.xdg_types.specs.Answers.{Tells}
use Rattle.xdg_typing.proofs.Only.{only_answer}
use Rattle.xdg_typing.proofs.typing.types.Goals as goal

pub returns-clause-tells : goal.returns-clause-tells
returns-clause-tells c = subst (λ statements. Tells statements c.types_of.result) c.as_slice.ensures c.types_of.ensures.tells

pub returns-clause-only : goal.returns-clause-only
returns-clause-only c = λ answer is. only_answer c.args.grammar.now.statements answer c.types_of.result is (returns-clause-tells c)
