use Rattle.std.proofs.Common.{subst}
use Rattle.xdg_names.specs.First.{Tells as TellsFault}
use Rattle.xdg_check.specs.Answers.{ValueOffends}
use Rattle.xdg_check.proofs.Assembled.{value_refuses, lex_refuses}
use Rattle.xdg_check.proofs.passes.ordered.Goals as goal

pub returns-in-Some-clause-tells : goal.returns-in-Some-clause-tells
returns-in-Some-clause-tells c =
    value_refuses c.args.statements.now c.args.table c.in-Some.fault c.requires.named c.requires.ordered.acyclic (subst (TellsFault (ValueOffends c.args.statements.now c.args.table)) c.in-Some.is c.in_ok-fault.ensures)

pub returns-in-Err-clause-tells : goal.returns-in-Err-clause-tells
returns-in-Err-clause-tells c =
    lex_refuses c.args.statements.now c.args.table c.in-Err.fault c.requires.named c.requires.ordered.acyclic
    (subst (TellsFault (ValueOffends c.args.statements.now c.args.table)) c.in-None.is c.in_ok-fault.ensures) c.in-Err.ensures.refused
