use Rattle.std.proofs.Common.{inl, subst}
use Rattle.xdg_names.specs.First.{Tells as TellsFault}
use Rattle.xdg_check.specs.Answers.{NameOffends}
use Rattle.xdg_check.proofs.passes.check_statements.Goals as goal

pub returns-in-Some-clause-tells : goal.returns-in-Some-clause-tells
returns-in-Some-clause-tells c = inl (subst (TellsFault (NameOffends c.args.statements.now c.args.table)) c.in-Some.is c.in_ok-fault.ensures)
