use Rattle.std.proofs.Common.{inl, subst}
use Rattle.xdg_names.specs.First.{Tells as TellsFault}
use Rattle.xdg_types.specs.Names.{NameOffends}
use Rattle.xdg_typing.proofs.typing.types_of.Goals as goal

pub returns-in-Some-clause-tells : goal.returns-in-Some-clause-tells
returns-in-Some-clause-tells c = inl (subst (TellsFault (NameOffends c.args.statements.now)) c.in-Some.is c.in_ok-fault.ensures)
