use Rattle.std.proofs.Common.{inr, subst}
use Rattle.xdg_names.specs.First.{Tells as TellsFault}
use Rattle.xdg_types.specs.Kinds.{KindOffends}
use Rattle.xdg_typing.proofs.typing.named.Goals as goal

pub returns-in-Some-clause-tells : goal.returns-in-Some-clause-tells
returns-in-Some-clause-tells c =
    let known = c.in-Ok.ensures.tells in
    inr (inr (record {
      named = c.requires;
      acyclic = known.acyclic;
      names = known.names;
      resolves = known.resolves;
      only = known.only;
      first = subst (TellsFault (KindOffends known.names c.args.statements.now)) c.in-Some.is (c.in_ok-fault-in-Ok.ensures known.names known.knows);
    }))
