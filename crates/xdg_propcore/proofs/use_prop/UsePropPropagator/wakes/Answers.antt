use Rattle.std.proofs.Common.{inr}
use Rattle.xdg_propcore.specs.Uses.{use_at}
use Rattle.xdg_propcore.proofs.NamedKinds.{kind_named}
use Rattle.xdg_propcore.proofs.use_prop.UsePropPropagator.wakes.Goals as goal

pub returns-clause-named : goal.returns-clause-named
returns-clause-named g c parts number stands kind bit = inr (kind_named parts (use_at parts number) kind (stands.1.kinds.only kind bit))
