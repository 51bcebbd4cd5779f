use Rattle.std.proofs.Common.{refl}
use Rattle.xdg_nodeset.proofs.TableSets.{no_in, no_by}
use Rattle.xdg_judge.proofs.links.Neighbours.none.Goals as goal

pub returns-clause-by_label : goal.returns-clause-by_label
returns-clause-by_label c = no_by _ 128 32 c.empty.result refl c.empty.ensures.value

pub returns-clause-next : goal.returns-clause-next
returns-clause-next c = no_in _ 128 c.empty-2.result refl c.empty-2.ensures.value
