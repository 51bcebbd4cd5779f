use Rattle.xdg_nodeset.proofs.Masks.{members_are_nodes}
use Rattle.xdg_nodeset.proofs.set.NodeSet.iter.Goals as goal

pub returns-clause-nodes : goal.returns-clause-nodes
returns-clause-nodes c = rw (← c.self.view_is) (members_are_nodes c.self.inside.bits)
