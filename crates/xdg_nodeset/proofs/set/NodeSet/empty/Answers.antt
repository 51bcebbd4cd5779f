use Rattle.xdg_nodeset.proofs.Masks.{members_are_nodes}
use Rattle.xdg_facts.proofs.BitMembers.{empty_bits}
use Rattle.xdg_nodeset.proofs.set.NodeSet.empty.Goals as goal

pub returns : goal.returns
returns c = record { value = empty_bits; nodes = members_are_nodes 0 }
