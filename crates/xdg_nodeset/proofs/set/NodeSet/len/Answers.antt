use Rattle.std.proofs.Common.{length, ap, ◌∙◌}
use Rattle.xdg_nodeset.proofs.Masks.{members_are_nodes}
use Rattle.xdg_nodeset.proofs.set.NodeSet.len.Goals as goal
use Rattle.xdg_facts.proofs.BitMembers.{counted}

pub returns : goal.returns
returns c = record { value = counted c.self.inside.bits c.self.invariant ∙ ap length c.self.view_is; nodes = rw (← c.self.view_is) (members_are_nodes c.self.inside.bits) }
