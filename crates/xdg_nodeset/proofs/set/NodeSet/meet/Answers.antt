use Rattle.std.proofs.Common.{ap₂, ◌∙◌}
use Rattle.xdg_nodeset.specs.Nodes.{meet}
use Rattle.xdg_nodeset.proofs.Standing.{meet_has}
use Rattle.xdg_nodeset.proofs.Masks.{members_are_nodes}
use Rattle.xdg_facts.proofs.BitMembers.{meet_bits}
use Rattle.xdg_nodeset.proofs.set.NodeSet.meet.Goals as goal
use Rattle.xdg_facts.specs.BitSets.{members}

pub returns-clause-value : goal.returns-clause-value
returns-clause-value c = meet_bits c.self.inside.bits c.other.inside.bits ∙ ap₂ meet c.self.view_is c.other.view_is

pub returns-clause-members : goal.returns-clause-members
returns-clause-members c = rw (meet_bits c.self.inside.bits c.other.inside.bits, ← c.self.view_is, ← c.other.view_is) (meet_has (members c.self.inside.bits) (members c.other.inside.bits) (members_are_nodes c.self.inside.bits))
