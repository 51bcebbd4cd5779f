use Rattle.std.proofs.Common.{ap₂, ◌∙◌}
use Rattle.xdg_nodeset.specs.Nodes.{minus}
use Rattle.xdg_nodeset.proofs.Standing.{minus_has}
use Rattle.xdg_nodeset.proofs.Masks.{members_are_nodes, minus_bits}
use Rattle.xdg_nodeset.proofs.set.NodeSet.minus.Goals as goal
use Rattle.xdg_facts.specs.BitSets.{members}

pub returns-clause-value : goal.returns-clause-value
returns-clause-value c = minus_bits c.self.inside.bits c.other.inside.bits c.other.invariant ∙ ap₂ minus c.self.view_is c.other.view_is

pub returns-clause-members : goal.returns-clause-members
returns-clause-members c = rw (minus_bits c.self.inside.bits c.other.inside.bits c.other.invariant, ← c.self.view_is, ← c.other.view_is) (minus_has (members c.self.inside.bits) (members c.other.inside.bits) (members_are_nodes c.self.inside.bits))
