use Rattle.std.proofs.Common.{ap, ◌∙◌}
use Rattle.xdg_nodeset.specs.Nodes.{without}
use Rattle.xdg_nodeset.proofs.Standing.{without_same, without_has}
use Rattle.xdg_nodeset.proofs.Masks.{without_bits, members_are_nodes}
use Rattle.xdg_nodeset.proofs.set.NodeSet.remove.Goals as goal
use Rattle.xdg_facts.specs.BitSets.{members}

pub returns-clause-value : goal.returns-clause-value
returns-clause-value c = without_bits c.self.inside.bits c.args.node.0 c.requires ∙ ap (λ s. without s c.args.node.0) c.self.view_is

pub returns-clause-same : goal.returns-clause-same
returns-clause-same c = rw (without_bits c.self.inside.bits c.args.node.0 c.requires, c.contains-had.ensures.value, ← c.self.view_is) (without_same (members c.self.inside.bits) c.args.node.0 (members_are_nodes c.self.inside.bits) c.requires)

pub returns-clause-members : goal.returns-clause-members
returns-clause-members c = rw (without_bits c.self.inside.bits c.args.node.0 c.requires, ← c.self.view_is) (without_has (members c.self.inside.bits) c.args.node.0 (members_are_nodes c.self.inside.bits))
