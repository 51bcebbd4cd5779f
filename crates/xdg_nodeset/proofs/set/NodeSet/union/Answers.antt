use Rattle.std.proofs.Common.{ap₂, ◌∙◌}
use Rattle.std.proofs.lemmas.Nat.{or_lt}
use Rattle.xdg_nodeset.specs.Nodes.{union}
use Rattle.xdg_nodeset.proofs.Standing.{union_has}
use Rattle.xdg_nodeset.proofs.Masks.{members_are_nodes, union_bits}
use Rattle.xdg_nodeset.proofs.set.NodeSet.union.Goals as goal
use Rattle.xdg_facts.specs.BitSets.{members}

pub invariant_of-result : goal.invariant_of-result
invariant_of-result c = or_lt 128 c.self.inside.bits c.other.inside.bits c.self.invariant c.other.invariant

pub returns-clause-value : goal.returns-clause-value
returns-clause-value c = union_bits c.self.inside.bits c.other.inside.bits ∙ ap₂ union c.self.view_is c.other.view_is

pub returns-clause-members : goal.returns-clause-members
returns-clause-members c = rw (union_bits c.self.inside.bits c.other.inside.bits, ← c.self.view_is, ← c.other.view_is) (union_has (members c.self.inside.bits) (members c.other.inside.bits) (members_are_nodes c.self.inside.bits) (members_are_nodes c.other.inside.bits))
