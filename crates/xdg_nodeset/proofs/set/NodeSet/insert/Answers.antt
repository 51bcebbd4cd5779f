use Rattle.std.proofs.Common.{◌*◌, ◌%◌, ◌^◌, ap, ◌∙◌, arith}
use Rattle.std.proofs.lemmas.Nat.{or_lt}
use Rattle.xdg_nodeset.specs.Nodes.{with_node}
use Rattle.xdg_nodeset.proofs.Standing.{with_same, with_has}
use Rattle.xdg_nodeset.proofs.Masks.{members_are_nodes}
use Rattle.xdg_facts.proofs.BitMembers.{with_bits}
use Rattle.xdg_nodeset.proofs.set.NodeSet.insert.Goals as goal
use Rattle.xdg_facts.specs.BitSets.{members}

pub invariant_of-self : goal.invariant_of-self
invariant_of-self c = or_lt 128 c.self.inside.bits (1 * 2 ^ c.args.node.0 % 2 ^ 128) c.self.invariant (omega arith)

pub returns-clause-value : goal.returns-clause-value
returns-clause-value c = with_bits c.self.inside.bits c.args.node.0 c.requires ∙ ap (λ s. with_node s c.args.node.0) c.self.view_is

pub returns-clause-same : goal.returns-clause-same
returns-clause-same c = rw (with_bits c.self.inside.bits c.args.node.0 c.requires, c.contains-had.ensures.value, ← c.self.view_is) (with_same (members c.self.inside.bits) c.args.node.0 (members_are_nodes c.self.inside.bits) c.requires)

pub returns-clause-members : goal.returns-clause-members
returns-clause-members c = rw (with_bits c.self.inside.bits c.args.node.0 c.requires, ← c.self.view_is) (with_has (members c.self.inside.bits) c.args.node.0 (members_are_nodes c.self.inside.bits) c.requires)
