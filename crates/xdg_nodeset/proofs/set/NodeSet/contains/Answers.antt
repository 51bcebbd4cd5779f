use Rattle.std.proofs.Common.{ap, ◌∙◌}
use Rattle.xdg_nodeset.proofs.Masks.{members_are_nodes}
use Rattle.xdg_nodeset.proofs.set.NodeSet.contains.Goals as goal
use Rattle.xdg_facts.specs.Rises.{has}
use Rattle.xdg_facts.proofs.BitMembers.{contains_bits}

pub returns : goal.returns
returns c = record { value = contains_bits c.self.inside.bits c.args.node.0 c.requires ∙ ap (λ s. has s c.args.node.0) c.self.view_is; nodes = rw (← c.self.view_is) (members_are_nodes c.self.inside.bits) }
