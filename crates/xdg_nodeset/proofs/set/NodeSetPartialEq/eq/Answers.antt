use Rattle.std.proofs.Common.{ap₂, ◌∙◌}
use Rattle.std.specs.Prelude.{nat_eq}
use Rattle.std.specs.Cmp.Lexicographic.{pointwise}
use Rattle.xdg_nodeset.proofs.set.NodeSetPartialEq.eq.Goals as goal
use Rattle.xdg_facts.proofs.BitMembers.{same_bits}

pub returns : goal.returns
returns c = same_bits c.self.inside.bits c.other.inside.bits c.self.invariant c.other.invariant ∙ ap₂ (pointwise nat_eq) c.self.view_is c.other.view_is
