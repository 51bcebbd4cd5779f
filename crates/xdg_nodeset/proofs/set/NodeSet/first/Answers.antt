use Rattle.std.proofs.Common.{ap, sym, ◌∙◌, arith}
use Rattle.xdg_nodeset.proofs.Masks.{members_are_nodes, first_bit}
use Rattle.xdg_facts.proofs.BitMembers.{empty_bits}
use Rattle.xdg_nodeset.proofs.set.NodeSet.first.Goals as goal
use Rattle.xdg_facts.specs.BitSets.{members}

pub returns-then-self-eq0 : goal.returns-then-self-eq0
returns-then-self-eq0 c = record { value = sym c.self.view_is ∙ ap members c.if-self-eq0.true ∙ empty_bits; nodes = rw (← c.self.view_is) (members_are_nodes c.self.inside.bits) }

pub returns : goal.returns
returns c = rw (← c.self.view_is) (record { value = first_bit c.self.inside.bits (omega (arith, c.if-self-eq0.false)) c.self.invariant; nodes = members_are_nodes c.self.inside.bits })
