use Rattle.xdg_nodeset.proofs.Standing.{between_has}
use Rattle.xdg_nodeset.proofs.Masks.{between_bits}
use Rattle.xdg_nodeset.proofs.set.NodeSet.between.Goals as goal
use Rattle.xdg_facts.proofs.BitMembers.{between_rises}

pub overflow_sub-from_low : goal.overflow_sub-from_low
overflow_sub-from_low c = rw (c.min-low.ensures, c.max-high.ensures) (between_rises c.args.a.0 c.args.b.0 c.requires.0 c.requires.1)

pub returns-clause-value : goal.returns-clause-value
returns-clause-value c = rw (c.min-low.ensures, c.max-high.ensures) (between_bits c.args.a.0 c.args.b.0 c.requires.0 c.requires.1)

pub returns-clause-members : goal.returns-clause-members
returns-clause-members c = rw (c.min-low.ensures, c.max-high.ensures, between_bits c.args.a.0 c.args.b.0 c.requires.0 c.requires.1) (between_has c.args.a.0 c.args.b.0 c.requires.0 c.requires.1)
