use Rattle.std.proofs.Common.{◌*◌, ◌%◌, bit_or}
use Rattle.xdg_nodeset.proofs.Joined.{joined_has}
use Rattle.xdg_nodeset.proofs.Masks.{members_are_nodes}
use Rattle.xdg_nodeset.proofs.set.NodeSet.from_words.Goals as goal

pub returns-clause-members : goal.returns-clause-members
returns-clause-members c n = rw (c.from.ensures, c.from-2.ensures) (joined_has c.args.low c.args.high n c.ranges.low.fits c.ranges.high.fits)

pub returns-clause-nodes : goal.returns-clause-nodes
returns-clause-nodes c = members_are_nodes (bit_or c.from.result (c.from-2.result * 18446744073709551616 % 340282366920938463463374607431768211456))
