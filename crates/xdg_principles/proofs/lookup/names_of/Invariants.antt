use Rattle.std.proofs.Common.{◌≡◌, take}
use Rattle.xdg_types.specs.Table.{firsts}
use Rattle.xdg_principles.proofs.lookup.names_of.Given as goal

abbrev pub invariant-loop-member : goal.invariant-loop-member
invariant-loop-member l = l.all ≡ firsts (take l.member-index l.members)
