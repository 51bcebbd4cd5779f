use Rattle.std.proofs.Common.{◌≡◌, take}
use Rattle.xdg_principles.specs.Lent.{member_names}
use Rattle.xdg_principles.proofs.lookup.all_names.Given as goal

abbrev pub invariant-loop-dim : goal.invariant-loop-dim
invariant-loop-dim l = l.all ≡ member_names l.sort (take l.dim-index l.dims)
