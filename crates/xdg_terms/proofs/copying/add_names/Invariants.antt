use Rattle.std.proofs.Common.{◌≡◌, ◌++◌, take}
use Rattle.xdg_terms.proofs.copying.add_names.Given as goal

abbrev pub invariant-loop-name : goal.invariant-loop-name
invariant-loop-name l = l.made ≡ l.initial.made ++ take l.name-index l.names
