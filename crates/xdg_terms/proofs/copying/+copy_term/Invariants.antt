use Rattle.std.proofs.Common.{◌≡◌, ◌++◌, take}
use Rattle.xdg_terms.proofs.copying.+copy_term.Given as goal

abbrev pub invariant-add_elems-loop-elem : goal.invariant-add_elems-loop-elem
invariant-add_elems-loop-elem l = l.made ≡ l.initial.made ++ take l.elem-index l.elems
