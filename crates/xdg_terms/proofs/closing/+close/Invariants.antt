use Rattle.std.proofs.Common.{◌≡◌, ◌++◌, map, take}
use Rattle.xdg_terms.specs.Closed.{closing_elem}
use Rattle.xdg_terms.proofs.closing.+close.Given as goal

abbrev pub invariant-close_elems-loop-elem : goal.invariant-close_elems-loop-elem
invariant-close_elems-loop-elem l = l.made ≡ l.initial.made ++ map (closing_elem l.bindings) (take l.elem-index l.elems)
