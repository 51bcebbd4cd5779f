use Rattle.std.proofs.Common.{◌≡◌, ◌++◌, drop}
use Rattle.xdg_domain.specs.Shapes.{shape}
use Rattle.xdg_terms.specs.Built.{listed}
use Rattle.xdg_terms.proofs.set_values.listed.Given as goal

abbrev pub invariant-loop-elem : goal.invariant-loop-elem
invariant-loop-elem l = l.numbers.items ++ listed (shape l.fn.ty) (drop l.elem-index l.elems) ≡ listed (shape l.fn.ty) l.fn.elems
