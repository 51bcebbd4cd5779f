use Rattle.std.proofs.Common.{◌≡◌, drop}
use Rattle.xdg_terms.specs.Forms as spec
use Rattle.xdg_terms.specs.Offences.{is_some}
use Rattle.xdg_terms.proofs.forms.each_bracketed.Given as goal

abbrev pub invariant-loop-elem : goal.invariant-loop-elem
invariant-loop-elem l = is_some (spec.all_of (spec.bracketed_elem l.wanted) (drop l.elem-index l.elems)) ≡ is_some (spec.all_of (spec.bracketed_elem l.wanted) l.elems)
