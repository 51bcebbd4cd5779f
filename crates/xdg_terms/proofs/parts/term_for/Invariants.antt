use Rattle.std.proofs.Common.{◌≡◌, drop}
use Rattle.xdg_terms.specs.Forms.{keyed_elem}
use Rattle.xdg_terms.specs.Built.{first_for}
use Rattle.xdg_terms.proofs.parts.term_for.Given as goal

abbrev pub invariant-loop-elem : goal.invariant-loop-elem
invariant-loop-elem l = first_for keyed_elem (drop l.elem-index l.elems) l.name ≡ first_for keyed_elem l.elems l.name
