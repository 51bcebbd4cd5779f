use Rattle.std.proofs.Common.{◌≡◌, drop}
use Rattle.xdg_terms.specs.Forms.{counted_elem}
use Rattle.xdg_terms.specs.Built.{first_for}
use Rattle.xdg_terms.proofs.parts.card_for.Given as goal

abbrev pub invariant-loop-elem : goal.invariant-loop-elem
invariant-loop-elem l = first_for counted_elem (drop l.elem-index l.elems) l.name ≡ first_for counted_elem l.elems l.name
