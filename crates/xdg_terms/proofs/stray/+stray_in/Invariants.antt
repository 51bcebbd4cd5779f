use Rattle.std.proofs.Common.{◌≡◌, drop}
use Rattle.std.specs.List.{flat_map}
use Rattle.xdg_names.specs.First.{first, earlier}
use Rattle.xdg_terms.specs.Stray.{stray}
use Rattle.xdg_terms.proofs.Straying.{in_elem}
use Rattle.xdg_terms.proofs.stray.+stray_in.Given as goal

abbrev pub invariant-stray_in-loop-elem : goal.invariant-stray_in-loop-elem
invariant-stray_in-loop-elem l = earlier l.found (first (flat_map (stray l.params) (flat_map in_elem (drop l.elem-index l.elem-items)))) ≡ first (flat_map (stray l.params) (flat_map in_elem l.elem-items))
