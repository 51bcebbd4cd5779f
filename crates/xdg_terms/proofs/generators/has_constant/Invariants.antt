use Rattle.std.proofs.Common.{◌≡◌, drop}
use Rattle.xdg_base.specs.Texts.{has_text}
use Rattle.xdg_domain.specs.Sized.{sizes_of}
use Rattle.xdg_domain.specs.Tuples.{InRange}
use Rattle.xdg_terms.specs.Built.{constants_each}
use Rattle.xdg_terms.specs.Means.{chosen}
use Rattle.xdg_terms.proofs.generators.has_constant.Given as goal

abbrev pub invariant-loop-i : goal.invariant-loop-i
invariant-loop-i l =
    InRange (sizes_of (drop l.i l.fields)) (drop l.i l.tuple)
    × (has_text (chosen (constants_each (drop l.i l.fields)) (drop l.i l.tuple)) l.name ≡ has_text (chosen (constants_each l.fields) l.tuple) l.name)
