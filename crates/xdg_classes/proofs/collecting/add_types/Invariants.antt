use Rattle.std.proofs.Common.{take}
use Rattle.std.specs.List.{flat_map}
use Rattle.xdg_domain.specs.Shapes.{shape}
use Rattle.xdg_terms.specs.Wanted.{params_in}
use Rattle.xdg_classes.specs.Given as spec
use Rattle.xdg_classes.proofs.collecting.add_types.Given as goal

abbrev pub invariant-loop-ty : goal.invariant-loop-ty
invariant-loop-ty l = spec.Grows l.initial.wants l.wants (flat_map (λ ty. params_in l.params (shape ty.now) l.term) (take l.ty-index l.types))
