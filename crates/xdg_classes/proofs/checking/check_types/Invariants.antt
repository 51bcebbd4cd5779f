use Rattle.std.proofs.Common.{take}
use Rattle.xdg_domain.specs.Shapes.{shape}
use Rattle.xdg_names.specs.First.{Tells}
use Rattle.xdg_terms.specs.Offences.{OpenOffends}
use Rattle.xdg_classes.specs.Wrong as wrong
use Rattle.xdg_classes.proofs.checking.check_types.Given as goal

abbrev pub invariant-loop-ty : goal.invariant-loop-ty
invariant-loop-ty l = Tells (wrong.SomeOf (take l.ty-index l.types) (λ ty f. OpenOffends l.params (shape ty.now) l.term f)) l.found
