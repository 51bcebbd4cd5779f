use Rattle.std.proofs.Common.{◌≡◌, map, take}
use Rattle.xdg_domain.specs.Shapes.{shape}
use Rattle.xdg_classes.proofs.same.+same_type.Given as goal
use Rattle.xdg_domain.specs.Sized.{shape_of_field}

abbrev pub invariant-same_fields-loop-at : goal.invariant-same_fields-loop-at
invariant-same_fields-loop-at l = map shape_of_field (take l.at l.one) ≡ map shape_of_field (take l.at l.other)

abbrev pub invariant-same_types-loop-at : goal.invariant-same_types-loop-at
invariant-same_types-loop-at l = map shape (take l.at l.one) ≡ map shape (take l.at l.other)
