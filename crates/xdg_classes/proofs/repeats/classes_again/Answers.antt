use Rattle.std.proofs.Common.{map, refl}
use Rattle.xdg_classes.specs.Definitions.{class_names}
use Rattle.xdg_classes.specs.Lent.{class_def}
use Rattle.xdg_types.proofs.SeenTurns.{again_one}
use Rattle.xdg_classes.proofs.repeats.classes_again.Goals as goal

pub loop-definition-preserved : goal.loop-definition-preserved
loop-definition-preserved c =
    again_one _ _ _ _ _ _ _ _ _ _ (λ xs. class_names (map class_def xs)) c.definition-item.result.name.now (λ xs. refl)
    c.loop-definition-test.true c.definition-item.is c.in_ok-repeated.ensures.found c.in_ok-repeated.ensures.seen c.earlier-found.ensures c.loop-definition.invariant
