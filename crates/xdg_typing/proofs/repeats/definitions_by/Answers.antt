use Rattle.xdg_types.proofs.SeenTurns.{again_named}
use Rattle.xdg_typing.proofs.repeats.definitions_by.Goals as goal

pub loop-part-preserved : goal.loop-part-preserved
loop-part-preserved c =
    again_named _ _ _ _ _ _ _ _ _ _ _ _ c.loop-part-test.true c.part-item.is c.in_ok-definition_again.ensures.found c.in_ok-definition_again.ensures.seen c.earlier-found.ensures c.loop-part.invariant
