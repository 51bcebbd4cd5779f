use Rattle.xdg_types.proofs.SeenTurns.{again_mapped}
use Rattle.xdg_types.proofs.names.keys_seen.Goals as goal

pub loop-pair-preserved : goal.loop-pair-preserved
loop-pair-preserved g c =
    again_mapped _ _ _ _ _ _ _ _ _ _ _ c.loop-pair-test.true c.pair-item.is c.in_ok-repeated.ensures.found c.in_ok-repeated.ensures.seen c.earlier-found.ensures c.loop-pair.invariant
