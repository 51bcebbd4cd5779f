use Rattle.xdg_types.proofs.FaultTurns.{joined_turn}
use Rattle.xdg_typing.proofs.kinds.check_parts.Goals as goal

pub loop-part-preserved : goal.loop-part-preserved
loop-part-preserved c = λ names known. joined_turn _ _ _ _ _ _ _ _ _ c.loop-part-test.true c.part-item.is (c.in_ok-check_part.ensures names known) c.earlier-found.ensures (c.loop-part.invariant names known)
