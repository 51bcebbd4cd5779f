use Rattle.std.proofs.Common.{take}
use Rattle.std.specs.Prelude.{All}
use Rattle.xdg_porder.specs.Lasting.{MayOn}
use Rattle.xdg_porder.proofs.lasting.all_may.Given as goal

abbrev pub invariant-loop-decision : goal.invariant-loop-decision
invariant-loop-decision l = All (MayOn l.store.parts l.store.now l.dim.0) (take l.decision-index l.decisions)
