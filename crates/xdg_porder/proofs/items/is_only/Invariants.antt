use Rattle.xdg_graph.specs.Slots.{decision_of}
use Rattle.xdg_porder.proofs.Following.{NoOther}
use Rattle.xdg_porder.proofs.items.is_only.Given as goal

abbrev pub invariant-loop-other : goal.invariant-loop-other
invariant-loop-other l = NoOther l.store.now (decision_of l.store.parts l.slot) l.value l.other
