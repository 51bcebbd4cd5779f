use Rattle.xdg_graph.proofs.Adding.{Adds}
use Rattle.xdg_graph.proofs.Ahead.{Ahead}
use Rattle.xdg_graph.proofs.tables.add_all.Given as goal

abbrev pub invariant-loop-mother : goal.invariant-loop-mother
invariant-loop-mother l =
    (goal.iterator-loop-mother).can_next l.mother-iterator
    × (goal.iterator-loop-mother).is_finite l.mother-iterator
    × Ahead l.mother-iterator
    × Adds l.fn.mothers l.mother-iterator l.daughter.0 l.fn.table l.table
