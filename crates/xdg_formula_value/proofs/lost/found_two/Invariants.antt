use Rattle.xdg_problem.specs.Claims.{claim}
use Rattle.xdg_problem.specs.Places.{nodes}
use Rattle.xdg_formula_value.specs.Rows.{AreFirst}
use Rattle.xdg_problem.specs.Truths.{stands}
use Rattle.xdg_formula_value.proofs.Finding.{NonePassed}
use Rattle.xdg_formula_value.proofs.lost.found_two.Given as goal

abbrev pub invariant-loop-node : goal.invariant-loop-node
invariant-loop-node l =
    (goal.iterator-loop-node).can_next l.node-iterator
    × (goal.iterator-loop-node).is_finite l.node-iterator
    × AreFirst (nodes l.store.parts) l.node-iterator
    × NonePassed l.store.parts l.store.now (claim l.formula) l.truth (stands l.binding) l.name l.other l.initial.node-iterator l.node-iterator
