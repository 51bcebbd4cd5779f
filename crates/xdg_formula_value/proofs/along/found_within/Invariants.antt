use Rattle.xdg_problem.specs.Claims.{claim}
use Rattle.xdg_problem.specs.Places.{nodes}
use Rattle.xdg_formula_value.specs.Rows.{AreFirst}
use Rattle.xdg_formula_value.proofs.Within.{NoneBut}
use Rattle.xdg_formula_value.proofs.along.found_within.Given as goal

abbrev pub invariant-loop-node : goal.invariant-loop-node
invariant-loop-node l =
    (goal.iterator-loop-node).can_next l.node-iterator
    × (goal.iterator-loop-node).is_finite l.node-iterator
    × AreFirst (nodes l.store.parts) l.node-iterator
    × NoneBut l.store.parts l.store.now (claim l.formula) l.truth l.fn.free l.fn.names l.name l.fn.ends l.node-iterator
