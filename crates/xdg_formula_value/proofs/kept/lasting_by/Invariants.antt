use Rattle.std.proofs.Common.{◌≡◌, ℕ, true}
use Rattle.xdg_problem.specs.Paths.{IsDaughterBy}
use Rattle.xdg_graph.specs.Edges.{edges_of}
use Rattle.xdg_formula_value.proofs.Keeping.{NoneOfEdge}
use Rattle.xdg_formula_value.proofs.kept.lasting_by.Given as goal
use Rattle.xdg_facts.specs.Rises.{has}

abbrev pub invariant-loop-decision : goal.invariant-loop-decision
invariant-loop-decision l = (x : ℕ) → has l.row x ≡ true
    → IsDaughterBy (edges_of l.fn.which l.store.parts l.store.now l.dim.0) l.mother.0 l.label.0 x × NoneOfEdge l.decision-items l.dim.0 l.mother.0 l.label.0 l.decision-index x
