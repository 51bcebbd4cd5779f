use Rattle.xdg_propcore.specs.Standing.{box_at}
use Rattle.xdg_formula_value.proofs.Keeping.{KeepPaths}
use Rattle.xdg_formula_value.proofs.kept.are_paths_kept.Given as goal

abbrev pub invariant-loop-decision : goal.invariant-loop-decision
invariant-loop-decision l = KeepPaths l.store.parts (box_at l.store l.since) l.store.now l.decision-items l.dim.0 l.decision-index
