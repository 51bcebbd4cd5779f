use Rattle.xdg_propcore.specs.Standing.{box_at}
use Rattle.xdg_formula_value.specs.Lost.{AllLast}
use Rattle.xdg_formula_value.proofs.kept.lasting.Given as goal

abbrev pub invariant-loop-label : goal.invariant-loop-label
invariant-loop-label l = AllLast l.which l.store.parts (box_at l.store l.since) l.store.now l.dim.0 l.mother.0 l.row
