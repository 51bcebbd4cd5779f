use Rattle.xdg_propcore.specs.Standing.{box_at}
use Rattle.xdg_formula_value.specs.Lost.{AllLast}
use Rattle.xdg_formula_value.proofs.kept.leads.Given as goal

abbrev pub invariant-loop-turn : goal.invariant-loop-turn
invariant-loop-turn l = AllLast l.which l.store.parts (box_at l.store l.since) l.store.now l.edge.dim.0 l.edge.mother.0 l.reached × AllLast l.which l.store.parts (box_at l.store l.since) l.store.now l.edge.dim.0 l.edge.mother.0 l.ahead
