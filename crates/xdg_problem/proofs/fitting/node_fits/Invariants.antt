use Rattle.std.proofs.Common.{◌↔◌, drop, map, length}
use Rattle.xdg_facts.specs.Fits.{Fits}
use Rattle.xdg_problem.specs.declared.parts.AttrPlan.{AttrPlan}
use Rattle.xdg_problem.proofs.fitting.node_fits.Given as goal

abbrev pub invariant-loop-k : goal.invariant-loop-k
invariant-loop-k l = Fits (drop l.k (map (λ (attr : AttrPlan). length attr.values) l.attrs)) (drop l.k l.values) ↔ Fits (map (λ (attr : AttrPlan). length attr.values) l.attrs) l.values
