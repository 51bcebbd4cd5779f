use Rattle.std.proofs.Common.{◌≡◌, ◌++◌, map, reverse, length}
use Rattle.xdg_problem.specs.declared.parts.Principle.TheVariants as principles
use Rattle.xdg_problem.specs.Further.{bare_use}
use Rattle.xdg_problem.proofs.with_rules.rules_turned.Given as goal

abbrev pub invariant-loop-formula : goal.invariant-loop-formula
invariant-loop-formula l = l.made ++ reverse (map (λ formula. bare_use l.feats (principles.Rule formula)) l.formulas) ≡ reverse (map (λ formula. bare_use l.feats (principles.Rule formula)) l.initial.formulas)

abbrev pub decreases-loop-formula : goal.decreases-loop-formula
decreases-loop-formula l = length l.formulas
