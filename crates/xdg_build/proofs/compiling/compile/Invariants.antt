use Rattle.std.proofs.Common.{◌≡◌, map, take, []}
use Rattle.xdg_formula.specs.Written.{tree}
use Rattle.xdg_build.specs.Formulas.{formula_in}
use Rattle.xdg_build.proofs.compiling.compile.Given as goal

abbrev pub invariant-loop-rule : goal.invariant-loop-rule
invariant-loop-rule l = l.made ≡ map (λ rule. formula_in l.types l.packed l.problem [] (tree rule.body.kind)) (take l.rule-index l.rule-items)
