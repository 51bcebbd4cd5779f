use Rattle.std.proofs.Common.{◌≡◌, map, take}
use Rattle.xdg_formula.specs.Written.{tree}
use Rattle.xdg_build.specs.Formulas.{formula_in}
use Rattle.xdg_build.proofs.formulas.+formula.Given as goal

abbrev pub invariant-formulas_of-loop-member : goal.invariant-formulas_of-loop-member
invariant-formulas_of-loop-member l = l.made ≡ map (λ term. formula_in l.types l.packed l.problem (map (λ text. text.now) l.bound) (tree term.kind)) (take l.member-index l.members)
