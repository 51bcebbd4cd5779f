use Rattle.std.proofs.Common.{◌≡◌, [], drop}
use Rattle.std.specs.List.{flat_map}
use Rattle.xdg_names.specs.First.{first, earlier}
use Rattle.xdg_formula.specs.Formulas.{formula_faults}
use Rattle.xdg_formula.specs.Tables.{used_dims}
use Rattle.xdg_formula.proofs.checking.check_bodies.Given as goal

abbrev pub invariant-loop-rule : goal.invariant-loop-rule
invariant-loop-rule l =
    earlier l.found (first (flat_map (λ rule. formula_faults (used_dims l.types) [] rule.body) (drop l.rule-index l.rules))) ≡ first (flat_map (λ rule. formula_faults (used_dims l.types) [] rule.body) l.rules)
