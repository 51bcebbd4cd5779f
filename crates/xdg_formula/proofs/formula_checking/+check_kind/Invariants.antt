use Rattle.std.proofs.Common.{◌≡◌, drop, map}
use Rattle.std.specs.List.{flat_map}
use Rattle.xdg_names.specs.First.{first, earlier}
use Rattle.xdg_formula.specs.Formulas.{formula_faults}
use Rattle.xdg_formula.specs.Tables.{used_dims}
use Rattle.xdg_formula.proofs.formula_checking.+check_kind.Given as goal

abbrev pub invariant-loop-member : goal.invariant-loop-member
invariant-loop-member l =
    earlier l.found (first (flat_map (formula_faults (used_dims l.types) (map (λ text. text.now) l.bound)) (drop l.member-index l.member-items))) ≡ first (flat_map (formula_faults (used_dims l.types) (map (λ text. text.now) l.bound)) l.member-items)

abbrev pub invariant-loop-part : goal.invariant-loop-part
invariant-loop-part l =
    earlier l.found (first (flat_map (formula_faults (used_dims l.types) (map (λ text. text.now) l.bound)) (drop l.part-index l.part-items))) ≡ first (flat_map (formula_faults (used_dims l.types) (map (λ text. text.now) l.bound)) l.part-items)
