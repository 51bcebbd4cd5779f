use Rattle.std.proofs.Common.{[], refl}
use Rattle.std.specs.List.{flat_map}
use Rattle.xdg_names.proofs.First.{first_turn}
use Rattle.xdg_formula.specs.declared.tree.Rule.{Rule}
use Rattle.xdg_formula.specs.Formulas.{formula_faults}
use Rattle.xdg_formula.specs.Tables.{used_dims}
use Rattle.xdg_formula.proofs.checking.check_bodies.Goals as goal

pub loop-rule-preserved : goal.loop-rule-preserved
loop-rule-preserved c =
    let u = λ (rule : Rule). formula_faults (used_dims c.args.types.now) [] rule.body in
    let item = c.rule-item.result in
    first_turn (λ xs. flat_map u xs) (u item) item (λ xs. refl) _ _ _ _ _ _ c.loop-rule-test.true c.rule-item.is c.in_ok-check_formula.ensures c.earlier-found.ensures c.loop-rule.invariant
