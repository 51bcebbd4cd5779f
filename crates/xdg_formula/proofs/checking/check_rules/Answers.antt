use Rattle.std.proofs.Common.{Some, None, sym, ap, ◌∙◌}
use Rattle.xdg_names.specs.First.{first}
use Rattle.xdg_formula.specs.Formulas.{rules_faults}
use Rattle.xdg_formula.proofs.Told.{first_told, right_only, wrong_only}
use Rattle.xdg_formula.proofs.checking.check_rules.Goals as goal

pub returns-in-None-clause-tells : goal.returns-in-None-clause-tells
returns-in-None-clause-tells c =
    first_told (rules_faults c.args.types.now c.args.rules.now.rules) None (sym c.in-None.is ∙ c.in-Ok.ensures ∙ ap (λ rules. first (rules_faults c.args.types.now rules)) c.as_slice.ensures)

pub returns-in-None-clause-only : goal.returns-in-None-clause-only
returns-in-None-clause-only c =
    right_only c.args.types.now c.args.rules.now.rules (sym c.in-None.is ∙ c.in-Ok.ensures ∙ ap (λ rules. first (rules_faults c.args.types.now rules)) c.as_slice.ensures)

pub returns-in-Some-clause-tells : goal.returns-in-Some-clause-tells
returns-in-Some-clause-tells c =
    first_told (rules_faults c.args.types.now c.args.rules.now.rules) (Some c.in-Some.fault) (sym c.in-Some.is ∙ c.in-Ok.ensures ∙ ap (λ rules. first (rules_faults c.args.types.now rules)) c.as_slice.ensures)

pub returns-in-Some-clause-only : goal.returns-in-Some-clause-only
returns-in-Some-clause-only c =
    wrong_only c.args.types.now c.args.rules.now.rules c.in-Some.fault (sym c.in-Some.is ∙ c.in-Ok.ensures ∙ ap (λ rules. first (rules_faults c.args.types.now rules)) c.as_slice.ensures)
