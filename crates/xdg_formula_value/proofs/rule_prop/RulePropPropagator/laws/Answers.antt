use Rattle.xdg_formula_value.proofs.Staying.{rule_stays}
use Rattle.xdg_formula_value.proofs.rule_prop.RulePropPropagator.laws.Goals as goal

pub returns-clause-stays_still : goal.returns-clause-stays_still
returns-clause-stays_still c = rule_stays
