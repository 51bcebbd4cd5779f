use Rattle.xdg_formula_value.proofs.Swept.{rule_found, rule_suits, rule_kinds}
use Rattle.xdg_formula_value.proofs.rule_prop.wakes_of.Goals as goal

pub kinds_of-requires-clause-is_of : goal.kinds_of-requires-clause-is_of
kinds_of-requires-clause-is_of c = (rule_suits c.args.parts.now c.args.group.now c.in-Rule.formula c.requires.group c.in-Rule.is).is_of

pub returns-in-Rule : goal.returns-in-Rule
returns-in-Rule c = rule_kinds c.args.group.now.principle c.in-Rule.formula c.kinds_of.result.0 c.in-Rule.is c.kinds_of.ensures

pub returns-in_default : goal.returns-in_default
returns-in_default c = (let found = rule_found c.args.group.now.principle c.requires.rule in absurd (c.in_default.not-Rule found.0 found.1))
