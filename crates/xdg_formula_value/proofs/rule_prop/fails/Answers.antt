use Rattle.xdg_rules.specs.Worths.{RuleFalse}
use Rattle.xdg_formula_value.proofs.Swept.{earlier_at}
use Rattle.xdg_formula_value.proofs.rule_prop.fails.Goals as goal

pub is_false_since-requires-clause-earlier : goal.is_false_since-requires-clause-earlier
is_false_since-requires-clause-earlier c = earlier_at c.args.store.now (λ parts box. RuleFalse parts c.args.formula.now box → ⊥) c.in-Some.mark (c.requires.open c.in-Some.mark c.in-Some.is)
