use Rattle.std.proofs.Common.{inl}
use Rattle.xdg_propcore.specs.Uses.{use_at}
use Rattle.xdg_formula_value.proofs.Named.{looks_at_all}
use Rattle.xdg_formula_value.proofs.rule_prop.RulePropPropagator.wakes.Goals as goal

pub returns-clause-named : goal.returns-clause-named
returns-clause-named c parts number stands kind bit = inl (looks_at_all (use_at parts number).principle stands.1.rule)
