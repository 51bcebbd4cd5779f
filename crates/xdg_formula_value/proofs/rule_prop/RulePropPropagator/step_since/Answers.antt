use Rattle.std.proofs.Common.{subst}
use Rattle.xdg_propcore.specs.Standing.{Held}
use Rattle.xdg_propcore.specs.Uses.{IsClosedBy}
use Rattle.xdg_formula_value.specs.Standing.{stands_for}
use Rattle.xdg_formula_value.proofs.rule_prop.RulePropPropagator.step_since.Goals as goal
use Rattle.xdg_facts.proofs.Options.{same_mark}

pub take_step-requires-clause-held : goal.take_step-requires-clause-held
take_step-requires-clause-held c mark some = subst (Held (λ parts box. IsClosedBy (stands_for c.args.self.now) parts box) c.args.store.now) (same_mark c.args.since mark some) c.requires.held
