use Rattle.xdg_formula_value.proofs.Swept.{rule_found, rule_suits, none_go, all_gone, open_at}
use Rattle.xdg_formula_value.proofs.rule_prop.sweep.Goals as goal

pub returns-in_default : goal.returns-in_default
returns-in_default c = (let found = rule_found c.args.group.now.principle c.requires.rule in absurd (c.in_default.not-Rule found.0 found.1))

pub fails-requires-clause-suits : goal.fails-requires-clause-suits
fails-requires-clause-suits c = rule_suits c.args.store.now.parts c.args.group.now c.in-Rule.formula c.requires.group c.in-Rule.is

pub returns-then-not-fails : goal.returns-then-not-fails
returns-then-not-fails c = none_go c.args.group.now c.args.store.now c.requires.known c.in-Rule.formula c.in-Rule.is c.fails.result c.fails.ensures.exact c.args.pass.now c.if-not-fails.true

pub returns : goal.returns
returns c = all_gone c.args.group.now c.args.store.now c.requires.known c.in-Rule.formula c.in-Rule.is c.fails.result c.fails.ensures.exact c.args.pass.now c.fail.new.self c.if-not-fails.false c.requires.group c.fail.ensures.goes c.fail.ensures.dead

pub fails-requires-clause-open : goal.fails-requires-clause-open
fails-requires-clause-open c = open_at c.args.store.now c.args.group.now c.in-Rule.formula c.args.since.now c.requires.known.problem c.in-Rule.is c.requires.held
