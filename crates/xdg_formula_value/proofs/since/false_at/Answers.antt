use Rattle.xdg_propcore.specs.Standing.{box_at}
use Rattle.xdg_formula_value.proofs.Under.{found_false}
use Rattle.xdg_formula_value.proofs.since.false_at.Goals as goal

pub returns-in-Some : goal.returns-in-Some
returns-in-Some c = found_false c.args.store.now.parts c.args.rule.now c.args.formula.now c.args.names c.args.truth c.in-Some.found (box_at c.args.store.now c.args.since) c.args.store.now.now c.requires.suits c.requires.leads c.requires.open c.in-Some.ensures
