use Rattle.std.proofs.Common.{arith, rules}
use Rattle.xdg_problem.specs.declared.formula.Formula.TheViews.{the_lemmas}
use Rattle.xdg_problem.specs.Claims.{claim}
use Rattle.xdg_formula_value.proofs.Claiming.{the_claims}
use Rattle.xdg_formula_value.proofs.Under.{leads_every, leads_any}
use Rattle.xdg_formula_value.proofs.since.+under.Goals as goal

pub false_under-requires-in-Every : goal.false_under-requires-in-Every
false_under-requires-in-Every t c =
    let leads = leads_every c.args.store.now.parts (claim c.args.rule.now) c.args.names c.args.truth c.args.formula.now c.requires.leads c.in-Every.inner c.get-in-Every.result.now c.in-Every.name c.with_name.result c.in-Every.is c.get-in-Every.ensures c.if-truth.false c.with_name.ensures in
    (search (rules, the_lemmas), (c.requires.suits, (grind (arith, the_claims), (leads, (c.requires.earlier, c.requires.open)))))

pub false_under-requires-in-Any : goal.false_under-requires-in-Any
false_under-requires-in-Any t c =
    let leads = leads_any c.args.store.now.parts (claim c.args.rule.now) c.args.names c.args.truth c.args.formula.now c.requires.leads c.in-Any.inner c.get-in-Any.result.now c.in-Any.name c.with_name-in-Any.result c.in-Any.is c.get-in-Any.ensures c.if-not-truth.false c.with_name-in-Any.ensures in
    (search (rules, the_lemmas), (c.requires.suits, (grind (arith, the_claims), (leads, (c.requires.earlier, c.requires.open)))))
