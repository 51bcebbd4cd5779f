use Rattle.xdg_problem.specs.Truths.{stands}
use Rattle.xdg_formula_value.proofs.Wholes.{several_skip, several_turn, every_told, any_told}
use Rattle.xdg_formula_value.proofs.value.+whole.Goals as goal
use Rattle.xdg_facts.proofs.Truths.{alike, differ}

pub makes_joined-loop-formula-preserved-then-so_far-each : goal.makes_joined-loop-formula-preserved-then-so_far-each
makes_joined-loop-formula-preserved-then-so_far-each t c = several_skip c.args.store.now.parts c.args.store.now.now c.args.truth (stands c.args.binding.now) c.args.each c.args.formulas.now c.loop-formula.formula-index c.formula-item.result c.loop-formula.so_far c.loop-formula-test.true c.formula-item.is c.loop-formula.invariant (differ c.loop-formula.so_far c.args.each c.if-so_far-each.true)

pub makes_joined-loop-formula-preserved : goal.makes_joined-loop-formula-preserved
makes_joined-loop-formula-preserved t c = several_turn c.args.store.now.parts c.args.store.now.now c.args.truth (stands c.args.binding.now) c.args.each c.args.formulas.now c.loop-formula.formula-index c.formula-item.result c.loop-formula.so_far c.loop-formula-test.true c.formula-item.is c.loop-formula.invariant c.makes-so_far.result (alike c.loop-formula.so_far c.args.each c.if-so_far-each.false) c.makes-so_far.ensures

pub makes-returns-in-Every : goal.makes-returns-in-Every
makes-returns-in-Every t c = every_told c.args.store.now.parts c.args.store.now.now c.args.truth (stands c.args.binding.now) c.args.formula.now c.in-Every.inner c.get-in-Every.result.now c.in-Every.name c.get-in-Every.ensures c.args.paths.now.all c.row_of-row.result c.has_over.result c.node_count.result c.requires.paths.all c.node_count.ensures.size c.row_of-row.ensures c.in-Every.is c.has_over.ensures

pub makes-returns-in-Any : goal.makes-returns-in-Any
makes-returns-in-Any t c = any_told c.args.store.now.parts c.args.store.now.now c.args.truth (stands c.args.binding.now) c.args.formula.now c.in-Any.inner c.get-in-Any.result.now c.in-Any.name c.get-in-Any.ensures c.args.paths.now.all c.row_of-row-in-Any.result c.has_over-in-Any.result c.node_count-in-Any.result c.requires.paths.all c.node_count-in-Any.ensures.size c.row_of-row-in-Any.ensures c.in-Any.is c.has_over-in-Any.ensures
