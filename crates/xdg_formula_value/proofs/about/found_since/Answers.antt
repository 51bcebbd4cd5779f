use Rattle.std.proofs.Common.{arith}
use Rattle.xdg_problem.specs.Claims.{claim}
use Rattle.xdg_problem.specs.Truths.{unbound}
use Rattle.xdg_rules.specs.Worths.{Makes}
use Rattle.xdg_propcore.specs.Standing.{box_at}
use Rattle.xdg_formula_value.specs.Lost.{AgreeBut}
use Rattle.xdg_formula_value.proofs.Finding.{finds_on}
use Rattle.xdg_formula_value.proofs.Under.{met_start, met_turn, met_end}
use Rattle.xdg_formula_value.proofs.about.found_since.Goals as goal

pub loop-decision-init : goal.loop-decision-init
loop-decision-init c = λ on. met_start c.args.store.now.parts (box_at c.args.store.now c.args.since) c.args.store.now.now (claim c.args.formula.now) c.args.truth c.args.names c.removed_since-decision-items.result.now

pub returns-then-found_about : goal.returns-then-found_about
returns-then-found_about c = finds_on c.args.store.now.parts c.args.store.now.now (claim c.args.formula.now) c.args.truth
    (λ b. AgreeBut c.args.names unbound b × (Makes c.args.store.now.parts (box_at c.args.store.now c.args.since) (claim c.args.formula.now) c.args.truth b → ⊥))
    _ c.found_about.result c.if-found_about.true c.found_about.ensures.finds

pub loop-decision-preserved : goal.loop-decision-preserved
loop-decision-preserved c = met_turn c.args.store.now.parts (box_at c.args.store.now c.args.since) c.args.store.now.now (claim c.args.formula.now) c.args.truth c.args.names c.removed_since-decision-items.result.now c.loop-decision.decision-index _ c.found_about.result c.loop-decision.seen c.found_about.new.seen
    c.loop-decision-test.true c.found_about.ensures.seen c.loop-decision.invariant c.if-found_about.false c.found_about.ensures.finds

pub returns : goal.returns
returns c = (let past = c.loop-decision-test.false in let known = c.of-paths.ensures.known in
    met_end c.args.store.now.parts (box_at c.args.store.now c.args.since) c.args.store.now.now (claim c.args.formula.now) c.args.truth c.args.names c.removed_since-decision-items.result.now c.loop-decision.decision-index (omega (arith, past)) (c.loop-decision.invariant c.if-not-seen.false)
    known.problem c.requires.earlier.is known.is_box c.removed_since-decision-items.ensures.names c.requires.is_of c.requires.asks)
