use Rattle.std.proofs.Common.{arith}
use Rattle.xdg_problem.specs.Claims.{claim}
use Rattle.xdg_propcore.specs.Standing.{box_at}
use Rattle.xdg_formula_value.proofs.Concerning.{TouchedSome, touched_turn, touched_end}
use Rattle.xdg_formula_value.proofs.Within.{seen_none}
use Rattle.xdg_formula_value.proofs.about.+about.Goals as goal

pub found_among-loop-part-preserved : goal.found_among-loop-part-preserved
found_among-loop-part-preserved t c = (touched_turn c.args.store.now.parts (box_at c.args.store.now c.args.since) c.args.store.now.now (claim c.args.formula.now) c.args.truth c.args.free c.args.names c.args.decision c.args.parts.now c.loop-part.part-index c.part-item.result c.found_about.result c.loop-part.seen c.found_about.new.seen c.loop-part-test.true c.part-item.is c.found_about.ensures.seen c.loop-part.invariant.0 c.if-found_about.false c.found_about.ensures.finds, λ on. c.loop-part.invariant.1 (c.found_about.ensures.seen on))

pub found_among-returns-clause-finds : goal.found_among-returns-clause-finds
found_among-returns-clause-finds t c = (let past = c.loop-part-test.false in seen_none c.args.store.now.parts c.args.store.now.now (claim c.args.formula.now) c.args.truth (TouchedSome c.args.store.now.parts (box_at c.args.store.now c.args.since) c.args.store.now.now (claim c.args.formula.now) c.args.truth c.args.free c.args.names c.args.decision c.args.parts.now) c.loop-part.seen (λ on. touched_end c.args.store.now.parts (box_at c.args.store.now c.args.since) c.args.store.now.now (claim c.args.formula.now) c.args.truth c.args.free c.args.names c.args.decision c.args.parts.now c.loop-part.part-index c.args.formula.now (omega (arith, past)) (c.loop-part.invariant.0 on)))
