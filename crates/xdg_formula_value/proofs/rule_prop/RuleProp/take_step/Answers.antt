use Rattle.std.proofs.Common.{rules, subst}
use Rattle.xdg_problem.specs.declared.parts.Group.{Group}
use Rattle.xdg_propcore.proofs.Stepping.{begun, number_within, stepped}
use Rattle.xdg_formula_value.specs.Standing.{IsRule, StandsAt}
use Rattle.xdg_formula_value.proofs.rule_prop.RuleProp.take_step.Goals as goal

pub use_of-group-requires : goal.use_of-group-requires
use_of-group-requires c = number_within (StandsAt c.args.self.now.number c.args.self.now.wakes.0) c.args.self.now.number _ c.args.store.now c.turn.new.self (λ k h. h.number_is)
    c.requires.stands c.turn.ensures.turns c.turn.ensures.known c.problem.result.now c.problem.ensures.parts

pub sweep-requires : goal.sweep-requires
sweep-requires c =
    let b = begun (StandsAt c.args.self.now.number c.args.self.now.wakes.0) c.args.self.now.number _ c.args.store.now c.turn.new.self (λ k h. h.number_is)
    c.requires.stands c.turn.ensures.turns c.turn.ensures.known c.problem.result.now c.problem.ensures.parts c.use_of-group.result.now c.use_of-group.ensures.is in
    record { known = c.turn.ensures.known; group = b.group_is; rule = subst (λ (it : Group). IsRule it.principle) b.is b.mine.1.rule; held = b.held c.args.since c.requires.held }

pub returns : goal.returns
returns c =
    let s = stepped (StandsAt c.args.self.now.number c.args.self.now.wakes.0) c.args.self.now.number _ c.args.store.now c.turn.new.self (λ k h. h.number_is)
    c.requires.stands c.turn.ensures.turns c.turn.ensures.known c.problem.result.now c.problem.ensures.parts c.use_of-group.result.now c.use_of-group.ensures.is
    c.start-pass.result c.sweep.new.pass c.turn.new.self c.start-pass.ensures c.sweep.ensures c.moved.result c.moved.ensures in
    record { extends = s.extends; keeps = s.keeps; same = s.same; moves = s.moves; turns = s.turns_are; known = search rules }
