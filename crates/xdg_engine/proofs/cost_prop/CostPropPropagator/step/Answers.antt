use Rattle.std.proofs.Common.{rules}
use Rattle.xdg_propcore.specs.Uses.{use_at}
use Rattle.xdg_propcore.proofs.Stepping.{begun, number_within, stepped}
use Rattle.xdg_engine.specs.Bounding.{BoundAt}
use Rattle.xdg_engine.proofs.BoundNamed.{bound_known}
use Rattle.xdg_engine.proofs.cost_prop.CostPropPropagator.step.Goals as goal

pub use_of-group-requires : goal.use_of-group-requires
use_of-group-requires c = number_within (BoundAt c.args.self.now.number c.args.self.now.bound c.args.self.now.entries c.args.self.now.labels) c.args.self.now.number _ c.args.store.now c.turn.new.self (λ k h. h.number_is)
    c.requires.stands c.turn.ensures.turns c.turn.ensures.known c.problem.result.now c.problem.ensures.parts

pub sweep-requires : goal.sweep-requires
sweep-requires c =
    let b = begun (BoundAt c.args.self.now.number c.args.self.now.bound c.args.self.now.entries c.args.self.now.labels) c.args.self.now.number _ c.args.store.now c.turn.new.self (λ k h. h.number_is)
    c.requires.stands c.turn.ensures.turns c.turn.ensures.known c.problem.result.now c.problem.ensures.parts c.use_of-group.result.now c.use_of-group.ensures.is in
    record {
      known = c.turn.ensures.known;
      group = b.group_is;
      holds = bound_known c.args.self.now.bound c.args.self.now.entries c.args.self.now.labels c.args.store.now.parts c.turn.new.self.parts (use_at c.args.store.now.parts c.args.self.now.number) c.use_of-group.result.now b.parts_stay b.is b.mine.1.holds;
    }

pub returns : goal.returns
returns c =
    let s = stepped (BoundAt c.args.self.now.number c.args.self.now.bound c.args.self.now.entries c.args.self.now.labels) c.args.self.now.number _ c.args.store.now c.turn.new.self (λ k h. h.number_is)
    c.requires.stands c.turn.ensures.turns c.turn.ensures.known c.problem.result.now c.problem.ensures.parts c.use_of-group.result.now c.use_of-group.ensures.is
    c.start-pass.result c.sweep.new.pass c.sweep.new.store c.start-pass.ensures c.sweep.ensures c.moved.result c.moved.ensures in
    record { extends = s.extends; keeps = s.keeps; same = s.same; moves = s.moves; turns = s.turns_are; known = search rules }
