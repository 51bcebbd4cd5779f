use Rattle.std.proofs.Common.{sym, subst, rules}
use Rattle.xdg_problem.specs.declared.parts.Group.{Group}
use Rattle.xdg_propcore.specs.Families.{StandsAt}
use Rattle.xdg_propcore.proofs.Stepping.{begun, number_within, stepped}
use Rattle.xdg_propcore.proofs.use_prop.UseProp.take_step.Goals as goal

pub use_of-group-requires : goal.use_of-group-requires
use_of-group-requires g c = number_within (StandsAt g.F.Family.holds (g.F.Family.fits c.args.self.now.family) c.args.self.now.number c.args.self.now.wakes.0) c.args.self.now.number _ c.args.store.now c.turn.new.self (λ k h. h.number_is)
    c.requires.stands c.turn.ensures.turns c.turn.ensures.known c.problem.result.now c.problem.ensures.parts

pub sweep-requires : goal.sweep-requires
sweep-requires g c =
    let b = begun (StandsAt g.F.Family.holds (g.F.Family.fits c.args.self.now.family) c.args.self.now.number c.args.self.now.wakes.0) c.args.self.now.number _ c.args.store.now c.turn.new.self (λ k h. h.number_is)
    c.requires.stands c.turn.ensures.turns c.turn.ensures.known c.problem.result.now c.problem.ensures.parts c.use_of-group.result.now c.use_of-group.ensures.is in
    record {
      known = c.turn.ensures.known;
      group = b.group_is;
      family = subst (λ (it : Group). g.F.Family.holds it.principle) b.is b.mine.1.family;
      fits = subst (λ parts. g.F.Family.fits c.args.self.now.family parts c.use_of-group.result.now) (sym b.parts_stay) (subst (g.F.Family.fits c.args.self.now.family c.args.store.now.parts) b.is b.mine.1.fits);
      held = b.held c.args.since c.requires.held;
    }

pub returns : goal.returns
returns g c =
    let s = stepped (StandsAt g.F.Family.holds (g.F.Family.fits c.args.self.now.family) c.args.self.now.number c.args.self.now.wakes.0) c.args.self.now.number _ c.args.store.now c.turn.new.self (λ k h. h.number_is)
    c.requires.stands c.turn.ensures.turns c.turn.ensures.known c.problem.result.now c.problem.ensures.parts c.use_of-group.result.now c.use_of-group.ensures.is
    c.start-pass.result c.sweep.new.pass c.sweep.new.store c.start-pass.ensures c.sweep.ensures c.moved.result c.moved.ensures in
    record { extends = s.extends; keeps = s.keeps; same = s.same; moves = s.moves; turns = s.turns_are; known = search rules }
