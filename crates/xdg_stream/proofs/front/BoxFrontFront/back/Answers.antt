use Rattle.std.proofs.Common.{◌-◌, ap}
use Rattle.std.specs.Prelude.{slice_index_or}
use Rattle.xdg_stream.proofs.Pushing.{backs_none, backs_some, turned_front}
use Rattle.xdg_stream.specs.Levels.{AllStill}
use Rattle.xdg_stream.proofs.Calming.{calm_cut}
use Rattle.xdg_stream.proofs.front.BoxFrontFront.back.Goals as goal

pub returns-then-depth-eq0-clause-backs : goal.returns-then-depth-eq0-clause-backs
returns-then-depth-eq0-clause-backs g c = backs_none c.self.invariant.3 c.self.view_is c.as_slice.ensures.value c.last_turn-depth.result c.last_turn-depth.ensures.same c.if-depth-eq0.true c.clear.ensures.items

pub invariant_of-self-2 : goal.invariant_of-self-2
invariant_of-self-2 g c = (
  c.self.invariant.0,
  c.self.invariant.1,
  c.self.invariant.2,
  turned_front c.self.invariant.3 c.self.view_is c.as_slice.ensures.value c.last_turn-depth.result c.last_turn-depth.ensures.same c.if-depth-eq0.false c.last_turn-depth.ensures.within
      c.truncate-2.ensures.items c.truncate-3.ensures.items c.truncate-2.ensures.capacity c.truncate-3.ensures.capacity,
  calm_cut (AllStill g.P.Propagator.still c.self.inside.props.now) c.self.inside.store.parts c.self.inside.store.history c.self.inside.marks.items c.truncate-2.new.self.items
      c.last_turn-depth.result c.self.invariant.4 c.truncate-2.ensures.items,
  c.self.invariant.5,
)

pub returns-clause-backs : goal.returns-clause-backs
returns-clause-backs g c = backs_some c.self.invariant.3 c.self.view_is c.as_slice.ensures.value c.last_turn-depth.result c.last_turn-depth.ensures.same c.if-depth-eq0.false c.last_turn-depth.ensures.within
    (ap (λ z. slice_index_or z (c.last_turn-depth.result - 1) 0) c.as_slice-2.ensures.value) c.truncate-3.ensures.items
