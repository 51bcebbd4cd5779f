use Rattle.std.proofs.Common.{◌-◌, ◌∙◌, arith, ap, length, subst, sym}
use Rattle.std.specs.Vec.{vec_capacity}
use Rattle.xdg_problem.specs.declared.parts.Parts.{Parts}
use Rattle.xdg_problem.specs.Vectors.{shape}
use Rattle.xdg_propcore.specs.Uses.{AllStandIn}
use Rattle.xdg_stream.proofs.Pushing.{follows_here, run_follows, run_front, top_of}
use Rattle.xdg_stream.specs.Levels.{AllStill}
use Rattle.xdg_stream.proofs.Calming.{calm_at_top, calm_more, calm_undone}
use Rattle.xdg_stream.proofs.front.BoxFrontFront.follow.Goals as goal

pub add_alone-requires-clause-decisions : goal.add_alone-requires-clause-decisions
add_alone-requires-clause-decisions g c = c.self.invariant.5 ∙ ap (λ (p : Parts). length (shape p)) (sym c.undo.ensures.parts)

pub invariant_of-self : goal.invariant_of-self
invariant_of-self g c =
    let top = top_of c.self.inside.store c.undo.new.self c.self.invariant.3 c.if-depth-eq0.false c.as_slice.ensures.value c.index-as_slice-depth.is (let len = c.len-depth.ensures in omega (arith, len)) c.undo.ensures.parts c.undo.ensures.now c.undo.ensures.history in
    let still = AllStill g.P.Propagator.still c.self.inside.props.now in
    let mid = c.undo.new.self in
    let marks = c.add_alone.new.marks in
    let numbers = c.add_alone.new.numbers in
    let adds = c.add_alone.ensures.adds in
    let a = c.add_alone.ensures.mark_room in
    let b = c.add_alone.ensures.number_room in (
      c.undo.ensures.known,
      subst (AllStandIn g.P.Propagator.stands c.self.inside.props.now) (sym top.same) c.self.invariant.1,
      c.self.invariant.2,
      run_front top marks.items numbers.items c.args.most c.add_alone.result adds (vec_capacity marks) (vec_capacity numbers) (omega (arith, a)) (omega (arith, b)),
      calm_more still mid.parts mid.history c.self.inside.marks.items marks.items adds.added c.index-as_slice-depth.result (calm_undone still top c.self.invariant.4) (calm_at_top still top c.self.invariant.4) adds.marks_are,
      c.self.invariant.5 ∙ ap (λ (p : Parts). length (shape p)) (sym top.same),
    )

pub returns-clause-follows : goal.returns-clause-follows
returns-clause-follows g c =
    let top = top_of c.self.inside.store c.undo.new.self c.self.invariant.3 c.if-depth-eq0.false c.as_slice.ensures.value c.index-as_slice-depth.is (let len = c.len-depth.ensures in omega (arith, len)) c.undo.ensures.parts c.undo.ensures.now c.undo.ensures.history in
    let marks = c.add_alone.new.marks in
    let numbers = c.add_alone.new.numbers in
    follows_here c.args.self.now c.self.inside.store.parts c.self.inside.numbers.items numbers.items c.args.most c.add_alone.result c.self.view_is (run_follows top marks.items numbers.items c.args.most c.add_alone.result c.add_alone.ensures.adds)
