use Rattle.std.proofs.Common.{◌<◌, ◌+◌, ◌-◌, ◌∙◌, ◌++◌, ◌∷◌, [], arith, ap, length, refl, rules, subst, sym}
use Rattle.std.specs.Vec.{vec_capacity}
use Rattle.xdg_problem.specs.declared.parts.Parts.{Parts}
use Rattle.xdg_problem.specs.Vectors.{shape}
use Rattle.xdg_problem.specs.Places.{places}
use Rattle.xdg_rules.specs.Boxed.{Boxed}
use Rattle.xdg_stream.specs.Fronted.{Fronted}
use Rattle.xdg_propcore.specs.Uses.{AllStandIn}
use Rattle.xdg_stream.proofs.Pushing.{Top, top_of, top_there, depth_is, mid_level, kept_front, pushed_front, none_boxed, next_fits, same_problem, refused_here, taken_here}
use Rattle.xdg_stream.specs.Levels.{AllStill}
use Rattle.xdg_stream.proofs.Calming.{calm_grown, calm_top, calm_with}
use Rattle.xdg_stream.proofs.front.BoxFrontFront.push.Goals as goal
use Rattle.xdg_stream.proofs.front.BoxFrontFront.push.Goals.{After-undo}

-- the store is back at the box of the last front
top : (g : _) (c : After-undo g)
    → Top c.self.inside.store c.undo.new.self c.self.inside.edge_places c.self.inside.marks.items c.self.inside.numbers.items (vec_capacity c.self.inside.marks) (vec_capacity c.self.inside.numbers)
    (c.len-depth.result - 1) c.index-as_slice-depth.result
top g c = top_of c.self.inside.store c.undo.new.self c.self.invariant.3 c.if-depth-eq0.false c.as_slice.ensures.value c.index-as_slice-depth.is (let len = c.len-depth.ensures in omega (arith, len)) c.undo.ensures.parts c.undo.ensures.now c.undo.ensures.history

pub returns-then-depth-eq0-clause-same : goal.returns-then-depth-eq0-clause-same
returns-then-depth-eq0-clause-same g c =
    same_problem c.args.self.now.parts c.args.self.now.parts refl

pub returns-then-depth-eq0-clause-refused : goal.returns-then-depth-eq0-clause-refused
returns-then-depth-eq0-clause-refused g c r =
    let numbers = c.self.inside.numbers.items in
    let len = c.len-depth.ensures in
    let none = c.if-depth-eq0.true in
    (refl, subst (λ (f : Fronted). Boxed f.parts (f.numbers ++ c.args.value ∷ []) → ⊥) c.self.view_is (none_boxed c.self.inside.store.parts c.self.inside.store.history c.self.inside.edge_places c.self.inside.marks.items numbers (vec_capacity c.self.inside.marks) (vec_capacity c.self.inside.numbers) c.self.invariant.3 (omega (arith, len, none)) (numbers ++ c.args.value ∷ [])))

pub undo-requires : goal.undo-requires
undo-requires g c = top_there c.self.inside.store c.self.inside.store c.self.invariant.3 c.if-depth-eq0.false c.as_slice.ensures.value c.index-as_slice-depth.is (let len = c.len-depth.ensures in omega (arith, len))

pub lengthen-requires : goal.lengthen-requires
lengthen-requires g c =
    let top = top g (goal.at.lengthen-requires g c).After-undo in
    let next = next_fits top c.args.self.now c.args.value c.self.view_is c.requires.fits in
    record {
      stand = subst (AllStandIn g.P.Propagator.stands c.self.inside.props.now) (sym top.same) c.self.invariant.1;
      agenda = search rules;
      decisions = c.self.invariant.5 ∙ ap (λ (p : Parts). length (shape p)) (sym top.same);
      listed = c.as_slice-2.ensures ∙ c.self.invariant.3.listed ∙ ap places (sym top.same);
      within = next.0;
      value = next.1;
      still = calm_top (AllStill g.P.Propagator.still c.self.inside.props.now) top c.self.invariant.4;
      known = search rules;
    }

pub invariant_of-self : goal.invariant_of-self
invariant_of-self g c =
    let top = top g (goal.at.invariant_of-self g c).After-undo in
    let still = AllStill g.P.Propagator.still c.self.inside.props.now in
    let new = c.lengthen.new.store in
    let extends = c.lengthen.ensures.extends in
    let same = extends.same ∙ top.same in (
      c.lengthen.ensures.known,
      subst (AllStandIn g.P.Propagator.stands c.self.inside.props.now) (sym same) c.self.invariant.1,
      c.lengthen.ensures.agenda ∙ c.self.invariant.2,
      kept_front top new extends,
      calm_grown still top c.self.invariant.4 new extends,
      c.self.invariant.5 ∙ ap (λ (p : Parts). length (shape p)) (sym same),
    )

pub returns-then-not-lengthen : goal.returns-then-not-lengthen
returns-then-not-lengthen g c =
    let numbers = c.self.inside.numbers.items in
    let top = top g (goal.at.returns-then-not-lengthen g c).After-undo in
    let kept = c.lengthen.ensures.extends.same ∙ c.undo.ensures.parts ∙ ap (λ (f : Fronted). f.parts) c.self.view_is in
    record {
      kept = kept;
      same = same_problem c.args.self.now.parts c.lengthen.new.store.parts kept;
      taken = search rules;
      refused = λ r. refused_here c.args.self.now c.self.inside.store.parts c.undo.new.self.parts numbers c.args.value c.self.view_is top.same (c.if-not-lengthen.ensures.narrows numbers (depth_is top) (mid_level top));
    }

pub push_reserved-requires : goal.push_reserved-requires
push_reserved-requires g c =
    let top = top g (goal.at.push_reserved-requires g c).After-undo in
    let is = top.is in
    let room = top.has.for_marks in
    let within : c.len-depth.result - 1 < length (shape c.self.inside.store.parts) = subst (λ (q : Parts). c.len-depth.result - 1 < length (shape q)) top.same (next_fits top c.args.self.now c.args.value c.self.view_is c.requires.fits).0 in
    omega (arith, is, within, room)

pub push_reserved-requires-2 : goal.push_reserved-requires-2
push_reserved-requires-2 g c =
    let top = top g (goal.at.push_reserved-requires-2 g c).After-undo in
    let depth = depth_is top in
    let room = top.has.for_numbers in
    let within : c.len-depth.result - 1 < length (shape c.self.inside.store.parts) = subst (λ (q : Parts). c.len-depth.result - 1 < length (shape q)) top.same (next_fits top c.args.self.now c.args.value c.self.view_is c.requires.fits).0 in
    omega (arith, depth, within, room)

pub invariant_of-self-2 : goal.invariant_of-self-2
invariant_of-self-2 g c =
    let top = top g (goal.at.invariant_of-self-2 g c).After-undo in
    let still = AllStill g.P.Propagator.still c.self.inside.props.now in
    let new = c.lengthen.new.store in
    let extends = c.lengthen.ensures.extends in
    let same = extends.same ∙ top.same in
    let marks = c.push_reserved.new.self in
    let numbers = c.push_reserved-2.new.self in
    let a = c.push_reserved.ensures.capacity in
    let b = c.push_reserved-2.ensures.capacity in (
      c.lengthen.ensures.known,
      subst (AllStandIn g.P.Propagator.stands c.self.inside.props.now) (sym same) c.self.invariant.1,
      c.lengthen.ensures.agenda ∙ c.self.invariant.2,
      pushed_front top new extends marks.items numbers.items (vec_capacity marks) (vec_capacity numbers) c.mark.result c.args.value (c.if-not-lengthen.ensures.narrows c.self.inside.numbers.items (depth_is top) (mid_level top)) c.mark.ensures.mark c.mark.ensures.last c.push_reserved.ensures.items c.push_reserved-2.ensures.items (omega (arith, a)) (omega (arith, b)),
      calm_with still new.parts new.history c.self.inside.marks.items marks.items c.mark.result
          (calm_grown still top c.self.invariant.4 new extends)
          (subst (still new.parts) (sym c.mark.ensures.last) (c.if-not-lengthen.ensures.still refl)) c.push_reserved.ensures.items,
      c.self.invariant.5 ∙ ap (λ (p : Parts). length (shape p)) (sym same),
    )

pub returns : goal.returns
returns g c =
    let numbers = c.self.inside.numbers.items in
    let top = top g (goal.at.returns g c).After-undo in
    let kept = c.lengthen.ensures.extends.same ∙ c.undo.ensures.parts ∙ ap (λ (f : Fronted). f.parts) c.self.view_is in
    record {
      kept = kept;
      same = same_problem c.args.self.now.parts c.lengthen.new.store.parts kept;
      taken = λ r. taken_here c.args.self.now c.self.inside.store.parts c.undo.new.self.parts numbers c.push_reserved-2.new.self.items c.args.value c.lengthen.new.store.now c.self.view_is top.same c.push_reserved-2.ensures.items (c.if-not-lengthen.ensures.narrows numbers (depth_is top) (mid_level top));
      refused = search rules;
    }
