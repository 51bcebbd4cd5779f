use Rattle.std.proofs.Common.{◌∙◌, ◌<◌, ◌≤◌, ◌++◌, ◌∷◌, [], ap, arith, length, sym, subst}
use Rattle.std.specs.Prelude.{All}
use Rattle.std.specs.Vec.{vec_capacity}
use Rattle.xdg_problem.specs.declared.parts.Parts.{Parts}
use Rattle.xdg_problem.specs.Vectors.{shape}
use Rattle.xdg_propcore.specs.Uses.{StandsIn, AllStandIn}
use Rattle.xdg_stream.specs.Fronted.{HasFront}
use Rattle.xdg_stream.proofs.Opening.{open_settled, open_dead}
use Rattle.xdg_stream.specs.Levels.{AllStill, AreAll}
use Rattle.xdg_stream.proofs.Calming.{calm_none, calm_with}
use Rattle.xdg_stream.proofs.front.BoxFront.start.Goals as goal
use Rattle.xdg_stream.proofs.front.BoxFront.start.Goals.{in-Settled, in-Dead}

pub settle-requires-clause-stand : goal.settle-requires-clause-stand
settle-requires-clause-stand g c = subst (λ q. All (λ p. StandsIn (g.P.Propagator.stands p) q) c.args.props.now) (sym c.in_ok-store.ensures.parts) c.requires.each

pub invariant_of-result : goal.invariant_of-result
invariant_of-result g c =
    let new = c.settle.new.store in
    let q = c.args.problem.now in
    let same = c.settle.ensures.extends.same in
    let parts = same ∙ c.in_ok-store.ensures.parts in
    let decided = c.decisions-decisions.ensures in
    let held = c.in_ok-numbers.ensures.exact in
    let held2 = c.in_ok-marks.ensures.exact in
    let for_numbers : length (shape q) ≤ vec_capacity c.in_ok-numbers.numbers = omega (arith, held, decided) in
    let for_marks : length (shape q) < vec_capacity c.in_ok-marks.marks = omega (arith, held2, decided) in (
      c.settle.ensures.known,
      subst (AllStandIn g.P.Propagator.stands c.args.props.now) (sym parts) c.requires,
      c.settle.ensures.agenda ∙ c.in_ok-agenda.ensures,
      elim c.match-settle.branch [
        | in-Settled w ↦ subst (λ m. HasFront new.parts new.history c.in_ok-edge_places.edge_places m.items c.in_ok-numbers.numbers.items (vec_capacity m) (vec_capacity c.in_ok-numbers.numbers)) (sym w.marks-is)
            (open_settled g.P.Propagator.stands c.args.props.now q c.requires c.in_ok-store.store new c.in_ok-store.ensures.parts c.in_ok-store.ensures.now same c.in_ok-edge_places.edge_places c.in_ok-edge_places.ensures.listed c.in_ok-numbers.numbers.items c.in_ok-numbers.ensures.items (vec_capacity w.push_reserved.new.self) (vec_capacity c.in_ok-numbers.numbers) for_numbers
            (let e = w.push_reserved.ensures.capacity in omega (arith, e, for_marks))
            w.push_reserved.new.self.items w.mark.result w.in-Settled.ensures.settles w.mark.ensures.mark w.mark.ensures.last (w.push_reserved.ensures.items ∙ ap (λ z. z ++ w.mark.result ∷ []) c.in_ok-marks.ensures.items))
        | in-Dead w ↦ subst (λ m. HasFront new.parts new.history c.in_ok-edge_places.edge_places m.items c.in_ok-numbers.numbers.items (vec_capacity m) (vec_capacity c.in_ok-numbers.numbers)) (sym w.marks-is)
            (open_dead g.P.Propagator.stands c.args.props.now q c.requires c.in_ok-store.store new c.in_ok-store.ensures.parts c.in_ok-store.ensures.now same c.in_ok-edge_places.edge_places c.in_ok-edge_places.ensures.listed c.in_ok-numbers.numbers.items c.in_ok-numbers.ensures.items (vec_capacity c.in_ok-marks.marks) (vec_capacity c.in_ok-numbers.numbers) for_numbers for_marks
            c.in_ok-marks.marks.items w.in-Dead.ensures.settles c.in_ok-marks.ensures.items)
      ],
      elim c.match-settle.branch [
        | in-Settled w ↦ subst (λ m. AreAll (AllStill g.P.Propagator.still c.args.props.now) new.parts new.history m.items) (sym w.marks-is)
            (calm_with (AllStill g.P.Propagator.still c.args.props.now) new.parts new.history c.in_ok-marks.marks.items w.push_reserved.new.self.items w.mark.result
            (calm_none (AllStill g.P.Propagator.still c.args.props.now) new.parts new.history c.in_ok-marks.marks.items c.in_ok-marks.ensures.items)
            (subst (AllStill g.P.Propagator.still c.args.props.now new.parts) (sym w.mark.ensures.last) w.in-Settled.ensures.still) w.push_reserved.ensures.items)
        | in-Dead w ↦ subst (λ m. AreAll (AllStill g.P.Propagator.still c.args.props.now) new.parts new.history m.items) (sym w.marks-is)
            (calm_none (AllStill g.P.Propagator.still c.args.props.now) new.parts new.history c.in_ok-marks.marks.items c.in_ok-marks.ensures.items)
      ],
      (let all = ap (λ (p : Parts). length (shape p)) parts in omega (arith, all, decided)),
    )
