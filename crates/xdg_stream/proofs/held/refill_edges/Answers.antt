use Rattle.std.proofs.Common.{[], ◌∙◌, ℕ, arith, get_or, sym}
use Rattle.std.proofs.lemmas.List.{get_or_default}
use Rattle.xdg_problem.specs.declared.analysis.Edge.{Edge}
use Rattle.xdg_problem.specs.Places.{edge}
use Rattle.std.specs.Vec.{vec_capacity}
use Rattle.xdg_stream.proofs.Filling.{chosen_none, edges_zip, item_there, no_item}
use Rattle.xdg_stream.proofs.Zipped.{zip_rest, zip_room, zip_turn}
use Rattle.xdg_stream.proofs.held.refill_edges.Goals as goal

pub loop-place-init : goal.loop-place-init
loop-place-init c = record { items = c.clear.ensures.items ∙ sym (chosen_none c.args.edge_places.now); room = c.clear.ensures.capacity }

pub returns-then-place-edge_places-clause-items : goal.returns-then-place-edge_places-clause-items
returns-then-place-edge_places-clause-items c = zip_rest edges_zip [] c.args.edge_places.now c.args.numbers.now c.loop-place.place (omega arith) c.loop-place.held.items c.loop-place.invariant.items (omega arith)

pub push_reserved-requires : goal.push_reserved-requires
push_reserved-requires c =
    let room =
    zip_room edges_zip [] c.args.edge_places.now c.args.numbers.now c.loop-place.place (omega arith) c.loop-place.held.items (vec_capacity c.args.held.now) c.loop-place.invariant.items (omega arith) (let r = c.requires in omega (arith, r)) in
    let same = c.loop-place.invariant.room in
    omega (arith, room, same)

pub loop-place-preserved-then-number-ne0 : goal.loop-place-preserved-then-number-ne0
loop-place-preserved-then-number-ne0 c =
    let x : ℕ = get_or c.args.numbers.now c.loop-place.place 0 in
    let e : Edge = get_or c.args.edge_places.now c.loop-place.place (edge 0 0 0 0) in
    record {
      items = zip_turn edges_zip [] c.args.edge_places.now c.args.numbers.now c.loop-place.place (omega arith) c.loop-place.held.items c.loop-place.held.items e x c.loop-place.invariant.items (omega arith)
          (get_or_default c.args.edge_places.now c.loop-place.place (edge 0 0 0 0) e (omega arith))
          (get_or_default c.args.numbers.now c.loop-place.place 0 x (omega arith)) (no_item c.loop-place.held.items e x c.if-number-ne0.true);
      room = c.loop-place.invariant.room;
    }

pub loop-place-preserved : goal.loop-place-preserved
loop-place-preserved c =
    let x : ℕ = get_or c.args.numbers.now c.loop-place.place 0 in
    let e : Edge = get_or c.args.edge_places.now c.loop-place.place (edge 0 0 0 0) in
    record {
      items = zip_turn edges_zip [] c.args.edge_places.now c.args.numbers.now c.loop-place.place (omega arith) c.loop-place.held.items c.push_reserved.new.self.items e x c.loop-place.invariant.items (omega arith)
          (get_or_default c.args.edge_places.now c.loop-place.place (edge 0 0 0 0) e (omega arith))
          (get_or_default c.args.numbers.now c.loop-place.place 0 x (omega arith)) (c.push_reserved.ensures.items ∙ item_there c.loop-place.held.items e x c.if-number-ne0.false);
      room = c.push_reserved.ensures.capacity ∙ c.loop-place.invariant.room;
    }
