use Rattle.std.proofs.Common.{arith, ap, ◌∙◌, ◌++◌, ◌∷◌, [], get_or}
use Rattle.std.proofs.lemmas.List.{get_or_default}
use Rattle.xdg_base.specs.declared.ids.EntryNo.{EntryNo}
use Rattle.xdg_problem.specs.Vectors.{place_among}
use Rattle.std.specs.Vec.{vec_capacity}
use Rattle.xdg_stream.proofs.Written.{places_zip}
use Rattle.xdg_stream.proofs.Zipped.{zip_rest, zip_room, zip_turn}
use Rattle.xdg_stream.proofs.starting.push_entries.Goals as goal

pub returns-then-node-candidates-clause-items : goal.returns-then-node-candidates-clause-items
returns-then-node-candidates-clause-items c = zip_rest places_zip c.args.numbers.now.items c.args.candidates.now c.args.entries.now c.loop-node.node (omega arith) c.loop-node.numbers.items c.loop-node.invariant.items (omega arith)

pub push_reserved-requires : goal.push_reserved-requires
push_reserved-requires c =
    let room = zip_room places_zip c.args.numbers.now.items c.args.candidates.now c.args.entries.now c.loop-node.node (omega arith) c.loop-node.numbers.items (vec_capacity c.args.numbers.now) c.loop-node.invariant.items (omega arith) c.requires.room in
    let same = c.loop-node.invariant.room in
    omega (arith, room, same)

pub loop-node-preserved : goal.loop-node-preserved
loop-node-preserved c =
    let entry : EntryNo = get_or c.args.entries.now c.loop-node.node (record { 0 = 0 }) in
    let candidates = c.index-candidates-node.result in
    record {
      items = zip_turn places_zip c.args.numbers.now.items c.args.candidates.now c.args.entries.now c.loop-node.node (omega arith) c.loop-node.numbers.items c.push_reserved.new.self.items candidates entry c.loop-node.invariant.items (omega arith) c.index-candidates-node.is
          (get_or_default c.args.entries.now c.loop-node.node (record { 0 = 0 }) entry (omega arith))
          (c.push_reserved.ensures.items ∙ ap (λ z. c.loop-node.numbers.items ++ z ∷ []) (c.place_of.ensures ∙ ap (λ z. place_among z entry) c.as_slice.ensures));
      room = c.push_reserved.ensures.capacity ∙ c.loop-node.invariant.room;
    }
