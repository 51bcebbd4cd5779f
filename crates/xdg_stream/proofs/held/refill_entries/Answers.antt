use Rattle.std.proofs.Common.{arith, ap, sym, ◌∙◌, ℕ, ◌++◌, ◌∷◌, [], get_or}
use Rattle.std.specs.Prelude.{slice_index_or}
use Rattle.std.proofs.lemmas.List.{get_or_default}
use Rattle.std.specs.Vec.{vec_capacity}
use Rattle.xdg_stream.proofs.Filling.{entries_none, entries_zip}
use Rattle.xdg_stream.proofs.Zipped.{zip_rest, zip_room, zip_turn}
use Rattle.xdg_stream.proofs.held.refill_entries.Goals as goal

pub loop-node-init : goal.loop-node-init
loop-node-init c = record { items = c.clear.ensures.items ∙ sym (entries_none c.args.candidates.now); room = c.clear.ensures.capacity }

pub returns-then-node-candidates-clause-items : goal.returns-then-node-candidates-clause-items
returns-then-node-candidates-clause-items c = zip_rest entries_zip [] c.args.candidates.now c.args.numbers.now c.loop-node.node (omega arith) c.loop-node.held.items c.loop-node.invariant.items (omega arith)

pub push_reserved-requires : goal.push_reserved-requires
push_reserved-requires c =
    let room = zip_room entries_zip [] c.args.candidates.now c.args.numbers.now c.loop-node.node (omega arith) c.loop-node.held.items (vec_capacity c.args.held.now) c.loop-node.invariant.items (omega arith) (let r = c.requires in omega (arith, r)) in
    let same = c.loop-node.invariant.room in
    omega (arith, room, same)

pub loop-node-preserved : goal.loop-node-preserved
loop-node-preserved c =
    let x : ℕ = get_or c.args.numbers.now c.loop-node.node 0 in
    let candidates = c.index-candidates-node.result in
    record {
      items = zip_turn entries_zip [] c.args.candidates.now c.args.numbers.now c.loop-node.node (omega arith) c.loop-node.held.items c.push_reserved.new.self.items candidates x c.loop-node.invariant.items (omega arith) c.index-candidates-node.is
          (get_or_default c.args.numbers.now c.loop-node.node 0 x (omega arith))
          (c.push_reserved.ensures.items ∙ ap (λ z. c.loop-node.held.items ++ z ∷ []) (c.candidate_at.ensures ∙ ap (λ z. slice_index_or z x (record { 0 = 0 })) c.as_slice.ensures));
      room = c.push_reserved.ensures.capacity ∙ c.loop-node.invariant.room;
    }
