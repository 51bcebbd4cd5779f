use Rattle.std.proofs.Common.{◌*◌}
use Rattle.xdg_store.specs.Change.{IsTaken}
use Rattle.xdg_store.specs.declared.decision.Decision.TheVariants as decisions
use Rattle.xdg_store.proofs.Histories.{known_of}
use Rattle.xdg_store.proofs.Kept.{kept_by_other}
use Rattle.xdg_store.proofs.Noting.{LeavesAll, removes_seen, room_left, steps_after}
use Rattle.xdg_store.proofs.Rowwise.{IsRow, entry_found, block_room, block_taken}
use Rattle.xdg_store.proofs.store.Store.remove_entries.Goals as goal

its_row : (c : goal.After-take_of_block-arg-1) → IsRow c.self.inside.problem.now (decisions.Entry c.args.node) c.entry_row-row.result c.len-size.result (c.args.block * 64)
its_row c = entry_found c.self.invariant.0 c.self.view_is c.args.node c.requires c.entry_row-row.ensures c.parts.ensures.same c.as_slice-candidates.ensures c.index-candidates-node.is c.len-size.ensures

taken : (c : goal.After-note-arg-1)
    → LeavesAll c.self.inside.problem.now c.take_of_block-change.result c.self.inside.trail c.take_of_block-change.new.trail c.self.inside.turns (decisions.Entry c.args.node) (IsTaken c.args.block c.args.taken)
taken c = block_taken c.self.invariant.0 (its_row c.before.before) c.args.block c.args.taken c.take_of_block-change.ensures

pub take_of_block-change-requires-clause-block : goal.take_of_block-change-requires-clause-block
take_of_block-change-requires-clause-block c = (its_row c).within

pub take_of_block-change-requires-clause-room : goal.take_of_block-change-requires-clause-room
take_of_block-change-requires-clause-room c = block_room c.self.invariant.0 (its_row c)

pub note-requires : goal.note-requires
note-requires c = record { room = room_left (taken c) c.self.invariant.3 }

pub invariant_of-self : goal.invariant_of-self
invariant_of-self c =
    let l = taken c.before in
    (l.keeps, c.self.invariant.1, c.self.invariant.2, steps_after l c.self.invariant.3 c.note.ensures.items c.note.ensures.room, kept_by_other l (λ e q. cc) c.self.invariant.4, c.self.invariant.5)

pub returns-clause-removes : goal.returns-clause-removes
returns-clause-removes c = removes_seen (taken c.before) c.self.view_is

pub returns-clause-known : goal.returns-clause-known
returns-clause-known c = known_of c.self.inside.problem.now c.self.inside.turns c.take_of_block-change.new.trail (taken c.before).keeps
