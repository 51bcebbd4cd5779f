use Rattle.std.proofs.Common.{subst, sym}
use Rattle.xdg_store.specs.Across.{Forbids}
use Rattle.xdg_store.specs.declared.decision.Decision.TheVariants as decisions
use Rattle.xdg_store.proofs.Histories.{known_of}
use Rattle.xdg_store.proofs.Kept.{edge_fits, kept_forbidden}
use Rattle.xdg_store.proofs.Noting.{LeavesOne, removes_seen, room_left, steps_after}
use Rattle.xdg_store.proofs.Pairs.{edge_seen, forbid_bits, pair_room, pair_taken, pair_within}
use Rattle.xdg_store.proofs.store.Store.forbid_edge.Goals as goal

taken : (c : goal.After-note-arg-1) → LeavesOne c.self.inside.problem.now c.take_of_pair-change.result c.self.inside.trail c.take_of_pair-change.new.trail c.self.inside.turns (decisions.Place c.args.edge) 0
taken c = pair_taken c.self.invariant.0 (forbid_bits (edge_seen c.self.invariant.0 c.self.view_is c.requires c.self.invariant.1 c.edge_row-row.ensures)) c.take_of_pair-change.ensures

pub take_of_pair-change-requires : goal.take_of_pair-change-requires
take_of_pair-change-requires c =
    let bits = forbid_bits (edge_seen c.self.invariant.0 c.self.view_is c.requires c.self.invariant.1 c.edge_row-row.ensures) in
    let within = pair_within c.self.invariant.0 bits in
    record { bit_within = within.0; other_within = within.1; room = pair_room c.self.invariant.0 bits }

pub renew_forbidden-requires-clause-fits : goal.renew_forbidden-requires-clause-fits
renew_forbidden-requires-clause-fits c = edge_fits c.self.invariant.0 c.self.view_is c.requires c.self.invariant.1 c.self.invariant.4

pub note-requires : goal.note-requires
note-requires c = record { room = room_left (taken c) c.self.invariant.3 }

pub invariant_of-self : goal.invariant_of-self
invariant_of-self c =
    let l = taken c.before in (
      l.keeps,
      c.self.invariant.1,
      c.self.invariant.2,
      steps_after l c.self.invariant.3 c.note.ensures.items c.note.ensures.room,
      kept_forbidden l c.self.invariant.4 (subst (λ n. Forbids c.take_of_pair-change.result n c.args.edge c.self.inside.across.items c.renew_forbidden.new.rows.items) c.self.invariant.1 c.renew_forbidden.ensures.forbids),
      c.renew_forbidden.ensures.told c.self.inside.problem.now l.kept.problem (sym c.self.invariant.1) l.is c.self.invariant.5,
    )

pub returns-clause-removes : goal.returns-clause-removes
returns-clause-removes c = removes_seen (taken c.before) c.self.view_is

pub returns-clause-known : goal.returns-clause-known
returns-clause-known c = known_of c.self.inside.problem.now c.self.inside.turns c.take_of_pair-change.new.trail (taken c.before).keeps
