use Rattle.std.proofs.Common.{◌*◌, ◌<◌, arith, subst, slice_index}
use Rattle.xdg_problem.specs.Vectors.{shape}
use Rattle.xdg_store.specs.Decisions.{IsDecision, number_of}
use Rattle.xdg_stream.proofs.Named.{has_candidate, has_value, edge_value}
use Rattle.xdg_stream.proofs.OtherValues.{block_removed, edge_removed}
use Rattle.xdg_stream.proofs.decision.remove_others.Goals as goal

pub remove_entries-requires : goal.remove_entries-requires
remove_entries-requires c =
    let parts = c.args.store.now.parts in
    has_candidate parts c.in-Entry.node.0 (c.args.block * 64) c.requires.known.problem (subst (IsDecision parts) c.in-Entry.is c.requires.is) (subst (λ d. c.args.block * 64 < slice_index (shape parts) (number_of parts d)) c.in-Entry.is c.requires.block)

pub remove_attrs-requires : goal.remove_attrs-requires
remove_attrs-requires c =
    let parts = c.args.store.now.parts in
    has_value parts c.in-Attr.node.0 c.in-Attr.dim.0 c.in-Attr.attr.0 (c.args.block * 64) c.requires.known.problem (subst (IsDecision parts) c.in-Attr.is c.requires.is) (subst (λ d. c.args.block * 64 < slice_index (shape parts) (number_of parts d)) c.in-Attr.is c.requires.block)

pub returns-in-Entry-clause-removes : goal.returns-in-Entry-clause-removes
returns-in-Entry-clause-removes c = block_removed c.remove_entries.result c.args.store.now c.remove_entries.new.self c.args.decision _ c.args.block c.args.value c.others_in-others.result c.in-Entry.is c.others_in-others.ensures c.remove_entries.ensures.removes

pub returns-in-Attr-clause-removes : goal.returns-in-Attr-clause-removes
returns-in-Attr-clause-removes c = block_removed c.remove_attrs.result c.args.store.now c.remove_attrs.new.self c.args.decision _ c.args.block c.args.value c.others_in-others.result c.in-Attr.is c.others_in-others.ensures c.remove_attrs.ensures.removes

pub returns-then-value-eq0-clause-removes : goal.returns-then-value-eq0-clause-removes
returns-then-value-eq0-clause-removes c = edge_removed c.force_edge.result c.args.store.now c.force_edge.new.self c.args.decision c.in-Place.edge c.args.block c.args.value 1 c.in-Place.is c.requires.known c.requires.is c.requires.block c.requires.value (let zero = c.if-value-eq0.true in omega (arith, zero)) c.force_edge.ensures.removes

pub returns-else-value-eq0-clause-removes : goal.returns-else-value-eq0-clause-removes
returns-else-value-eq0-clause-removes c =
    let parts = c.args.store.now.parts in
    let small = edge_value parts c.in-Place.edge c.args.value (subst (IsDecision parts) c.in-Place.is c.requires.is) (subst (λ d. c.args.value < slice_index (shape parts) (number_of parts d)) c.in-Place.is c.requires.value) in
    let some = c.if-value-eq0.false in
    edge_removed c.forbid_edge.result c.args.store.now c.forbid_edge.new.self c.args.decision c.in-Place.edge c.args.block c.args.value 0 c.in-Place.is c.requires.known c.requires.is c.requires.block c.requires.value (omega (arith, small, some)) c.forbid_edge.ensures.removes
