use Rattle.xdg_problem.specs.Claims.{claim}
use Rattle.xdg_graph.specs.Edges.{edges_of}
use Rattle.xdg_propcore.specs.Standing.{box_at}
use Rattle.xdg_formula_value.proofs.Within.{Along, Moved, moved_along, moved_stay, seen_any, seen_through}
use Rattle.xdg_formula_value.proofs.along.found_path.Goals as goal

pub returns-then-are_paths_kept-clause-finds : goal.returns-then-are_paths_kept-clause-finds
returns-then-are_paths_kept-clause-finds c = seen_any c.args.store.now.parts c.args.store.now.now (claim c.args.formula.now) c.args.truth (Moved c.args.store.now.parts c.args.store.now.now (claim c.args.formula.now) c.args.truth (box_at c.args.store.now c.args.since) c.args.free c.args.names c.args.decision c.args.dim.0 c.args.upper c.args.lower) c.args.seen.now _ (moved_stay c.args.store.now.parts c.args.store.now.now (claim c.args.formula.now) c.args.truth (box_at c.args.store.now c.args.since) c.args.free c.args.names c.args.decision c.args.dim.0 c.args.upper c.args.lower c.in-Place.edge c.in-Place.is (c.are_paths_kept.ensures c.if-are_paths_kept.true))

pub returns-else-are_paths_kept-clause-finds : goal.returns-else-are_paths_kept-clause-finds
returns-else-are_paths_kept-clause-finds c = seen_through c.args.store.now.parts c.args.store.now.now (claim c.args.formula.now) c.args.truth (Moved c.args.store.now.parts c.args.store.now.now (claim c.args.formula.now) c.args.truth (box_at c.args.store.now c.args.since) c.args.free c.args.names c.args.decision c.args.dim.0 c.args.upper c.args.lower) (Along c.args.store.now.parts c.args.store.now.now (claim c.args.formula.now) c.args.truth c.args.free c.args.names (edges_of c.edges_by-which.result c.args.store.now.parts c.args.store.now.now c.args.dim.0) c.in-Place.edge c.args.upper c.args.lower) c.found_along.new.seen c.found_along.result
    (λ finds. moved_along c.args.store.now.parts c.args.store.now.now (claim c.args.formula.now) c.args.truth (box_at c.args.store.now c.args.since) c.args.free c.args.names c.args.decision c.args.dim.0 c.args.upper c.args.lower c.in-Place.edge c.edges_by-which.result c.found_along.result c.in-Place.is c.edges_by-which.ensures finds) c.found_along.ensures.finds
