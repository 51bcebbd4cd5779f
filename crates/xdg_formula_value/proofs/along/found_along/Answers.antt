use Rattle.std.proofs.Common.{refl}
use Rattle.xdg_problem.specs.Claims.{claim}
use Rattle.xdg_graph.specs.Edges.{edges_of}
use Rattle.xdg_formula_value.proofs.Within.{Along, along_over, along_under, seen_any, unseen}
use Rattle.xdg_formula_value.proofs.along.found_along.Goals as goal

pub returns-then-is_few-clause-finds : goal.returns-then-is_few-clause-finds
returns-then-is_few-clause-finds c = seen_any c.args.store.now.parts c.args.store.now.now (claim c.args.formula.now) c.args.truth (Along c.args.store.now.parts c.args.store.now.now (claim c.args.formula.now) c.args.truth c.args.free c.args.names (edges_of c.args.which c.args.store.now.parts c.args.store.now.now c.args.dim.0) c.args.edge c.args.upper c.args.lower) c.args.seen.now c.found_within.result
    (along_under c.args.store.now.parts c.args.store.now.now (claim c.args.formula.now) c.args.truth c.args.free c.args.names (edges_of c.args.which c.args.store.now.parts c.args.store.now.now c.args.dim.0) c.args.edge c.args.upper c.args.lower c.reach_with-under.result c.found_within.result c.reach_with-under.ensures c.found_within.ensures)

pub returns-then-is_few-2-clause-finds : goal.returns-then-is_few-2-clause-finds
returns-then-is_few-2-clause-finds c = seen_any c.args.store.now.parts c.args.store.now.now (claim c.args.formula.now) c.args.truth (Along c.args.store.now.parts c.args.store.now.now (claim c.args.formula.now) c.args.truth c.args.free c.args.names (edges_of c.args.which c.args.store.now.parts c.args.store.now.now c.args.dim.0) c.args.edge c.args.upper c.args.lower) c.args.seen.now c.found_within-then-is_few-2.result
    (along_over c.args.store.now.parts c.args.store.now.now (claim c.args.formula.now) c.args.truth c.args.free c.args.names (edges_of c.args.which c.args.store.now.parts c.args.store.now.now c.args.dim.0) c.args.edge c.args.upper c.args.lower c.reach_with-over.result c.found_within-then-is_few-2.result c.reach_with-over.ensures c.found_within-then-is_few-2.ensures)

pub returns-clause-finds : goal.returns-clause-finds
returns-clause-finds c = unseen c.args.store.now.parts c.args.store.now.now (claim c.args.formula.now) c.args.truth (Along c.args.store.now.parts c.args.store.now.now (claim c.args.formula.now) c.args.truth c.args.free c.args.names (edges_of c.args.which c.args.store.now.parts c.args.store.now.now c.args.dim.0) c.args.edge c.args.upper c.args.lower) _ c.found_near.result refl c.found_near.ensures
