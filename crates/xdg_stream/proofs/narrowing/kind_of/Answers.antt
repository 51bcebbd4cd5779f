use Rattle.std.proofs.Common.{arith, subst}
use Rattle.xdg_store.specs.Decisions.{IsDecision}
use Rattle.xdg_stream.proofs.Since.{attr_in, edge_in, entry_in}
use Rattle.xdg_stream.proofs.narrowing.kind_of.Goals as goal
use Rattle.xdg_problem.proofs.PlacePlans.{dim_within}

pub attrs-requires : goal.attrs-requires
attrs-requires c =
    let there = subst (IsDecision c.args.problem.now) c.in-Attr.is c.requires.is in
    let l = there.0 in
    let m = c.requires.problem.dims_most in
    omega (arith, l, m)

pub edges-requires : goal.edges-requires
edges-requires c =
    let there = subst (IsDecision c.args.problem.now) c.in-Place.is c.requires.is in
    let l = dim_within c.args.problem.now c.in-Place.edge there in
    let m = c.requires.problem.dims_most in
    omega (arith, l, m)

pub returns-in-Entry : goal.returns-in-Entry
returns-in-Entry c = entry_in c.args.problem.now c.args.decision c.entries.result.0 c.requires.problem c.requires.is _ c.in-Entry.is c.entries.ensures

pub returns-in-Attr : goal.returns-in-Attr
returns-in-Attr c = attr_in c.args.problem.now c.args.decision c.attrs.result.0 c.requires.problem c.requires.is c.in-Attr.dim _ _ c.in-Attr.is c.attrs.ensures

pub returns-in-Place : goal.returns-in-Place
returns-in-Place c = edge_in c.args.problem.now c.args.decision c.edges.result.0 c.requires.problem c.requires.is c.in-Place.edge c.in-Place.is c.edges.ensures
