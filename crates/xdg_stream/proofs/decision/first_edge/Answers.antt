use Rattle.std.proofs.Common.{◌-◌, arith, length, refl}
use Rattle.xdg_stream.proofs.Named.{first_is}
use Rattle.xdg_stream.proofs.decision.first_edge.Goals as goal

pub overflow_sub-result : goal.overflow_sub-result
overflow_sub-result c =
    let all = c.requires.decisions in
    let sum = (first_is c.args.store.now.parts c.args.edge_places.now c.args.decisions (c.args.decisions - length c.args.edge_places.now) c.requires.listed all refl).1 in
    omega (arith, all, sum)

pub returns : goal.returns
returns c =
    let is = first_is c.args.store.now.parts c.args.edge_places.now c.args.decisions (c.args.decisions - length c.args.edge_places.now) c.requires.listed c.requires.decisions refl in
    record { first = is.0; all = is.1 }
