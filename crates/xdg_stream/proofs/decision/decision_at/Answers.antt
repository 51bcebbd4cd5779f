use Rattle.std.proofs.Common.{arith, refl, ◌-◌, length}
use Rattle.xdg_stream.proofs.Named.{first_is, place_there, place_number}
use Rattle.xdg_stream.proofs.decision.decision_at.Goals as goal

pub returns : goal.returns
returns c =
    let f = first_is c.args.problem.now c.args.edge_places.now c.args.decisions (c.args.decisions - length c.args.edge_places.now) c.requires.listed c.requires.decisions refl in
    let sum = f.1 in
    let l = c.requires.within in
    let m = c.if-at-first.false in
    let all = c.requires.decisions in
    record {
      is = place_there c.args.problem.now c.args.edge_places.now _ (c.args.at - (c.args.decisions - length c.args.edge_places.now)) c.requires.listed (omega (arith, sum, l, m, all));
      number = place_number c.args.problem.now c.args.edge_places.now _ c.args.at (c.args.decisions - length c.args.edge_places.now) c.requires.listed f.0 (omega (arith, m)) (omega (arith, sum, l, m, all));
    }
