use Rattle.std.proofs.Common.{arith}
use Rattle.xdg_judge.proofs.AtomFacts.{no_edge}
use Rattle.xdg_judge.proofs.atoms.is_edge.Goals as goal

pub returns-then-at-len : goal.returns-then-at-len
returns-then-at-len c =
    let past = c.if-at-len.true in
    let at = c.from-at.ensures in
    let count = c.len.ensures in
    no_edge c.args.parts.now c.args.analysis.now c.args.tables.now c.args.dim.0 c.args.mother c.args.label.0 c.args.daughter c.requires.ready (omega (arith, past, at, count))
