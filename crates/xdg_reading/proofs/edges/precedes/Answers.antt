use Rattle.xdg_reading.proofs.Turns.{precedes_told}
use Rattle.xdg_reading.proofs.edges.precedes.Goals as goal

pub returns : goal.returns
returns c = precedes_told c.args.a.now c.args.b.now c.is_before.result c.is_before.ensures.exact
