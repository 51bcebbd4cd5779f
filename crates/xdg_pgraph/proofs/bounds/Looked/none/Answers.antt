use Rattle.std.proofs.Common.{arith}
use Rattle.xdg_pgraph.proofs.bounds.Looked.none.Goals as goal

pub returns : goal.returns
returns c = (c.none.ensures.behind, (let l = c.none.ensures.least 129 (omega arith) in omega (arith, l)))
