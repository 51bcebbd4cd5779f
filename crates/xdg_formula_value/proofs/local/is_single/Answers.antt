use Rattle.std.proofs.Common.{length}
use Rattle.std.proofs.lemmas.Bool.{leb-true}
use Rattle.xdg_formula_value.proofs.local.is_single.Goals as goal

pub returns : goal.returns
returns c = λ so. (c.removed_since.result.now, leb-true (length c.removed_since.result.now) 1 so, c.removed_since.ensures.names)
