use Rattle.std.proofs.Common.{refl}
use Rattle.xdg_judge.proofs.asking.passes_between.Goals as goal
use Rattle.xdg_facts.proofs.Facts.{between_end}

pub returns : goal.returns
returns c = between_end c.is_above.result _ _ _ (c.if-not-is_daughter.ensures.0 refl) (c.if-not-is_between.ensures.0 refl) c.is_above.ensures
