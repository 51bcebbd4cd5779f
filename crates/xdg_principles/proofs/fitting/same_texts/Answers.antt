use Rattle.std.proofs.Common.{sym, ◌∙◌}
use Rattle.xdg_principles.proofs.Compared.{texts_short}
use Rattle.xdg_principles.proofs.fitting.same_texts.Goals as goal

pub returns-in-None : goal.returns-in-None
returns-in-None c = sym (texts_short _ _ _ c.loop-text-test.true c.in-None.ensures.cases) ∙ c.loop-text.invariant
