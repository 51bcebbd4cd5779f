use Rattle.std.proofs.Common.{sym, ◌∙◌}
use Rattle.xdg_principles.proofs.Compared.{domains_short, domains_end}
use Rattle.xdg_principles.proofs.fitting.same_domains.Goals as goal

pub returns-in-None : goal.returns-in-None
returns-in-None c = sym (domains_short _ _ _ c.loop-ty-test.true c.in-None.ensures.cases) ∙ c.loop-ty.invariant

pub returns : goal.returns
returns c = c.is_empty.ensures ∙ domains_end c.args.a.now c.loop-ty.others.now c.loop-ty.ty-index _ c.loop-ty-test.false c.loop-ty.invariant
