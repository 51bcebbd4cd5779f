use Rattle.std.proofs.Common.{sym, ◌∙◌, true, false}
use Rattle.xdg_typing.proofs.Layers.{domain_told, domain_here}
use Rattle.xdg_typing.proofs.wanted.are_domains.Goals as goal

pub loop-ty-preserved : goal.loop-ty-preserved
loop-ty-preserved c = λ names known.
    domain_here names _ _ _ true c.loop-ty-test.true c.ty-item.is (sym (domain_told names _ _ _ (c.head.ensures names known) c.is_domain.ensures) ∙ c.if-not-is_domain.false) ∙ c.loop-ty.invariant names known

pub returns-then-not-is_domain : goal.returns-then-not-is_domain
returns-then-not-is_domain c = λ names known.
    domain_here names _ _ _ false c.loop-ty-test.true c.ty-item.is (sym (domain_told names _ _ _ (c.head.ensures names known) c.is_domain.ensures) ∙ c.if-not-is_domain.true) ∙ c.loop-ty.invariant names known
