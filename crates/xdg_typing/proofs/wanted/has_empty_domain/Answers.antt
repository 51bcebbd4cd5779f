use Rattle.std.proofs.Common.{sym, ◌∙◌}
use Rattle.xdg_typing.proofs.Layers.{empty_told, not_empty_here}
use Rattle.xdg_typing.proofs.wanted.has_empty_domain.Goals as goal

pub loop-ty-preserved : goal.loop-ty-preserved
loop-ty-preserved c = λ names known.
    not_empty_here names _ _ _ c.loop-ty-test.true c.ty-item.is (sym (empty_told names _ _ _ (c.head.ensures names known) c.is_empty_domain.ensures) ∙ c.if-is_empty_domain.false) ∙ c.loop-ty.invariant names known
