use Rattle.std.proofs.Common.{◌+◌, [], ◌∷◌, ◌++◌, ap, sym, ◌∙◌, subst}
use Rattle.xdg_domain.specs.Keys.{KeysBelow}
use Rattle.xdg_domain.proofs.KeyAfterKey.{below_more}
use Rattle.xdg_domain.proofs.Each.{each_more}
use Rattle.xdg_domain.proofs.defaults.zeros.Goals as goal

pub loop-key-preserved : goal.loop-key-preserved
loop-key-preserved c =
    let key = c.loop-key.key in
    let e = c.in_ok-add.ensures.ok ∙ ap (λ x. c.loop-key.map ++ (key, x) ∷ []) c.one.ensures.value in (
      subst (KeysBelow (key + 1)) (sym e) (below_more c.loop-key.map key (0 ∷ []) c.loop-key.invariant.0),
      e ∙ ap (λ s. s ++ (key, 0 ∷ []) ∷ []) c.loop-key.invariant.1 ∙ each_more key (0 ∷ []),
    )
