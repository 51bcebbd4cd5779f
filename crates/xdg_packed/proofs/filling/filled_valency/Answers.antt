use Rattle.std.proofs.Common.{◌+◌, [], ◌∷◌, ◌++◌, ap, sym, ◌∙◌, subst}
use Rattle.std.specs.Option.{option_copied}
use Rattle.xdg_domain.specs.Keys.{KeysBelow}
use Rattle.xdg_domain.specs.Valencies.{said_at}
use Rattle.xdg_domain.proofs.KeyAfterKey.{below_more}
use Rattle.xdg_packed.specs.Filled.{cards_said, or_zero}
use Rattle.xdg_packed.proofs.Steps.{cards_more}
use Rattle.xdg_packed.proofs.filling.filled_valency.Goals as goal

pub loop-key-preserved : goal.loop-key-preserved
loop-key-preserved c =
    let key = c.loop-key.key in
    let said = cards_said (option_copied c.args.said) in
    let e = c.in_ok-add.ensures.ok ∙ ap (λ x. c.loop-key.all ++ (key, x) ∷ []) c.cards_of.ensures in (
      subst (KeysBelow (key + 1)) (sym e) (below_more c.loop-key.all key (or_zero (said_at said key)) c.loop-key.invariant.0),
      e ∙ ap (λ s. s ++ (key, or_zero (said_at said key)) ∷ []) c.loop-key.invariant.1 ∙ cards_more said key,
    )
