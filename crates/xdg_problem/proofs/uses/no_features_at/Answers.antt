use Rattle.std.proofs.Common.{◌++◌, ◌∷◌, [], sym, ap, ◌∙◌}
use Rattle.xdg_problem.proofs.Turning.{nothing_more}
use Rattle.xdg_problem.proofs.uses.no_features_at.Goals as goal

pub loop-entry-preserved : goal.loop-entry-preserved
loop-entry-preserved c =
    c.in_ok-push.ensures.ok ∙ (ap (λ z. c.loop-entry.made ++ z ∷ []) c.new.ensures ∙ (ap (λ z. z ++ [] ∷ []) c.loop-entry.invariant ∙ sym (nothing_more c.args.entries.now c.loop-entry._entry-index c.loop-entry-test.true)))
