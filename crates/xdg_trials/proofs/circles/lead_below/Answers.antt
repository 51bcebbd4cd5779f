use Rattle.std.proofs.Common.{◌<◌, inl, inr, get_or, subst}
use Rattle.std.proofs.lemmas.List.{get_or_default}
use Rattle.xdg_names.specs.declared.graph.Use.{Use}
use Rattle.xdg_trials.proofs.circles.lead_below.Goals as goal
use Rattle.xdg_facts.proofs.In.{in_drop}

pub loop-next-preserved : goal.loop-next-preserved
loop-next-preserved c = λ u h.
    let x : Use = get_or c.args.uses.now c.loop-next.next-index (record { to = 0; at = 0 }) in
    elim (c.loop-next.invariant u h) [
      | inl left ↦ elim (in_drop c.args.uses.now c.loop-next.next-index x u c.loop-next-test.true (get_or_default c.args.uses.now c.loop-next.next-index (record { to = 0; at = 0 }) x c.loop-next-test.true) left) [
        | inl is ↦ inr (subst (λ (y : Use). y.to < c.args.count) is c.if-next-count.false)
        | inr rest ↦ inl rest
      ]
      | inr below ↦ inr below
    ]
