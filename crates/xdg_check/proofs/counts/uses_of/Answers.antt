use Rattle.std.proofs.Common.{ap}
use Rattle.xdg_classes.specs.Bodies.{body}
use Rattle.xdg_check.proofs.Told.{uses_told}
use Rattle.xdg_check.proofs.counts.uses_of.Goals as goal

pub returns : goal.returns
returns c =
    uses_told c.args.checked.now.classes c.checked.inside.classes c.as_slice.result.now c.checked.inside.names (ap (λ p. p.classes) c.checked.view_is) c.as_slice.ensures c.checked.invariant.1 (body c.args.expr.now.kind) c.uses_in.result
    c.checked.invariant.0.uses c.uses_in.ensures
