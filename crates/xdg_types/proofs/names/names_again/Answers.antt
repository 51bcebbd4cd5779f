use Rattle.std.proofs.Common.{refl}
use Rattle.xdg_names.proofs.First.{first_change}
use Rattle.xdg_types.specs.NameFaults as spec
use Rattle.xdg_types.proofs.names.names_again.Goals as goal

pub loop-name-preserved : goal.loop-name-preserved
loop-name-preserved c =
    rw c.in_ok-repeated.ensures.seen
    (first_change (spec.repeats c.loop-name.seen) (spec.repeats (spec.with_text c.loop-name.seen c.name-item.result.text)) (spec.repeated c.loop-name.seen c.name-item.result) c.name-item.result (λ xs. refl) _ _ _ _ _ _ c.loop-name-test.true c.name-item.is c.in_ok-repeated.ensures.found c.earlier-found.ensures c.loop-name.invariant)
