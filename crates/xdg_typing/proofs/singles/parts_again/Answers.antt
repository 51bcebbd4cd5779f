use Rattle.std.proofs.Common.{refl}
use Rattle.xdg_names.proofs.First.{first_change}
use Rattle.xdg_types.specs.Names.{single}
use Rattle.xdg_typing.specs.Listed as listing
use Rattle.xdg_typing.proofs.singles.parts_again.Goals as goal

pub loop-part-preserved : goal.loop-part-preserved
loop-part-preserved c =
    let part = c.part-item.result in
    let stood = c.loop-part.stood in
    rw c.with_part-stood.ensures
    (first_change (listing.parts_again stood) (listing.parts_again (listing.with_part stood (single part.kind))) (listing.part_again stood part) part (λ xs. refl)
    _ _ _ _ _ _ c.loop-part-test.true c.part-item.is c.part_again.ensures c.earlier-found.ensures c.loop-part.invariant)
