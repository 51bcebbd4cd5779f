use Rattle.std.proofs.Common.{arith, ap, sym, ◌∙◌, ◌++◌, ◌∷◌, [], subst}
use Rattle.std.specs.List.Sorted.{IsStrictlyIncreasing}
use Rattle.xdg_domain.proofs.sets.SetOf.full.Goals as goal
use Rattle.xdg_facts.proofs.Sorting.{range_rises, range_more}

pub loop-next-preserved : goal.loop-next-preserved
loop-next-preserved c = (omega (arith, c.loop-next-test.true), c.in_ok-push.ensures.items ∙ ap (λ s. s ++ c.loop-next.next ∷ []) c.loop-next.invariant.1 ∙ range_more c.loop-next.next)

pub invariant_of-result : goal.invariant_of-result
invariant_of-result c = subst IsStrictlyIncreasing (sym c.loop-next.invariant.1) (range_rises 0 c.loop-next.next)
