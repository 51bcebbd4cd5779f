use Rattle.std.proofs.Common.{ap, sym, ◌∙◌, subst}
use Rattle.std.specs.Prelude.{eqb}
use Rattle.std.specs.List.Sorted.{IsStrictlyIncreasing}
use Rattle.std.proofs.lemmas.List.Filters.{dedup_is}
use Rattle.std.proofs.lemmas.Map.Keys.{IsStrictlyIncreasing-dedup}
use Rattle.xdg_domain.proofs.sets.SetOf.of.Goals.{After-dedup}
use Rattle.xdg_domain.proofs.sets.SetOf.of.Goals as goal
use Rattle.xdg_facts.specs.Rises.{has}
use Rattle.xdg_facts.proofs.Sorting.{dedup_has, permuted_has}

rises : (c : After-dedup) → IsStrictlyIncreasing c.dedup.new.self.items
rises c =
    let sorted = c.sort_unstable.new.self.items in
    subst IsStrictlyIncreasing (sym (dedup_is eqb sorted c.dedup.new.self.items c.dedup.ensures.filtered)) (IsStrictlyIncreasing-dedup sorted c.sort_unstable.ensures.sorted)

pub invariant_of-result : goal.invariant_of-result
invariant_of-result c = rises (goal.at.invariant_of-result c).After-dedup

pub returns-clause-rising : goal.returns-clause-rising
returns-clause-rising c = rises (goal.at.returns-clause-rising c).After-dedup

pub returns-clause-members : goal.returns-clause-members
returns-clause-members c n =
    let sorted = c.sort_unstable.new.self.items in
    ap (λ s. has s n) (dedup_is eqb sorted c.dedup.new.self.items c.dedup.ensures.filtered)
    ∙ dedup_has sorted n
    ∙ permuted_has c.in_ok-list.list.items sorted n c.sort_unstable.ensures.permutation
    ∙ ap (λ s. has s n) c.in_ok-list.ensures.items
