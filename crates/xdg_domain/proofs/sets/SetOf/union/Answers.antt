use Rattle.std.proofs.Common.{arith, ap, ap₂, ◌∙◌, ◌++◌, ◌||◌, inl, inr, subst, sym}
use Rattle.std.specs.List.Sorted.{IsStrictlyIncreasing}
use Rattle.xdg_domain.specs.Joins.{IsUnion}
use Rattle.xdg_domain.proofs.Merging.{united}
use Rattle.xdg_domain.proofs.sets.SetOf.union.Goals.{In_ok-extend_from_slice-2, then-loop-i-test+else-j-theirs, else-loop-i-test}
use Rattle.xdg_domain.proofs.sets.SetOf.union.Goals as goal
use Rattle.xdg_facts.specs.Rises.{has}

-- what is made is the union
is_union : (c : In_ok-extend_from_slice-2) → IsUnion c.as_slice-mine.result.now c.as_slice-theirs.result.now c.extend_from_slice-2.new.self.items
is_union c = united _ _ c.loop-i.numbers.items _ c.loop-i.i c.loop-i.j
    (subst IsStrictlyIncreasing (sym c.as_slice-mine.ensures.value) c.self.invariant)
    (subst IsStrictlyIncreasing (sym c.as_slice-theirs.ensures.value) c.other.invariant)
    (elim c.loop-i-test.branch [ then-loop-i-test+else-j-theirs w ↦ inr (omega (arith, w.if-j-theirs)) | else-loop-i-test w ↦ inl (omega (arith, w.loop-i-test)) ])
    c.loop-i.invariant.2
    (c.in_ok-extend_from_slice-2.ensures.items ∙ ap₂ (λ s t. s ++ t) (c.in_ok-extend_from_slice.ensures.items ∙ ap (λ t. c.loop-i.numbers.items ++ t) c.split_at.ensures.back) c.split_at-2.ensures.back)

pub invariant_of-result : goal.invariant_of-result
invariant_of-result c = (is_union (goal.at.invariant_of-result c).In_ok-extend_from_slice-2).0

pub returns-clause-rising : goal.returns-clause-rising
returns-clause-rising c = (is_union (goal.at.returns-clause-rising c).In_ok-extend_from_slice-2).0

pub returns-clause-members : goal.returns-clause-members
returns-clause-members c n = (is_union (goal.at.returns-clause-members c).In_ok-extend_from_slice-2).1 n
    ∙ ap₂ (λ s t. has s n || has t n) (c.as_slice-mine.ensures.value ∙ c.self.view_is) (c.as_slice-theirs.ensures.value ∙ c.other.view_is)
