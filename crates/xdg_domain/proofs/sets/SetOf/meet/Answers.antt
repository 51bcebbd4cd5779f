use Rattle.std.proofs.Common.{arith, ap₂, ◌∙◌, inl, inr, subst, sym}
use Rattle.std.specs.Prelude.{◌&&◌}
use Rattle.std.specs.List.Sorted.{IsStrictlyIncreasing}
use Rattle.xdg_domain.specs.Joins.{IsMeet}
use Rattle.xdg_domain.proofs.Merging.{met}
use Rattle.xdg_domain.proofs.sets.SetOf.meet.Goals.{Left-loop-i, then-loop-i-test+else-j-theirs, else-loop-i-test}
use Rattle.xdg_domain.proofs.sets.SetOf.meet.Goals as goal
use Rattle.xdg_facts.specs.Rises.{has}

-- what is made is the intersection
is_meet : (c : Left-loop-i) → IsMeet c.as_slice-mine.result.now c.as_slice-theirs.result.now c.loop-i.numbers.items
is_meet c = met _ _ _ c.loop-i.i c.loop-i.j
    (subst IsStrictlyIncreasing (sym c.as_slice-mine.ensures.value) c.self.invariant)
    (subst IsStrictlyIncreasing (sym c.as_slice-theirs.ensures.value) c.other.invariant)
    (elim c.loop-i-test.branch [ then-loop-i-test+else-j-theirs w ↦ inr (omega (arith, w.if-j-theirs)) | else-loop-i-test w ↦ inl (omega (arith, w.loop-i-test)) ])
    c.loop-i.invariant.2

pub invariant_of-result : goal.invariant_of-result
invariant_of-result c = (is_meet (goal.at.invariant_of-result c).Left-loop-i).0

pub returns-clause-rising : goal.returns-clause-rising
returns-clause-rising c = (is_meet (goal.at.returns-clause-rising c).Left-loop-i).0

pub returns-clause-members : goal.returns-clause-members
returns-clause-members c n = (is_meet (goal.at.returns-clause-members c).Left-loop-i).1 n
    ∙ ap₂ (λ s t. has s n && has t n) (c.as_slice-mine.ensures.value ∙ c.self.view_is) (c.as_slice-theirs.ensures.value ∙ c.other.view_is)
