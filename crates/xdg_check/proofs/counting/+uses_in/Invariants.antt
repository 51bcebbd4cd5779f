use Rattle.std.proofs.Common.{◌≡◌, ◌≤◌, ◌+◌, ◌-◌, ◌^◌, drop}
use Rattle.xdg_classes.proofs.Bodied.{trees}
use Rattle.xdg_check.specs.Counts as spec
use Rattle.xdg_check.proofs.counting.+uses_in.Given as goal
use Rattle.xdg_facts.specs.Capped.{capped}

abbrev pub invariant-loop-member : goal.invariant-loop-member
invariant-loop-member l =
    let names = spec.looked_up (λ c. c.uses) l.names l.classes in
    (l.sum ≤ 2 ^ 64 - 1) × (capped (l.sum + spec.sum_of_uses names (trees (drop l.member-index l.member-items))) ≡ capped (spec.sum_of_uses names (trees l.member-items)))

abbrev pub invariant-loop-member-2 : goal.invariant-loop-member-2
invariant-loop-member-2 l =
    let names = spec.looked_up (λ c. c.uses) l.names l.classes in
    (l.sum ≤ 2 ^ 64 - 1) × (capped (l.sum + spec.sum_of_uses names (trees (drop l.member-index l.member-items))) ≡ capped (spec.sum_of_uses names (trees l.member-items)))
