use Rattle.std.proofs.Common.{◌≡◌, [], map, take}
use Rattle.xdg_problem.proofs.uses.no_features_at.Given as goal

abbrev pub invariant-loop-entry : goal.invariant-loop-entry
invariant-loop-entry l = l.made ≡ map (λ entry. []) (take l._entry-index l.entries)
