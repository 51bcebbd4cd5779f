use Rattle.std.proofs.Common.{◌≡◌, map, drop}
use Rattle.xdg_types.specs.NameFaults.{with_all, different}
use Rattle.xdg_classes.specs.NameFaults as spec
use Rattle.xdg_classes.proofs.params.needed.Given as goal

abbrev pub invariant-loop-param : goal.invariant-loop-param
invariant-loop-param l =
    (map (λ text. text.now) l.made ≡ l.seen)
    × (with_all l.seen (spec.bare_names (drop l.param-index l.params)) ≡ different (spec.bare_names l.params))
