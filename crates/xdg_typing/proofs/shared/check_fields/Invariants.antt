use Rattle.std.proofs.Common.{◌≡◌, ℕ, List, [], map, drop}
use Rattle.xdg_domain.specs.Shapes.{Shape}
use Rattle.xdg_names.specs.First.{first, earlier}
use Rattle.xdg_typing.specs.Heads.{Knows}
use Rattle.xdg_typing.specs.KindFaults.{trees, shared_in}
use Rattle.xdg_typing.proofs.shared.check_fields.Given as goal

abbrev pub invariant-loop-ty : goal.invariant-loop-ty
invariant-loop-ty l =
    (names : List ℕ → Shape) → Knows names l.definitions.names (map (λ head. head.now) l.definitions.heads.items)
    → earlier l.found (first (shared_in names l.seen (trees (drop l.ty-index l.types)))) ≡ first (shared_in names [] (trees l.types))
