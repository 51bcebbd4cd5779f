use Rattle.std.proofs.Common.{◌≡◌, ℕ, List, map, drop}
use Rattle.xdg_domain.specs.Shapes.{Shape}
use Rattle.xdg_typing.specs.Heads.{Knows}
use Rattle.xdg_types.specs.Kinds.{are_domains}
use Rattle.xdg_types.specs.Meaning.{domains_meaning}
use Rattle.xdg_typing.specs.KindFaults.{trees}
use Rattle.xdg_typing.proofs.wanted.are_domains.Given as goal

abbrev pub invariant-loop-ty : goal.invariant-loop-ty
invariant-loop-ty l =
    (names : List ℕ → Shape) → Knows names l.definitions.names (map (λ head. head.now) l.definitions.heads.items)
    → are_domains (domains_meaning names (trees (drop l.ty-index l.types))) ≡ are_domains (domains_meaning names (trees l.types))
