use Rattle.std.proofs.Common.{◌≡◌, ℕ, List, map, drop}
use Rattle.std.specs.List.{flat_map}
use Rattle.xdg_domain.specs.Shapes.{Shape}
use Rattle.xdg_names.specs.First.{first, earlier}
use Rattle.xdg_typing.specs.Heads.{Knows}
use Rattle.xdg_types.specs.Kinds.{part_sites}
use Rattle.xdg_typing.specs.KindFaults.{faults_in}
use Rattle.xdg_typing.proofs.kinds.check_parts.Given as goal

abbrev pub invariant-loop-part : goal.invariant-loop-part
invariant-loop-part l =
    (names : List ℕ → Shape) → Knows names l.definitions.names (map (λ head. head.now) l.definitions.heads.items)
    → earlier l.found (first (faults_in names (flat_map (λ part. part_sites part.kind) (drop l.part-index l.parts)))) ≡ first (faults_in names (flat_map (λ part. part_sites part.kind) l.parts))
