use Rattle.std.proofs.Common.{◌≡◌, ℕ, List, map, drop}
use Rattle.xdg_domain.specs.Shapes.{Shape}
use Rattle.xdg_names.specs.First.{first, earlier}
use Rattle.xdg_typing.specs.Heads.{Knows}
use Rattle.xdg_types.specs.Kinds.{inside_trees, inside_members}
use Rattle.xdg_typing.specs.KindFaults.{asked, trees, members, faults_in}
use Rattle.xdg_typing.proofs.walk.+walk.Given as goal

abbrev pub invariant-check_types-loop-ty : goal.invariant-check_types-loop-ty
invariant-check_types-loop-ty l =
    (names : List ℕ → Shape) → Knows names l.definitions.names (map (λ head. head.now) l.definitions.heads.items)
    → earlier l.found (first (faults_in names (inside_trees (trees (drop l.ty-index l.types))))) ≡ first (faults_in names (inside_trees (trees l.types)))

abbrev pub invariant-check_members-loop-field : goal.invariant-check_members-loop-field
invariant-check_members-loop-field l =
    (names : List ℕ → Shape) → Knows names l.definitions.names (map (λ head. head.now) l.definitions.heads.items)
    → earlier l.found (first (faults_in names (inside_members (asked l.wanted) (members (drop l.field-index l.fields))))) ≡ first (faults_in names (inside_members (asked l.wanted) (members l.fields)))
