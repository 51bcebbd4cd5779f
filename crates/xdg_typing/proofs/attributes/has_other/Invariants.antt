use Rattle.std.proofs.Common.{◌≡◌, ℕ, List, map, drop}
use Rattle.xdg_domain.specs.Shapes.{Shape}
use Rattle.xdg_typing.specs.Heads.{Knows}
use Rattle.xdg_types.specs.Meaning.{fields_meaning}
use Rattle.xdg_typing.specs.KindFaults.{members, has_other}
use Rattle.xdg_typing.proofs.attributes.has_other.Given as goal

abbrev pub invariant-loop-field : goal.invariant-loop-field
invariant-loop-field l =
    (names : List ℕ → Shape) → Knows names l.definitions.names (map (λ head. head.now) l.definitions.heads.items)
    → has_other (fields_meaning names (members (drop l.field-index l.fields))) ≡ has_other (fields_meaning names (members l.fields))
