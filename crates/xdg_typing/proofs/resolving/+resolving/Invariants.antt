use Rattle.std.proofs.Common.{◌≡◌, ◌+◌, ◌*◌, ℕ, List, map, take}
use Rattle.xdg_domain.specs.Shapes.{Shape, shape}
use Rattle.xdg_typing.specs.Heads.{Knows}
use Rattle.xdg_types.specs.Table.{typed}
use Rattle.xdg_typing.specs.Branches.{domain_meaning, field_meaning}
use Rattle.xdg_typing.proofs.resolving.+resolving.Given as goal

abbrev pub decreases-resolve : goal.decreases-resolve
decreases-resolve l = 4 * l.room

abbrev pub decreases-resolve_domain : goal.decreases-resolve_domain
decreases-resolve_domain l = 4 * l.room + 1

abbrev pub decreases-resolve_domains : goal.decreases-resolve_domains
decreases-resolve_domains l = 4 * l.room + 2

abbrev pub decreases-resolve_members : goal.decreases-resolve_members
decreases-resolve_members l = 4 * l.room + 2

abbrev pub decreases-resolve_form : goal.decreases-resolve_form
decreases-resolve_form l = 4 * l.room + 3

abbrev pub invariant-resolve_domains-loop-ty : goal.invariant-resolve_domains-loop-ty
invariant-resolve_domains-loop-ty l = (names : List ℕ → Shape) → Knows names l.definitions.names (map (λ head. head.now) l.definitions.heads.items) → map shape l.all ≡ map (domain_meaning names) (take l.ty-index l.types)

abbrev pub invariant-resolve_members-loop-field : goal.invariant-resolve_members-loop-field
invariant-resolve_members-loop-field l = (names : List ℕ → Shape) → Knows names l.definitions.names (map (λ head. head.now) l.definitions.heads.items) → typed l.all ≡ map (field_meaning names) (take l.field-index l.fields)
