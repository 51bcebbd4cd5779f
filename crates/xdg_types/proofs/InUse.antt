-- Uses at a place.
use Rattle.std.proofs.Common.{◌≡◌, inl, inr, ℕ, ap, Option, Some, None}
use Rattle.xdg_ast.specs.declared.names.Name.{Name}
use Rattle.xdg_names.specs.declared.graph.Use.{Use}
use Rattle.xdg_types.specs.Graph.{use_at}
use Rattle.xdg_facts.specs.Membership.{In}

pub in_use : (name : Name) (o : Option ℕ) (u : Use) → In (use_at name o) u → (o ≡ Some u.to)
in_use name None u h = absurd h
in_use name (Some k) u h = elim h [ inl e ↦ ap (λ x. Some x.to) e | inr n ↦ absurd n ]
