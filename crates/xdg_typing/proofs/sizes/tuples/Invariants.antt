use Rattle.std.proofs.Common.{◌≡◌, ℕ, ◌*◌, ◌-◌, ◌^◌, ◌≤◌, List, map, drop}
use Rattle.std.specs.Prelude.{min}
use Rattle.xdg_domain.specs.Shapes.{Shape, sizes, product}
use Rattle.xdg_typing.specs.Heads.{Knows}
use Rattle.xdg_types.specs.Meaning.{domains_meaning}
use Rattle.xdg_typing.specs.KindFaults.{trees}
use Rattle.xdg_typing.proofs.sizes.tuples.Given as goal

abbrev pub invariant-loop-ty : goal.invariant-loop-ty
invariant-loop-ty l = record {
  small : l.product ≤ 2 ^ 64 - 1;
  is : (names : List ℕ → Shape) → Knows names l.definitions.names (map (λ head. head.now) l.definitions.heads.items)
      → min (l.product * product (sizes (domains_meaning names (trees (drop l.ty-index l.types))))) (2 ^ 64 - 1) ≡ min (product (sizes (domains_meaning names (trees l.types)))) (2 ^ 64 - 1);
}
