use Rattle.std.proofs.Common.{◌≡◌, map, take, length}
use Rattle.xdg_ast.specs.Same as bare
use Rattle.xdg_ast.proofs.comparing.types.+types.Given as goal

abbrev pub invariant-same_types-loop-at : goal.invariant-same_types-loop-at
invariant-same_types-loop-at l = (length l.one ≡ length l.other) × (map (bare.bare_part bare.bare_type) (take l.at l.one) ≡ map (bare.bare_part bare.bare_type) (take l.at l.other))

abbrev pub invariant-same_fields-loop-at : goal.invariant-same_fields-loop-at
invariant-same_fields-loop-at l = (length l.one ≡ length l.other) × (map (bare.bare_pair (bare.bare_part bare.bare_type)) (take l.at l.one) ≡ map (bare.bare_pair (bare.bare_part bare.bare_type)) (take l.at l.other))
