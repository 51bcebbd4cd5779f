use Rattle.std.proofs.Common.{◌≡◌, map, take, length}
use Rattle.xdg_ast.specs.Same as bare
use Rattle.xdg_ast.proofs.comparing.names.same_pairs.Given as goal

abbrev pub invariant-loop-at : goal.invariant-loop-at
invariant-loop-at l = (length l.one ≡ length l.other) × (map (bare.bare_pair bare.bare_name) (take l.at l.one) ≡ map (bare.bare_pair bare.bare_name) (take l.at l.other))
