use Rattle.std.proofs.Common.{◌≡◌, map, take, length}
use Rattle.xdg_ast.specs.Same as bare
use Rattle.xdg_ast.proofs.comparing.terms.+terms.Given as goal

abbrev pub invariant-same_elems-loop-at : goal.invariant-same_elems-loop-at
invariant-same_elems-loop-at l = (length l.one ≡ length l.other) × (map (bare.bare_part bare.bare_elem) (take l.at l.one) ≡ map (bare.bare_part bare.bare_elem) (take l.at l.other))
