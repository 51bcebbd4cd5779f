use Rattle.std.proofs.Common.{◌≡◌, map, take, length}
use Rattle.xdg_ast.specs.Same as bare
use Rattle.xdg_ast.proofs.comparing.terms.+generators.Given as goal

abbrev pub invariant-same_gens-loop-at : goal.invariant-same_gens-loop-at
invariant-same_gens-loop-at l = (length l.one ≡ length l.other) × (map (bare.bare_part bare.bare_gen) (take l.at l.one) ≡ map (bare.bare_part bare.bare_gen) (take l.at l.other))
