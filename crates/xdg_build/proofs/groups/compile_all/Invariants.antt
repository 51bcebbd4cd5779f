use Rattle.std.proofs.Common.{◌≡◌, ◌++◌, map, drop, filter}
use Rattle.std.specs.List.{AllZip}
use Rattle.xdg_build.specs.Grammars.{grammar_of, is_used}
use Rattle.xdg_build.specs.Groups.{group_of}
use Rattle.xdg_build.specs.Known.{IsKnownFor}
use Rattle.xdg_build.proofs.groups.compile_all.Given as goal

abbrev pub invariant-loop-place : goal.invariant-loop-place
invariant-loop-place l =
    (l.made ++ map (group_of (grammar_of l.checked l.packed) l.candidates) (filter (λ u. is_used l.checked.types u.home) (drop l.place l.uses))
    ≡ map (group_of (grammar_of l.checked l.packed) l.candidates) (filter (λ u. is_used l.checked.types u.home) l.uses))
    × AllZip (λ u known. IsKnownFor (grammar_of l.checked l.packed) u known.entries) l.uses l.kept
