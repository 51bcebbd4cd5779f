use Rattle.std.proofs.Common.{◌≡◌, ◌++◌, map, take}
use Rattle.xdg_types.specs.Parts.{definitions_in}
use Rattle.xdg_typing.proofs.graph.add_bodies.Given as goal

abbrev pub invariant-loop-part : goal.invariant-loop-part
invariant-loop-part l = map (λ body. body.now) l.made.items ≡ map (λ body. body.now) l.initial.made.items ++ map (λ d. d.body) (definitions_in (take l.part-index l.parts))
