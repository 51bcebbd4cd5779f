use Rattle.std.proofs.Common.{◌≡◌, map, take}
use Rattle.xdg_types.specs.Parts.{definitions}
use Rattle.xdg_typing.proofs.graph.bodies.Given as goal

abbrev pub invariant-loop-statement : goal.invariant-loop-statement
invariant-loop-statement l = map (λ body. body.now) l.made.items ≡ map (λ d. d.body) (definitions (take l.statement-index l.statements))
