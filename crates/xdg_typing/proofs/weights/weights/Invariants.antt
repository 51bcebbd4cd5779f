use Rattle.std.proofs.Common.{◌≡◌, ℕ, List, map, length}
use Rattle.xdg_domain.specs.Shapes.{Shape}
use Rattle.xdg_typing.specs.Heads.{Agrees}
use Rattle.xdg_typing.specs.Weights.{WeighedBefore}
use Rattle.xdg_typing.proofs.weights.weights.Given as goal

abbrev pub invariant-loop-i : goal.invariant-loop-i
invariant-loop-i l =
    (length l.weights.items ≡ length l.bodies)
    × ((names : List ℕ → Shape) → Agrees names l.known (map (λ body. body.now) l.bodies) → WeighedBefore names l.known l.order l.i l.weights.items)
