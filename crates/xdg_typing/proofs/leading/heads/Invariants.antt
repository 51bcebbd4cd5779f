use Rattle.std.proofs.Common.{◌≡◌, ℕ, List, map, length}
use Rattle.xdg_domain.specs.Shapes.{Shape}
use Rattle.xdg_typing.specs.Heads.{Agrees, RightBefore}
use Rattle.xdg_typing.proofs.leading.heads.Given as goal

abbrev pub invariant-loop-i : goal.invariant-loop-i
invariant-loop-i l =
    (length l.heads.items ≡ length l.bodies)
    × ((names : List ℕ → Shape) → Agrees names l.known (map (λ body. body.now) l.bodies) → RightBefore names l.known l.order l.i (map (λ head. head.now) l.heads.items))
