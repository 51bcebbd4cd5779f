use Rattle.std.proofs.Common.{◌≡◌, map, take}
use Rattle.xdg_classes.specs.Bodies.{body}
use Rattle.xdg_classes.specs.Lent.{class_def}
use Rattle.xdg_check.specs.Completed.{completed}
use Rattle.xdg_check.specs.Made.{IsNamed}
use Rattle.xdg_check.proofs.completing.+complete.Given as goal

abbrev pub invariant-loop-member : goal.invariant-loop-member
invariant-loop-member l = IsNamed l.classes → map (λ e. body e.kind) l.made ≡ map (λ e. completed (map class_def l.classes.definitions) (body e.kind)) (take l.member-index l.member-items)

abbrev pub invariant-loop-member-2 : goal.invariant-loop-member-2
invariant-loop-member-2 l = IsNamed l.classes → map (λ e. body e.kind) l.made ≡ map (λ e. completed (map class_def l.classes.definitions) (body e.kind)) (take l.member-index l.member-items)
