use Rattle.std.proofs.Common.{◌+◌}
use Rattle.xdg_classes.specs.Bodies.{body}
use Rattle.xdg_lexicon.specs.Frames.{open_in}
use Rattle.xdg_lexicon.specs.Weights.{heavy, sized, weigh}
use Rattle.xdg_lexicon.proofs.Framed.{Going}
use Rattle.xdg_lexicon.proofs.frames.Walk.enter.Given as goal

abbrev pub invariant-down : goal.invariant-down
invariant-down l =
    Going l.fn.checked (body l.fn.self.whole.now) (heavy l.fn.checked (open_in l.fn.self) l.fn.self.scope.depth + weigh (sized l.fn.checked l.fn.self.scope.depth) (body l.fn.part)) l.self (body l.kind)

abbrev pub decreases-down : goal.decreases-down
decreases-down l = weigh (sized l.fn.checked l.self.scope.depth) (body l.kind)
