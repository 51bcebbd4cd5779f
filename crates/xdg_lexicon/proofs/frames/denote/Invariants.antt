use Rattle.std.proofs.Common.{◌≡◌}
use Rattle.xdg_classes.specs.Bodies.{body}
use Rattle.xdg_lexicon.specs.Frames.{open_in, Leaves}
use Rattle.xdg_lexicon.specs.Weights.{heavy}
use Rattle.xdg_lexicon.proofs.frames.denote.Given as goal

abbrev pub invariant-walk : goal.invariant-walk
invariant-walk l = (body l.walk.whole.now ≡ body l.fn.whole) × Leaves l.fn.checked (body l.fn.whole) (open_in l.walk) l.walk.scope l.made.items

abbrev pub decreases-walk : goal.decreases-walk
decreases-walk l = heavy l.fn.checked (open_in l.walk) l.walk.scope.depth
