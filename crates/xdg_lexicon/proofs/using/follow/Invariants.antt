use Rattle.xdg_classes.specs.Bodies.{calling}
use Rattle.xdg_lexicon.specs.Weights.{weigh, sized}
use Rattle.xdg_lexicon.proofs.Followed.{Following}
use Rattle.xdg_lexicon.proofs.using.follow.Given as goal

abbrev pub invariant-loop-class : goal.invariant-loop-class
invariant-loop-class l = Following l.fn.checked l.fn.bindings (calling l.fn.name l.fn.args) (weigh (sized l.fn.checked l.fn.depth) (calling l.fn.name l.fn.args)) l.class l.inside l.left

abbrev pub decreases-loop-class : goal.decreases-loop-class
decreases-loop-class l = l.left
