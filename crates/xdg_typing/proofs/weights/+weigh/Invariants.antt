use Rattle.std.proofs.Common.{◌≡◌, drop}
use Rattle.xdg_types.proofs.Treed.{trees, members}
use Rattle.xdg_typing.specs.Weights.{named_weight, beside_trees, beside_members}
use Rattle.xdg_typing.proofs.weights.+weigh.Given as goal

abbrev pub invariant-loop-field : goal.invariant-loop-field
invariant-loop-field l = beside_trees (named_weight l.names l.weights) l.all (trees (drop l.field-index l.field-items)) ≡ beside_trees (named_weight l.names l.weights) 0 (trees l.field-items)

abbrev pub invariant-loop-pair : goal.invariant-loop-pair
invariant-loop-pair l = beside_members (named_weight l.names l.weights) l.all (members (drop l.pair-index l.pair-items)) ≡ beside_members (named_weight l.names l.weights) 0 (members l.pair-items)
