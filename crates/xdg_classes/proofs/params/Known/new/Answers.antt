use Rattle.std.proofs.Common.{◌∙◌}
use Rattle.xdg_classes.proofs.Known.{told_new, told_same}
use Rattle.xdg_classes.proofs.params.Known.new.Goals as goal
use Rattle.xdg_classes.proofs.params.Known.new.Goals.{then-branch+in_ok-asked+in_ok-push, else-branch}

pub loop-definition-preserved : goal.loop-definition-preserved
loop-definition-preserved c = elim c.if-branch.branch [
  | then-branch+in_ok-asked+in_ok-push w ↦
      told_new c.args.definitions.now c.loop-definition.definition-index c.definition-item.result c.loop-definition-test.true c.definition-item.is
      c.loop-definition.names c.loop-definition.params c.loop-definition.invariant _ _ _ _ _ c.as_str.ensures c.in_ok-add.ensures.new c.in_ok-add.ensures.ok w.if-branch.true w.in_ok-asked.ensures (w.params-is ∙ w.in_ok-push.ensures.ok)
  | else-branch w ↦
      told_same c.args.definitions.now c.loop-definition.definition-index c.definition-item.result c.loop-definition-test.true c.definition-item.is
      c.loop-definition.names c.loop-definition.params c.loop-definition.invariant _ _ _ _ c.as_str.ensures c.in_ok-add.ensures.new c.in_ok-add.ensures.ok w.if-branch.false w.params-is
]
