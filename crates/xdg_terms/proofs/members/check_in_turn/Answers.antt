use Rattle.std.proofs.Common.{rules}
use Rattle.xdg_terms.proofs.Loops.{name_turn}
use Rattle.xdg_terms.proofs.members.check_in_turn.Goals as goal

pub loop-name-preserved : goal.loop-name-preserved
loop-name-preserved c =
    name_turn c.loop-name.left.now c.in-Some.rest.now c.in-Some.ty.now c.constants.result.now c.args.names.now c.loop-name.name-index c.name-item.result _ _ _ _ (search rules) c.constants.ensures c.loop-name-test.true c.name-item.is c.check_constant.ensures c.earlier-found.ensures c.loop-name.invariant
