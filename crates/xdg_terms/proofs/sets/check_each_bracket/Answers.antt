use Rattle.std.proofs.Common.{map}
use Rattle.xdg_domain.specs.Shapes.{shape, shapes_of}
use Rattle.xdg_terms.specs.Faults as spec
use Rattle.xdg_terms.proofs.Loops.{each_turn}
use Rattle.xdg_terms.proofs.sets.check_each_bracket.Goals as goal

pub loop-elem-preserved : goal.loop-elem-preserved
loop-elem-preserved c = each_turn (spec.bracket_missing (shapes_of (map shape c.args.types.now))) _ _ _ _ _ _ _ c.loop-elem-test.true c.elem-item.is c.check_bracket.ensures c.earlier-found.ensures c.loop-elem.invariant
