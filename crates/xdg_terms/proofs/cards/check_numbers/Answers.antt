use Rattle.std.proofs.Common.{rules}
use Rattle.xdg_terms.specs.Faults as spec
use Rattle.xdg_terms.proofs.Loops.{each_turn}
use Rattle.xdg_terms.proofs.cards.check_numbers.Goals as goal

pub loop-number-preserved : goal.loop-number-preserved
loop-number-preserved c = each_turn spec.too_big _ _ _ _ _ _ _ c.loop-number-test.true (search rules) c.check_number.ensures c.earlier-found.ensures c.loop-number.invariant
