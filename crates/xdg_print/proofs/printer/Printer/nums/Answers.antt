use Rattle.std.proofs.Common.{get_or}
use Rattle.std.proofs.lemmas.List.{get_or_default}
use Rattle.xdg_ast.specs.declared.names.Num.{Num}
use Rattle.xdg_ast.specs.Words.{number}
use Rattle.xdg_print.proofs.Put.{next_word}
use Rattle.xdg_print.proofs.printer.Printer.nums.Goals as goal

pub loop-num-preserved : goal.loop-num-preserved
loop-num-preserved c = next_word c.loop-num.self (λ (num : Num). number num.value) c.args.nums.now c.loop-num.num-index (get_or c.args.nums.now c.loop-num.num-index (record { value = 0; span = record { start = 0; end = 0 } })) c.loop-num-test.true (get_or_default _ _ _ _ c.loop-num-test.true) c.loop-num.invariant c.in_ok-num.ensures
