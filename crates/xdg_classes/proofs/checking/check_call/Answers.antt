use Rattle.std.proofs.Common.{subst}
use Rattle.xdg_names.specs.First.{Tells}
use Rattle.xdg_classes.specs.Given.{told}
use Rattle.xdg_classes.specs.Wrong as wrong
use Rattle.xdg_classes.proofs.Telling.{some_turn, some_end}
use Rattle.xdg_classes.proofs.checking.check_call.Goals as goal

pub loop-arg-preserved : goal.loop-arg-preserved
loop-arg-preserved c = some_turn (λ arg. wrong.ValueWrong ((told c.args.classes.now.names c.args.known.now) c.args.call.now.name.now.text arg.key.text) c.args.params.now arg.value) c.args.call.now.args.now c.loop-arg.arg-index c.arg-item.result c.loop-arg.found _ _ c.loop-arg-test.true c.arg-item.is (subst (λ n. Tells (wrong.ValueWrong ((told c.args.classes.now.names c.args.known.now) n c.arg-item.result.key.text) c.args.params.now c.arg-item.result.value) c.check_value-fault.result) c.as_str.ensures (subst (λ n. Tells (wrong.ValueWrong ((told c.args.classes.now.names c.args.known.now) c.as_str.result.now n) c.args.params.now c.arg-item.result.value) c.check_value-fault.result) c.as_str-in-loop-arg.ensures c.check_value-fault.ensures)) c.earlier-found.ensures c.loop-arg.invariant

pub returns : goal.returns
returns c = some_end (λ arg. wrong.ValueWrong ((told c.args.classes.now.names c.args.known.now) c.args.call.now.name.now.text arg.key.text) c.args.params.now arg.value) c.args.call.now.args.now c.loop-arg.arg-index c.loop-arg.found c.loop-arg-test.false c.loop-arg.invariant
