use Rattle.std.proofs.Common.{map}
use Rattle.xdg_types.specs.Parts.{Statement}
use Rattle.xdg_classes.specs.Lent.{class_def}
use Rattle.xdg_check.specs.Weights.{statement_bytes}
use Rattle.xdg_check.proofs.LeftOut.{count_next, count_end, counted_alone}
use Rattle.xdg_check.proofs.weighing.bytes_of.Goals as goal

pub loop-statement-preserved : goal.loop-statement-preserved
loop-statement-preserved c = λ named.
    count_next (λ (s : Statement). statement_bytes (map class_def c.args.classes.now.definitions) s.kind) c.args.statements.now c.loop-statement.statement-index c.statement-item.result 0 c.loop-statement.bytes c.in_ok-bytes.bytes
    c.loop-statement-test.true c.statement-item.is (c.in_ok-bytes.ensures named _) (c.loop-statement.invariant named)

pub returns : goal.returns
returns c = λ named. counted_alone _ _ (count_end (λ (s : Statement). statement_bytes (map class_def c.args.classes.now.definitions) s.kind) c.args.statements.now c.loop-statement.statement-index 0 c.loop-statement.bytes c.loop-statement-test.false (c.loop-statement.invariant named))
