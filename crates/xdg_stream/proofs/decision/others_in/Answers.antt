use Rattle.xdg_stream.proofs.OtherValues.{all_others, but_others}
use Rattle.xdg_stream.proofs.decision.others_in.Goals as goal

pub returns-then-value-block : goal.returns-then-value-block
returns-then-value-block c = all_others c.args.block c.args.value c.if-value-block.true

pub returns : goal.returns
returns c = but_others c.args.block c.args.value c.if-value-block.false
