use Rattle.xdg_searches.proofs.Numbering.{numbered_start}
use Rattle.xdg_searches.proofs.generator.push_numbered.Goals as goal

pub loop-number-init : goal.loop-number-init
loop-number-init c = numbered_start c.args.before.now c.args.after.now c.args.text.now
