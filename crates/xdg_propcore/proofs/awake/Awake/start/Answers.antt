use Rattle.xdg_propcore.proofs.Flags.{length_flags}
use Rattle.xdg_propcore.proofs.awake.Awake.start.Goals as goal

pub returns : goal.returns
returns c = length_flags c.in_ok-words.words.items c.args.count
